-- Marks for the axes that a list names: a list of as many axes as there are, none of them marked before, has each axis once.
use Rattle.std.proofs.Common.{◌≡◌, ◌≢◌, ℕ, zero, suc, ◌+◌, ◌<◌, ◌≤◌, true, false, List, length, get_or, replicate, set, refl}
use Rattle.std.proofs.Common.{sym, ap, ◌∙◌, inl, inr, arith}
use Rattle.std.specs.List.{AllPairs, Contains}
use Rattle.std.proofs.lemmas.Bool.{cases_eq, cases_lt, false_from_ne_true}
use Rattle.std.proofs.lemmas.List.{get_or_default, get_or-set_other, get_or-set_same, length-replicate, length-set}
use Rattle.std.proofs.lemmas.List.Sorted.{IsPermutation-sym}
use Rattle.nd_base.proofs.Laws.Below.{get_or-below, length-below}
use Rattle.nd_base.proofs.Laws.Definitions.{below}
use Rattle.nd_dim.specs.AxesInOrder.{is_axis_order}
use Rattle.nd_dim.proofs.Laws.AxesInOrder.{item_below, order_of_permutation, position_of, position_of_item}
use Rattle.nd_dim.proofs.Laws.Rearranged.{permutation_from_members}

-- the first of the named axes are there, no two of them are one, and they alone are marked
pub record AreMarked (n count : ℕ) (numbers marks : List ℕ) : Type 0 where
  pub as_many : length marks ≡ n
  pub there : (k : ℕ) → k < count → get_or numbers k 0 < n
  pub apart : (j k : ℕ) → j < k → k < count → get_or numbers j 0 ≢ get_or numbers k 0
  pub marked : (k : ℕ) → k < count → get_or marks (get_or numbers k 0) 0 ≡ 1
  pub alone : (m : ℕ) → get_or marks m 0 ≢ 0 → (k : ℕ) × (k < count) × (get_or numbers k 0 ≡ m)

zeros : (n m : ℕ) → get_or (replicate {A = ℕ} n 0) m 0 ≡ 0
zeros zero m = refl
zeros (suc n) zero = refl
zeros (suc n) (suc m) = zeros n m

-- at first there is no mark
pub none_marked : (n : ℕ) (numbers : List ℕ) → AreMarked n 0 numbers (replicate n 0)
none_marked n numbers = record {
  as_many = length-replicate n 0;
  there = λ k h. absurd (omega arith);
  apart = λ j k h g. absurd (omega arith);
  marked = λ k h. absurd (omega arith);
  alone = λ m mark. absurd (mark (zeros n m));
}

-- one more
pub one_more_marked : {n count : ℕ} {numbers marks : List ℕ} → AreMarked n count numbers marks → get_or numbers count 0 < n
    → get_or marks (get_or numbers count 0) 0 ≡ 0 → AreMarked n (count + 1) numbers (set marks (get_or numbers count 0) 1)
one_more_marked {n} {count} {numbers} {marks} so_far within free =
    let number = get_or numbers count 0 in
    let long = so_far.as_many in
    let new : (k : ℕ) → k < count → get_or numbers k 0 ≢ number = λ k h same.
    let mark = so_far.marked k h in
    let none = ap (λ m. get_or marks m 0) same ∙ free in
    absurd (omega arith) in
    record {
      as_many = length-set marks number 1 ∙ so_far.as_many;
      there = λ k h. elim (cases_lt k count) [
        | inl earlier ↦ so_far.there k earlier
        | inr last ↦
            let same : k ≡ count = omega arith in
            rw same within
      ];
      apart = λ j k h g. elim (cases_lt k count) [
        | inl earlier ↦ so_far.apart j k h earlier
        | inr last ↦
            let same : k ≡ count = omega arith in
            rw same (new j (omega arith))
      ];
      marked = λ k h. elim (cases_lt k count) [
        | inl earlier ↦
            get_or-set_other marks number (get_or numbers k 0) 1 0 (new k earlier) ∙ so_far.marked k earlier
        | inr last ↦
            let same : k ≡ count = omega arith in
            rw same (get_or-set_same marks number 1 0 (omega arith))
      ];
      alone = λ m mark. elim (cases_eq m number) [
        | inl last ↦ (count, omega arith, sym last)
        | inr other ↦
            let found = so_far.alone m (λ none. mark (get_or-set_other marks number m 1 0 other ∙ none)) in
            (found.0, omega (arith, found.1), found.2)
      ];
    }

-- as many as there are axes
pub all_marked : {n : ℕ} {numbers marks : List ℕ} → AreMarked n n numbers marks → length numbers ≡ n → is_axis_order n numbers ≡ true
all_marked {n} {numbers} {marks} each long =
    let apart : AllPairs (λ a b. a ≢ b) numbers = λ i j d h g same.
    each.apart i j h (omega arith) (get_or_default numbers i 0 d (omega arith) ∙ same ∙ sym (get_or_default numbers j 0 d g)) in
    let members : (z : ℕ) → Contains numbers z → Contains (below n) z = λ z named.
    let number : get_or numbers named.0 0 ≡ z = get_or_default numbers named.0 0 z named.1 ∙ named.2 in
    let in_bounds : z < n = rw number at (each.there named.0 (omega (arith, named.1))) in
    (z, omega (arith, length-below n), get_or-below n z z in_bounds) in
    order_of_permutation n numbers (IsPermutation-sym numbers (below n)
    (permutation_from_members numbers (below n) apart (long ∙ sym (length-below n)) members))

-- nor is one with an axis that isn't there, or that is marked already
pub order_of_no_axis : (n count : ℕ) (numbers : List ℕ) → count < length numbers → n ≤ get_or numbers count 0
    → false ≡ is_axis_order n numbers
order_of_no_axis n count numbers named past =
    sym (false_from_ne_true (is_axis_order n numbers) (λ order. let there = item_below n numbers order count named in absurd (omega arith)))

pub order_of_axis_twice : {n count : ℕ} {numbers marks : List ℕ} → AreMarked n count numbers marks → count < length numbers
    → get_or marks (get_or numbers count 0) 0 ≢ 0 → false ≡ is_axis_order n numbers
order_of_axis_twice {n} {count} {numbers} {marks} so_far named twice =
    sym (false_from_ne_true (is_axis_order n numbers) (λ order.
    let found = so_far.alone (get_or numbers count 0) twice in
    let before = found.1 in
    let first = position_of_item n numbers order found.0 (omega arith) in
    let second = position_of_item n numbers order count named in
    let same : found.0 ≡ count = sym first ∙ ap (λ axis. position_of axis numbers) found.2 ∙ second in
    absurd (omega arith)))
