-- What a turn of the matching of two shapes leaves: the same fault, and the strides of the axes that are left.
use Rattle.std.proofs.Common.{◌≡◌, ◌≢◌, ℕ, zero, suc, ◌+◌, ◌*◌, ◌<◌, ◌≤◌, ◌==◌, ◌&&◌, Bool, true, false, ℤ, pos, List, [], ◌∷◌, ◌++◌}
use Rattle.std.proofs.Common.{length, get_or, take, drop, refl, sym, ap, ap₂, ◌∙◌, inl, inr, arith, subst, add-one, None}
use Rattle.std.specs.Prelude.{if◌then◌else◌}
use Rattle.std.proofs.Math.Nat.{eq_of_mul-eq-mul_left, mul-le-mul_left, mul-le-mul_right, one-mul}
use Rattle.std.proofs.lemmas.Bool.{cases_Bool, cases_eq, cond-true, eqb-true, ne_eqb}
use Rattle.std.proofs.lemmas.Int.{ints}
use Rattle.nd_base.proofs.Laws.Definitions.{is_empty, size}
use Rattle.nd_base.proofs.Laws.Size.{size_of_nonempty}
use Rattle.nd_dim.specs.Strides.{size_after, size_until}
use Rattle.ndarray_layout.specs.reshape.ForcedStrides.{offset_at_flat_index, ones_before, strides_of_ones}
use Rattle.ndarray_layout.specs.private.ReshapeProgress.{CanMatch, GoesOn, Layouts, fault_of, forced, forced_at, with_from, with_to}
use Rattle.ndarray_layout.proofs.matching.BadJoints.{bad-both, bad-from-one, bad-to-one, eqb-times, is_product}
use Rattle.ndarray_layout.proofs.matching.BadJoints.{product-none, product-times}
use Rattle.ndarray_layout.proofs.matching.Faults.{fault-same, none-parts}
use Rattle.ndarray_layout.proofs.matching.FlatOffsets.{offset-one, offset-whole, offset-within}
use Rattle.ndarray_layout.proofs.matching.Forced.{size_after-below, stride_at-long}
use Rattle.ndarray_layout.proofs.matching.HasIndex.{is_empty-rest, some-len, take-some}
use Rattle.ndarray_layout.proofs.matching.OnesRead.{ones-none, ones-past, ones_before-past}
use Rattle.ndarray_layout.proofs.matching.StridesAt.{AreDecidedAlike, forced-next, forced-same}

-- ---- from here to there
pub goes-through : {both middle rest : Layouts} {given others : List ℤ → List ℤ} → GoesOn both given middle → GoesOn middle others rest
    → GoesOn both (λ ss. given (others ss)) rest
goes-through {given = given} first next = record {
  can_match = next.can_match;
  fault = first.fault ∙ next.fault;
  strides = λ none. first.strides none ∙ ap given (next.strides (sym first.fault ∙ none));
}

-- ---- what can be matched
pub can-past-from : {len : ℕ} {s : ℤ} {rest : Layouts} → CanMatch (with_from len s rest) → CanMatch rest
can-past-from {len} {s} {rest} can =
    let some = some-len len rest.from can.some in
    let more : 1 * size rest.from ≤ len * size rest.from = mul-le-mul_right (size rest.from) some in
    let count = can.same_count in
    let fits = can.from_fits in
    let span_fits = can.span_fits in
    record {
      same_count = omega arith;
      some = is_empty-rest len rest.from can.some;
      more = can.more;
      from_fits = omega arith;
      to_fits = can.to_fits;
      span_fits = omega arith;
    }

pub can-past-to : {len : ℕ} {rest : Layouts} → CanMatch (with_to len rest) → CanMatch rest
can-past-to {len} {rest} can =
    let some = some-len len rest.to can.more in
    let more : 1 * size rest.to ≤ len * size rest.to = mul-le-mul_right (size rest.to) some in
    let fits = can.to_fits in
    record {
      same_count = can.same_count;
      some = can.some;
      more = is_empty-rest len rest.to can.more;
      from_fits = can.from_fits;
      to_fits = omega arith;
      span_fits = can.span_fits;
    }

pub size_after-next : (len : ℕ) (lens : List ℕ) (axis : ℕ) → size_after (len ∷ lens) (suc axis) ≡ size_after lens axis
size_after-next len lens axis = ap (λ n. size (drop n (len ∷ lens))) (add-one (suc axis))
    ∙ sym (ap (λ n. size (drop n lens)) (add-one axis))

-- ---- an axis of one length of each
pub turn-both : {len : ℕ} {s : ℤ} {rest : Layouts} → CanMatch (with_from len s (with_to len rest))
    → GoesOn (with_from len s (with_to len rest)) (λ ss. s ∷ ss) rest
turn-both {len} {s} {rest} can = record {
  can_match = after;
  fault = fault-same both rest (bad-both len rest.from s rest.strides rest.to some) (eqb-times len (size rest.from) (size rest.to) some);
  strides = λ none. forced-next both rest after.more refl (alike none) ∙ ap (λ z. z ∷ forced rest) (first none);
}
  where
    both : Layouts
    both = with_from len s (with_to len rest)

    after : CanMatch rest
    after = can-past-to (can-past-from can)

    some : 0 < len
    some = some-len len rest.from can.some

    sizes : fault_of both ≡ None → size rest.from ≡ size rest.to
    sizes none = eq_of_mul-eq-mul_left len some (size rest.from) (size rest.to) (none-parts both.from both.strides both.to none).0

    first : fault_of both ≡ None → forced_at both 0 ≡ s
    first none = elim (cases_eq len 1) [
      | inl one ↦ subst (λ n. forced_at (with_from n s (with_to n rest)) 0 ≡ s) (sym one) refl
      | inr other ↦ stride_at-long both.from both.strides both.to 0 (let here = some in omega arith)
          ∙ offset-whole len rest.from s rest.strides 1 (size_of_nonempty rest.from after.some) (one-mul (size rest.from) ∙ sizes none)
          ∙ omega (arith, ints)
    ]

    by : (b : Bool) (xs : List ℤ) (n : ℕ) → get_or ((if b then s ∷ [] else []) ++ xs) ((if b then 1 else 0) + n) (pos 1) ≡ get_or xs n
        (pos 1)
    by true xs n = let next : 1 + n ≡ suc n = omega arith in ap (λ k. get_or (s ∷ xs) k (pos 1)) next
    by false xs n = let same : 0 + n ≡ n = omega arith in ap (λ k. get_or xs k (pos 1)) same

    alike : fault_of both ≡ None → (later : ℕ) → later < length rest.to → AreDecidedAlike both (suc later) rest later
    alike none later l =
        let q = size_until rest.to later in
        record {
          len = refl;
          long = λ long.
              let few = size_after-below rest.to later after.more l long in
              let same = sizes none in
              ap (offset_at_flat_index both.from both.strides) (size_after-next len rest.to later)
              ∙ offset-within len rest.from s rest.strides (omega arith);
          product = product-times len rest.from q some;
          read = λ one known.
              ap₂ (λ xs n. get_or xs n (pos 1)) (ones-past len rest.from s rest.strides q some) (ones_before-past len rest.to q later some)
              ∙ by (len == 1 && (1 == len * q)) (strides_of_ones rest.from rest.strides q) (ones_before rest.to q later);
        }

-- ---- one of length 1 of the old shape alone
product-more : (lens : List ℕ) (axis : ℕ) → is_empty lens ≡ false → get_or lens 0 0 ≢ 1 → 0 < axis → axis < length lens
    → 1 < size (take axis lens)
product-more [] axis some longer after l = absurd (omega arith)
product-more (len ∷ lens) zero some longer after l = absurd (omega arith)
product-more (len ∷ lens) (suc axis) some longer after l =
    let here = some-len len lens some in
    let more : len * 1 ≤ len * size (take axis lens) = mul-le-mul_left len (take-some lens axis (is_empty-rest len lens some)) in
    let one : len ≢ 1 = longer in
    omega arith

pub turn-from-one : {s : ℤ} {rest : Layouts} → CanMatch (with_from 1 s rest) → get_or rest.to 0 0 ≢ 1
    → GoesOn (with_from 1 s rest) (λ ss. ss) rest
turn-from-one {s} {rest} can longer = record {
  can_match = after;
  fault = fault-same both rest (bad-from-one rest.from s rest.strides rest.to) (ap (λ n. n == size rest.to) (one-mul (size rest.from)));
  strides = λ none. forced-same both rest after.more refl (alike none);
}
  where
    both : Layouts
    both = with_from 1 s rest

    after : CanMatch rest
    after = can-past-from can

    alike : fault_of both ≡ None → (later : ℕ) → later < length rest.to → AreDecidedAlike both later rest later
    alike none later l =
        let q = size_until rest.to later in
        let sizes : 1 * size rest.from ≡ size rest.to = (none-parts both.from both.strides both.to none).0 in
        record {
          len = refl;
          long = λ long.
              let few = size_after-below rest.to later after.more l long in
              offset-one rest.from s rest.strides (omega arith);
          product = ap (is_product both.from) (sym (one-mul q)) ∙ product-times 1 rest.from q (omega arith);
          read = λ one known.
              let more = product-more rest.to later after.more longer (elim (cases_eq later 0) [
                | inl first ↦ absurd (longer (sym (ap (λ n. get_or rest.to n 0) first) ∙ one))
                | inr later_on ↦ omega arith
              ]) l in
              ap (λ xs. get_or xs (ones_before rest.to q later) (pos 1))
              (ap (strides_of_ones both.from both.strides) (sym (one-mul q)) ∙ ones-past 1 rest.from s rest.strides q (omega arith)
              ∙ ap (λ b. (if b then s ∷ [] else []) ++ strides_of_ones rest.from rest.strides q) (ne_eqb 1 (1 * q) (λ e. omega arith)));
        }

-- ---- of the new one alone
pub turn-to-one : {rest : Layouts} → CanMatch (with_to 1 rest) → get_or rest.from 0 0 ≢ 1
    → GoesOn (with_to 1 rest) (λ ss. pos 1 ∷ ss) rest
turn-to-one {rest} can longer = record {
  can_match = after;
  fault = fault-same both rest (bad-to-one rest.from rest.strides rest.to) (ap (λ n. size rest.from == n) (one-mul (size rest.to)));
  strides = λ none. forced-next both rest after.more refl alike ∙ ap (λ z. z ∷ forced rest) first;
}
  where
    both : Layouts
    both = with_to 1 rest

    after : CanMatch rest
    after = can-past-to can

    first : forced_at both 0 ≡ pos 1
    first = cond-true (is_product rest.from 1) (get_or (strides_of_ones rest.from rest.strides 1) 0 (pos 1)) (pos 1)
        (product-none rest.from)
        ∙ ap (λ xs. get_or xs 0 (pos 1)) (ones-none rest.from rest.strides can.same_count can.some longer)

    alike : (later : ℕ) → later < length rest.to → AreDecidedAlike both (suc later) rest later
    alike later l =
        let q = size_until rest.to later in
        record {
          len = refl;
          long = λ long. ap (offset_at_flat_index rest.from rest.strides) (size_after-next 1 rest.to later);
          product = ap (is_product rest.from) (one-mul q);
          read = λ one known.
              ap₂ (λ n k. get_or (strides_of_ones rest.from rest.strides n) k (pos 1)) (one-mul q)
              (ones_before-past 1 rest.to q later (omega arith))
              ∙ elim (cases_Bool (1 == 1 * q)) [
                | inl first ↦
                    let at_one : q ≡ 1 = let e = eqb-true 1 (1 * q) first in omega arith in
                    let none : strides_of_ones rest.from rest.strides q ≡ [] = ap (strides_of_ones rest.from rest.strides) at_one
                    ∙ ones-none rest.from rest.strides can.same_count can.some longer in
                    ap (λ xs. get_or xs ((if 1 == 1 * q then 1 else 0) + ones_before rest.to q later) (pos 1)) none
                    ∙ sym (ap (λ xs. get_or xs (ones_before rest.to q later) (pos 1)) none)
                | inr other ↦
                    let same : 0 + ones_before rest.to q later ≡ ones_before rest.to q later = omega arith in
                    ap (λ k. get_or (strides_of_ones rest.from rest.strides q) k (pos 1))
                    (ap (λ b. (if b then 1 else 0) + ones_before rest.to q later) other ∙ same)
              ];
        }
