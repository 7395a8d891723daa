-- Laws of counts of each number of a list, as a loop over the list makes them: what was counted and what is left are all.
use Rattle.std.proofs.Common.{◌≡◌, ℕ, ◌+◌, ◌<◌, ◌≤◌, Bool, false, Option, Some, List, [], ◌∷◌, length, get_or}
use Rattle.std.proofs.Common.{set, replicate, refl, sym, ap, subst, ◌∙◌, arith, inl, inr}
use Rattle.std.specs.List.{count_by}
use Rattle.std.specs.Option.{option_map_or}
use Rattle.std.specs.Prelude.{cond, nat_eq}
use Rattle.std.proofs.lemmas.Bool.{cases_eq, eq-eqb, ne_eqb}
use Rattle.std.proofs.lemmas.List.{get_or-replicate, get_or-set_other, get_or-set_same, length-replicate, length-set}
use Rattle.std.proofs.lemmas.List.Sums.{count_by-le-length, sum_by-cons}
use Rattle.ndarray_layout.specs.declared.Order.TheVariants.{RowMajor}
use Rattle.nd_lent.proofs.Laws.PermutedItems.{items_by}
use Rattle.nd_access.specs.Items.{ArrayValue}

-- whether an item is a number
abbrev pub is_number : ℕ → Option ℕ → Bool
is_number number item = option_map_or (nat_eq number) item false

-- each of so many numbers was counted as often as the items have it, but for those that are left
pub record AreCounted (many : ℕ) (counts : List ℕ) (left all : List (Option ℕ)) : Type 0 where
  pub room : length counts ≡ many
  pub each : (number : ℕ) → number < many → get_or counts number 0 + count_by (is_number number) left ≡ count_by (is_number number) all

-- the same of the items of an array, in row-major order
abbrev pub AreCountedOf : ArrayValue ℕ → ℕ → List ℕ → List (Option ℕ) → Type 0
AreCountedOf array many counts left = AreCounted many counts left (items_by RowMajor array)

-- at first none
pub none_counted : {many : ℕ} {left all : List (Option ℕ)} → left ≡ all → AreCounted many (replicate many 0) left all
none_counted {many} {left} {all} same = subst (λ items. AreCounted many (replicate many 0) items all) (sym same) (record {
  room = length-replicate many 0;
  each = λ number there. omega (arith, get_or-replicate {A = ℕ} many number 0 0 there);
})

abbrev one_if : Bool → ℕ
one_if b = cond b 1 0

-- what is left has one more of a number
first : (number item : ℕ) (left : List (Option ℕ))
    → count_by (is_number number) (Some item ∷ left) ≡ cond (nat_eq number item) 1 0 + count_by (is_number number) left
first number item left = sum_by-cons (λ other. cond (is_number number other) 1 0) (Some item) left

module _ {many : ℕ} {counts : List ℕ} {now left all : List (Option ℕ)} (item : ℕ) (to_now : AreCounted many counts now all)
    (next : now ≡ Some item ∷ left) (there : item < many) where
  so_far : AreCounted many counts (Some item ∷ left) all
  so_far = subst (λ items. AreCounted many counts items all) next to_now

  -- then one more
  pub one_counted : AreCounted many (set counts item (get_or counts item 0 + 1)) left all
  one_counted = record {
    room = length-set counts item (get_or counts item 0 + 1) ∙ so_far.room;
    each = λ number here. elim (cases_eq number item) [
      | inl same ↦
          let now = ap (λ n. get_or (set counts item (get_or counts item 0 + 1)) n 0) same in
          omega (
            arith,
            so_far.each number here,
            first number item left,
            ap one_if (eq-eqb number item same),
            now,
            ap (λ n. get_or counts n 0) same,
            get_or-set_same counts item (get_or counts item 0 + 1) 0 (omega (arith, there, so_far.room)),
          )
      | inr other ↦ omega (
        arith,
        so_far.each number here,
        first number item left,
        ap one_if (ne_eqb number item other),
        get_or-set_other counts item number (get_or counts item 0 + 1) 0 other,
      )
    ];
  }

  -- which is no more than there are items
  pub count_fits : get_or counts item 0 + 1 ≤ length all
  count_fits = omega (
    arith,
    so_far.each item there,
    first item item left,
    ap one_if (eq-eqb item item refl),
    count_by-le-length (is_number item) all,
  )

-- in the end all
pub all_counted : {many : ℕ} {counts : List ℕ} {all : List (Option ℕ)} → AreCounted many counts [] all → (number : ℕ) → number < many
    → get_or counts number 0 ≡ count_by (is_number number) all
all_counted so_far number there = omega (arith, so_far.each number there)
