-- Laws of how many items writes at the indices of an array leave: as many as before, where each index has an item before and after.
use Rattle.std.proofs.Common.{◌≡◌, ℕ, zero, suc, ◌<◌, ◌≤◌, pos, true, Option, List, [], ◌∷◌, length, refl}
use Rattle.std.proofs.Common.{sym, ap, ◌∙◌, arith, inl, inr}
use Rattle.std.specs.Prelude.{None, slice_get}
use Rattle.std.proofs.lemmas.Bool.{cases_order}
use Rattle.std.proofs.lemmas.Option.{none-some}
use Rattle.ndarray_layout.specs.declared.Order.TheVariants.{RowMajor}
use Rattle.ndarray_layout.specs.Indices.{is_index}
use Rattle.ndarray_layout.specs.View.{place_at, view_places}
use Rattle.nd_lent.proofs.Laws.FlatItems.{item_of_index}
use Rattle.nd_lent.proofs.Laws.Listed.{cases_listed}
use Rattle.nd_lent.proofs.Laws.SlicePlaces.{listed}
use Rattle.nd_access.specs.HasItems.{HasItemsOf}
use Rattle.nd_access.specs.Items.{ArrayValue, item_at, item_at_place}

-- ---- lists
got : {T : Type 0} (items : List T) (k : ℕ) → k < length items → slice_get items k ≡ None → ⊥
got [] k below none = absurd (omega (arith, below))
got (x ∷ items) zero below none = none-some x (sym none)
got (x ∷ items) (suc k) below none = got items k (omega (arith, below)) none

past : {T : Type 0} (items : List T) (k : ℕ) → length items ≤ k → slice_get items k ≡ None
past [] k far = refl
past (x ∷ items) zero far = absurd (omega (arith, far))
past (x ∷ items) (suc k) far = past items k (omega (arith, far))

-- where a place is past the end of both lists or of none, they are as long as one another
as_long : {T : Type 0} (old new : List T) → ((k : ℕ) → slice_get old k ≡ None → slice_get new k ≡ None)
    → ((k : ℕ) → slice_get new k ≡ None → slice_get old k ≡ None)
    → length new ≡ length old
as_long old new one other = elim (cases_order (length new) (length old)) [
  | inl same ↦ same
  | inr differ ↦ elim differ [
    | inl shorter ↦ absurd (got old (length new) shorter (other (length new) (past new (length new) (omega arith))))
    | inr longer ↦ absurd (got new (length old) longer (one (length old) (past old (length old) (omega arith))))
  ]
]

-- ---- an array
module _ {T : Type 0} {given : List ℕ → Option T} (old : ArrayValue T) (items : List T)
    (has : HasItemsOf given old (record { items = items; view = old.view }))
    (before : (index : List ℕ) → is_index old.view.shape index ≡ true → item_at old index ≡ None → ⊥)
    (after : (index : List ℕ) → is_index old.view.shape index ≡ true → given index ≡ None → ⊥) where
  abbrev new : ArrayValue T
  new = record { items = items; view = old.view }

  at_place : (array : ArrayValue T) (index : List ℕ) (k : ℕ) → is_index array.view.shape index ≡ true
      → place_at array.view index ≡ pos k → item_at array index ≡ slice_get array.items k
  at_place array index k here at = item_of_index array index here ∙ ap (item_at_place array.items) at

  ends_with : (k : ℕ) → slice_get old.items k ≡ None → slice_get items k ≡ None
  ends_with k none = elim (cases_listed (view_places RowMajor old.view) (pos k)) [
    | inl found ↦
        let one = listed RowMajor old.view (pos k) found in
        absurd (before one.0 one.1 (at_place old one.0 k one.1 one.2 ∙ none))
    | inr free ↦ has.spare k free ∙ none
  ]

  begins_with : (k : ℕ) → slice_get items k ≡ None → slice_get old.items k ≡ None
  begins_with k none = elim (cases_listed (view_places RowMajor old.view) (pos k)) [
    | inl found ↦
        let one = listed RowMajor old.view (pos k) found in
        absurd (after one.0 one.1 (sym (has.items one.0 one.1) ∙ at_place new one.0 k one.1 one.2 ∙ none))
    | inr free ↦ sym (has.spare k free) ∙ none
  ]

  pub same_count : length items ≡ length old.items
  same_count = as_long old.items items ends_with begins_with
