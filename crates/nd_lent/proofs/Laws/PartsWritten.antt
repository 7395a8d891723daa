-- Laws of parts that were written one after another, in any order: where each index of the whole is one of a part's, the whole was written.
use Rattle.std.proofs.Common.{◌≡◌, ◌⊎◌, ℕ, ℤ, pos, negsuc, true, Option, List, [], ◌∷◌, refl, sym, ap, subst, ◌∙◌, inl, inr}
use Rattle.std.specs.List.{Contains}
use Rattle.std.specs.Prelude.{None, slice_get}
use Rattle.std.proofs.lemmas.Bool.{cond-true}
use Rattle.ndarray_layout.specs.declared.Order.TheVariants.{RowMajor}
use Rattle.ndarray_layout.specs.Descends.{Descends}
use Rattle.ndarray_layout.specs.DistinctPlaces.{HasDistinctPlaces}
use Rattle.ndarray_layout.specs.Indices.{is_index}
use Rattle.ndarray_layout.specs.SplitView.{first_part_of, second_part_of, second_source, split_fault}
use Rattle.ndarray_layout.specs.View.{View, IsView, place_at, view_places}
use Rattle.ndarray_layout.proofs.Laws.SplitView.{Descends-first_part_of, Descends-second_part_of, index_of_a_part}
use Rattle.nd_lent.proofs.Laws.Listed.{cases_listed}
use Rattle.nd_lent.proofs.Laws.PartItems.{part_written}
use Rattle.nd_lent.proofs.Laws.SlicePlaces.{listed}
use Rattle.nd_access.specs.HasItems.{HasItemsOf}
use Rattle.nd_access.specs.Written.{KeepsAllBut}
use Rattle.nd_access.specs.Items.{item_at, item_at_place}

-- a part of a view: the index of the whole that each of its indices stands for, and its view
pub record PartOf : Type 0 where
  pub source : List ℕ → List ℕ
  pub view : View

-- an index of the whole is one of a part's
abbrev pub HasIndex : List ℕ → PartOf → Type 0
HasIndex index part = (of_part : List ℕ) × (is_index part.view.shape of_part ≡ true) × (part.source of_part ≡ index)

-- it is one of some part's
abbrev pub OneHasIndex : List ℕ → List PartOf → Type 0
OneHasIndex index [] = ⊥
OneHasIndex index (part ∷ parts) = HasIndex index part ⊎ OneHasIndex index parts

-- the parts were written one after another, the items of each by what is given for the indices of the whole
abbrev pub AreWritten : {T : Type 0} → (List ℕ → Option T) → View → List PartOf → List T → List T → Type 0
AreWritten given whole [] before after = after ≡ before
AreWritten {T = T} given whole (part ∷ parts) before after =
    (between : List T) × Descends part.source whole part.view
    × HasItemsOf (λ index. given (part.source index)) (record { items = before; view = part.view })
    (record { items = between; view = part.view })
    × AreWritten given whole parts between after

module _ {T : Type 0} (given : List ℕ → Option T) (whole : View) (distinct : HasDistinctPlaces whole) where
  item_of : (items : List T) (index : List ℕ) → is_index whole.shape index ≡ true
      → item_at (record { items = items; view = whole }) index ≡ item_at_place items (place_at whole index)
  item_of items index here = cond-true (is_index whole.shape index) (item_at_place items (place_at whole index)) None here

  module _ (part : PartOf) (before between : List T) (kept : Descends part.source whole part.view)
      (has : HasItemsOf (λ index. given (part.source index)) (record { items = before; view = part.view })
      (record { items = between; view = part.view })) where
    same_there : (z : ℤ) → (Contains (view_places RowMajor part.view) z → ⊥) → item_at_place between z ≡ item_at_place before z
    same_there (pos place) none = has.spare place none
    same_there (negsuc below) none = refl

    given_there : (index : List ℕ) → is_index whole.shape index ≡ true → HasIndex index part
        → item_at (record { items = between; view = whole }) index ≡ given index
    given_there index here one =
        subst (λ it. item_at (record { items = between; view = whole }) it ≡ given it) one.2
        ((part_written kept has distinct).inside one.0 one.1)

    stays_given : (index : List ℕ) → is_index whole.shape index ≡ true
        → item_at (record { items = before; view = whole }) index ≡ given index
        → item_at (record { items = between; view = whole }) index ≡ given index
    stays_given index here is = elim (cases_listed (view_places RowMajor part.view) (place_at whole index)) [
      | inl found ↦
          let at = listed RowMajor part.view (place_at whole index) found in
          let there = kept.places at.0 at.1 in
          given_there index here (at.0, at.1, distinct (part.source at.0) index there.0 here (sym there.1 ∙ at.2))
      | inr none ↦
          item_of between index here ∙ same_there (place_at whole index) none ∙ sym (item_of before index here) ∙ is
    ]

  stay_given : (parts : List PartOf) (before after : List T) → AreWritten given whole parts before after
      → (index : List ℕ) → is_index whole.shape index ≡ true → item_at (record { items = before; view = whole }) index ≡ given index
      → item_at (record { items = after; view = whole }) index ≡ given index
  stay_given [] before after same index here is = ap (λ items. item_at (record { items = items; view = whole }) index) same ∙ is
  stay_given (part ∷ parts) before after written index here is =
      stay_given parts written.0 after written.3 index here
      (stays_given part before written.0 written.1 written.2 index here is)

  are_given : (parts : List PartOf) (before after : List T) → AreWritten given whole parts before after
      → (index : List ℕ) → is_index whole.shape index ≡ true → OneHasIndex index parts
      → item_at (record { items = after; view = whole }) index ≡ given index
  are_given [] before after same index here none = absurd none
  are_given (part ∷ parts) before after written index here (inl this) =
      stay_given parts written.0 after written.3 index here
      (given_there part before written.0 written.1 written.2 index here this)
  are_given (part ∷ parts) before after written index here (inr other) =
      are_given parts written.0 after written.3 index here other

  spare_kept : (parts : List PartOf) (before after : List T) → AreWritten given whole parts before after
      → KeepsAllBut (view_places RowMajor whole) before after
  spare_kept [] before after same place none = ap (λ items. slice_get items place) same
  spare_kept (part ∷ parts) before after written place none =
      spare_kept parts written.0 after written.3 place none
      ∙ (part_written written.1 written.2 distinct).spare place none

  -- for any number of parts
  pub parts_written : (parts : List PartOf) (before after : List T) → AreWritten given whole parts before after
      → ((index : List ℕ) → is_index whole.shape index ≡ true → OneHasIndex index parts)
      → HasItemsOf given (record { items = before; view = whole }) (record { items = after; view = whole })
  parts_written parts before after written each = record {
    view = refl;
    items = λ index here. are_given parts before after written index here (each index here);
    spare = spare_kept parts before after written;
  }

-- both parts of a split, on any axis
pub split_written : {T : Type 0} (given : List ℕ → Option T) (axis at : ℕ) (view : View) (before between after : List T)
    → IsView view → HasDistinctPlaces view → split_fault view.shape axis at ≡ None
    → HasItemsOf given (record { items = before; view = first_part_of axis at view })
    (record { items = between; view = first_part_of axis at view })
    → HasItemsOf (λ index. given (second_source axis at index)) (record { items = between; view = second_part_of axis at view })
    (record { items = after; view = second_part_of axis at view })
    → HasItemsOf given (record { items = before; view = view }) (record { items = after; view = view })
split_written given axis at view before between after is distinct none first second =
    let parts : List PartOf = record { source = λ index. index; view = first_part_of axis at view }
    ∷ record { source = second_source axis at; view = second_part_of axis at view } ∷ [] in
    parts_written given view distinct parts before after
    (between, Descends-first_part_of axis at view is none, first, (after, Descends-second_part_of axis at view is none, second, refl))
    (λ index here. elim (index_of_a_part axis at view is none index here) [
      | inl there ↦ inl (index, there, refl)
      | inr there ↦ inr (inl there)
    ])
