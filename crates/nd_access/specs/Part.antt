-- Parts of an array: views whose every place has a mark.
use Rattle.std.specs.Prelude.{◌≡◌, ℕ, ℤ, pos, negsuc, Bool, true, false, List, [], ◌∷◌, get_or, map, refl}
use Rattle.std.specs.List.{list_any, range_with_len}
use Rattle.std.specs.Ordering.{int_eq}
use Rattle.ndarray_layout.specs.declared.Order.TheVariants.{RowMajor}
use Rattle.ndarray_layout.specs.Indices.{is_index}
use Rattle.std.proofs.Props.{props}
use Rattle.ndarray_layout.specs.DistinctPlaces.{HasDistinctPlaces}
use Rattle.ndarray_layout.specs.View.{View, IsView, place_at, view_places}

-- there is a mark at a place
abbrev pub has_mark : List Bool → ℤ → Bool
has_mark marks (pos place) = get_or marks place false
has_mark marks (negsuc below) = false

-- the place of each index of a view has a mark
abbrev pub AreMarked : List Bool → View → Type 0
AreMarked marks view = (index : List ℕ) → is_index view.shape index ≡ true → has_mark marks (place_at view index) ≡ true

-- a part: each index has a place to itself, which has a mark
pub record IsPart (marks : List Bool) (view : View) : Type 0 where
  pub is_view : IsView view
  pub marked : AreMarked marks view
  pub distinct : HasDistinctPlaces view

-- it has one proof at most, so it may be a ghost field
pub IsPart-prop : (marks : List Bool) (view : View) → IsProp (IsPart marks view)
IsPart-prop marks view = Prim.hlevel props

-- marks at the places of a view alone, of so many
abbrev pub marks_of : ℕ → View → List Bool
marks_of len view = map (λ place. list_any (int_eq (pos place)) (view_places RowMajor view)) (range_with_len 0 len)

-- examples
backwards_from_one : marks_of 4 (record { start = 3; shape = 2 ∷ []; strides = negsuc 1 ∷ [] }) ≡ false ∷ true ∷ false ∷ true ∷ []
backwards_from_one = refl
