-- Slices of a part: the error of a list of them, and the arrays that they pick.
use Rattle.std.specs.Prelude.{◌≡◌, ℕ, pos, Option, Some, None, MatchOption, List, [], ◌∷◌, refl}
use Rattle.std.proofs.lemmas.Bool.{ltb-true}
use Rattle.std.specs.List.{AllPairs}
use Rattle.std.specs.Option.{option_or}
use Rattle.ndarray_layout.specs.declared.ErrorKind.{ErrorKind}
use Rattle.ndarray_layout.specs.declared.ErrorKind.TheVariants.{IncompatibleShape, OutOfBounds, Unsupported}
use Rattle.ndarray_layout.specs.declared.Fit.{Fit}
use Rattle.ndarray_layout.specs.declared.Fit.TheVariants.{Strict}
use Rattle.ndarray_layout.specs.declared.SliceInfoElem.{SliceInfoElem}
use Rattle.ndarray_layout.specs.declared.SliceInfoElem.TheVariants as elem
use Rattle.ndarray_layout.specs.IntersectingPair.{AreApart, SomeIntersect}
use Rattle.ndarray_layout.specs.SlicesSharePlace.{SlicesSharePlace}
use Rattle.ndarray_layout.specs.SlicedView.{slice_of, view_slice_fault}
use Rattle.ndarray_layout.specs.View.{View}
use Rattle.nd_access.specs.Items.{ArrayValue}

-- the error, or none, of slices that fit: Unsupported where two share an index, and none where no two do
abbrev pub IsSharingFault : List ℕ → List (List SliceInfoElem) → Option ErrorKind → Type 0
IsSharingFault shape slices None = AllPairs (AreApart Strict shape) slices
IsSharingFault shape slices (Some kind) = (kind ≡ Unsupported) × SomeIntersect Strict shape slices

-- the error of the first slice that doesn't fit a shape, or leaves another count of axes than a type fixes
abbrev pub view_slices_fault : Fit → Option ℕ → List ℕ → List (List SliceInfoElem) → Option ErrorKind
view_slices_fault fit count shape [] = None
view_slices_fault fit count shape (slice ∷ slices) =
    option_or (view_slice_fault fit count shape slice) (view_slices_fault fit count shape slices)

-- the error, or none, of a list of slices: that of the first one that doesn't fit the shape, or leaves another count of axes than is fixed;
-- then Unsupported where two share an index
abbrev pub IsFaultOfSlices : Option ℕ → List ℕ → List (List SliceInfoElem) → Option ErrorKind → Type 0
IsFaultOfSlices count shape slices fault = MatchOption (view_slices_fault Strict count shape slices) (IsSharingFault shape slices fault)
    (λ kind. fault ≡ Some kind)

-- no two slices of a view share a place
abbrev pub AreApartInPlace : View → List (List SliceInfoElem) → Type 0
AreApartInPlace view slices = AllPairs (λ one other. SlicesSharePlace Strict view one other → ⊥) slices

-- the same items by the view of a slice
abbrev pub slice_array : {T : Type 0} → List T → View → List SliceInfoElem → ArrayValue T
slice_array items view slice = record { items = items; view = slice_of Strict slice view }

-- examples
abbrev all_of_axis : SliceInfoElem
all_of_axis = elem.Slice (pos 0) None (pos 1)

past_the_columns : IsFaultOfSlices None (2 ∷ 3 ∷ []) ((all_of_axis ∷ elem.Index (pos 3) ∷ []) ∷ []) (Some OutOfBounds)
past_the_columns = refl

abbrev first_row : List SliceInfoElem
first_row = elem.Index (pos 0) ∷ all_of_axis ∷ []

row_and_all : IsFaultOfSlices (Some 1) (2 ∷ 3 ∷ []) (first_row ∷ (all_of_axis ∷ all_of_axis ∷ []) ∷ []) (Some IncompatibleShape)
row_and_all = refl

one_row_twice : IsFaultOfSlices (Some 1) (2 ∷ 3 ∷ []) (first_row ∷ first_row ∷ []) None → ⊥
one_row_twice apart =
    apart 0 1 [] (ltb-true 0 1 refl) (ltb-true 1 2 refl) (
      0 ∷ 0 ∷ [],
      refl,
      ((0, ltb-true 0 1 refl, refl), ((0, ltb-true 0 3 refl, refl), tt)),
      ((0, ltb-true 0 1 refl, refl), ((0, ltb-true 0 3 refl, refl), tt)),
    )
