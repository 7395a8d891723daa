-- When two of many slices of a view have a place in common.
use Rattle.std.specs.Prelude.{ℕ, ◌<◌, pos, negsuc, Option, Some, None, IsSomeAnd, List, [], ◌∷◌, slice_get, refl}
use Rattle.std.proofs.lemmas.Bool.{ltb-true}
use Rattle.std.specs.List.{AllPairs}
use Rattle.nd_slice.specs.declared.fit.Fit.{Fit}
use Rattle.nd_slice.specs.declared.fit.Fit.TheVariants.{Strict}
use Rattle.nd_slice.specs.declared.elem.SliceInfoElem.{SliceInfoElem}
use Rattle.nd_slice.specs.declared.elem.SliceInfoElem.TheVariants as elem
use Rattle.ndarray_layout.specs.SharePlace.{SharePlace}
use Rattle.ndarray_layout.specs.SlicedView.{slice_of}
use Rattle.ndarray_layout.specs.View.{View}

-- the views that two slices make share a place
abbrev pub SlicesSharePlace : Fit → View → List SliceInfoElem → List SliceInfoElem → Type 0
SlicesSharePlace fit view one other = SharePlace (slice_of fit one view) (slice_of fit other view)

-- the positions of two slices that do, the less first, or that no two do
abbrev pub IsSharedPlace : Fit → View → List (List SliceInfoElem) → Option (ℕ × ℕ) → Type 0
IsSharedPlace fit view slices None = AllPairs (λ one other. SlicesSharePlace fit view one other → ⊥) slices
IsSharedPlace fit view slices (Some found) =
    (found.0 < found.1)
    × IsSomeAnd (slice_get slices found.0) (λ one. IsSomeAnd (slice_get slices found.1) (SlicesSharePlace fit view one))

-- examples
abbrev four_back : View
four_back = record { start = 3; shape = 4 ∷ []; strides = negsuc 0 ∷ [] }

abbrev last : List SliceInfoElem
last = elem.Index (negsuc 0) ∷ []

abbrev first : List SliceInfoElem
first = elem.Index (pos 0) ∷ []

abbrev by_three : List SliceInfoElem
by_three = elem.Slice (pos 0) None (pos 3) ∷ []

last_again : IsSharedPlace Strict four_back (last ∷ first ∷ by_three ∷ []) (Some (0, 2))
last_again = (ltb-true 0 2 refl, ([], refl, (1 ∷ [], refl, refl)))

not_unsaid : IsSharedPlace Strict four_back (last ∷ by_three ∷ []) None → ⊥
not_unsaid apart = apart 0 1 [] (ltb-true 0 1 refl) (ltb-true 1 2 refl) ([], refl, (1 ∷ [], refl, refl))
