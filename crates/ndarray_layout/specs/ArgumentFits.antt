-- Which slice arguments fit a shape.
use Rattle.std.specs.Prelude.{◌≡◌, ℕ, pos, negsuc, None, List, [], ◌∷◌, length, nat_eq, refl}
use Rattle.std.proofs.Common.{eq-eqb}
use Rattle.std.proofs.lemmas.Bool.{both_ways, false≢true}
use Rattle.nd_slice.specs.declared.fit.Fit.{Fit}
use Rattle.nd_slice.specs.declared.fit.Fit.TheVariants.{Strict}
use Rattle.nd_slice.specs.SliceBounds.{slice_with}
use Rattle.nd_slice.specs.AxisFault.{SliceFits, IndexFits}
use Rattle.nd_slice.specs.declared.elem.SliceInfoElem.{SliceInfoElem}
use Rattle.nd_slice.specs.declared.elem.SliceInfoElem.TheVariants as elem
use Rattle.nd_slice.specs.SliceFault.{in_count}

-- each element of a slice argument fits the axis that it is for, as far as there are elements and axes
abbrev pub ElementsFit : Fit → List ℕ → List SliceInfoElem → Type 0
ElementsFit fit shape [] = Unit {0}
ElementsFit fit shape (elem.NewAxis ∷ elems) = ElementsFit fit shape elems
ElementsFit fit [] (elem.Slice start end step ∷ elems) = Unit {0}
ElementsFit fit [] (elem.Index index ∷ elems) = Unit {0}
ElementsFit fit (len ∷ shape) (elem.Slice start end step ∷ elems) =
    SliceFits fit len (slice_with start end step) × ElementsFit fit shape elems
ElementsFit fit (len ∷ shape) (elem.Index index ∷ elems) = IndexFits len index × ElementsFit fit shape elems

-- an argument fits a shape: it has an element for each axis, and each fits
abbrev pub ArgumentFits : Fit → List SliceInfoElem → List ℕ → Type 0
ArgumentFits fit elems shape = (in_count elems ≡ length shape) × ElementsFit fit shape elems

-- examples
row_and_all_columns : ArgumentFits Strict (elem.Index (negsuc 0) ∷ elem.Slice (pos 0) None (pos 1) ∷ []) (2 ∷ 3 ∷ [])
row_and_all_columns = (refl, (refl, (record { start_within = refl; end_within = refl; step_moves = refl }, tt)))

new_axis_fits_none : ArgumentFits Strict (elem.NewAxis ∷ []) []
new_axis_fits_none = (refl, tt)

third_row_of_two : ElementsFit Strict (2 ∷ 3 ∷ []) (elem.Index (pos 2) ∷ []) → ⊥
third_row_of_two fits = false≢true fits.0

one_element_for_two_axes : ArgumentFits Strict (elem.Index (negsuc 0) ∷ []) (2 ∷ 3 ∷ []) → ⊥
one_element_for_two_axes fits = both_ways (nat_eq 1 2) refl (eq-eqb 1 2 fits.0)
