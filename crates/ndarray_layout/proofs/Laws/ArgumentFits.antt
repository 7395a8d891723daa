-- A slice argument has no fault exactly where it fits the shape.
use Rattle.std.proofs.Common.{◌≡◌, ◌↔◌, ℕ, None, List, [], ◌∷◌, length, refl}
use Rattle.std.proofs.lemmas.Bool.{eq-eqb}
use Rattle.nd_slice.specs.declared.fit.Fit.{Fit}
use Rattle.nd_slice.specs.SliceBounds.{slice_with}
use Rattle.nd_slice.specs.AxisFault.{slice_fault, index_fault}
use Rattle.nd_slice.proofs.Laws.AxisFault.{fits_of_no_fault, no_fault_of_fits, index_fits_of_no_fault}
use Rattle.nd_slice.specs.declared.elem.SliceInfoElem.{SliceInfoElem}
use Rattle.nd_slice.specs.declared.elem.SliceInfoElem.TheVariants as elem
use Rattle.nd_slice.specs.SliceFault.{in_count, first_fault}
use Rattle.nd_slice.proofs.Laws.SliceFault.{elements_of_no_fault}
use Rattle.ndarray_layout.specs.ArgumentFits.{ElementsFit, ArgumentFits}
use Rattle.ndarray_layout.specs.SlicedView.{view_slice_fault}
use Rattle.ndarray_layout.proofs.Laws.SlicedView.{no_argument_fault}
use Rattle.nd_base.proofs.Laws.Options.{option_or_none}

-- no element is at fault where each fits
elements_of_no_first : (fit : Fit) (shape : List ℕ) (elems : List SliceInfoElem) → first_fault fit shape elems ≡ None
    → ElementsFit fit shape elems
elements_of_no_first fit shape [] none = tt
elements_of_no_first fit shape (elem.NewAxis ∷ elems) none = elements_of_no_first fit shape elems none
elements_of_no_first fit [] (elem.Slice start end step ∷ elems) none = tt
elements_of_no_first fit [] (elem.Index index ∷ elems) none = tt
elements_of_no_first fit (len ∷ shape) (elem.Slice start end step ∷ elems) none =
    let parts = option_or_none (slice_fault fit len (slice_with start end step)) none in
    (fits_of_no_fault fit len (slice_with start end step) parts.0, elements_of_no_first fit shape elems parts.1)
elements_of_no_first fit (len ∷ shape) (elem.Index index ∷ elems) none =
    let parts = option_or_none (index_fault len index) none in
    (index_fits_of_no_fault len index parts.0, elements_of_no_first fit shape elems parts.1)

no_first_of_elements : (fit : Fit) (shape : List ℕ) (elems : List SliceInfoElem) → ElementsFit fit shape elems
    → first_fault fit shape elems ≡ None
no_first_of_elements fit shape [] fits = refl
no_first_of_elements fit shape (elem.NewAxis ∷ elems) fits = no_first_of_elements fit shape elems fits
no_first_of_elements fit [] (elem.Slice start end step ∷ elems) fits = refl
no_first_of_elements fit [] (elem.Index index ∷ elems) fits = refl
no_first_of_elements fit (len ∷ shape) (elem.Slice start end step ∷ elems) fits =
    rw (no_fault_of_fits fit len (slice_with start end step) fits.0) (no_first_of_elements fit shape elems fits.1)
no_first_of_elements fit (len ∷ shape) (elem.Index index ∷ elems) fits = rw (fits.0) (no_first_of_elements fit shape elems fits.1)

pub view_slice_fault-ArgumentFits : (fit : Fit) (elems : List SliceInfoElem) (shape : List ℕ)
    → (view_slice_fault fit None shape elems ≡ None) ↔ ArgumentFits fit elems shape
view_slice_fault-ArgumentFits fit elems shape = (
  λ none.
      let parts = elements_of_no_fault fit shape elems (no_argument_fault fit None shape elems none) in
      (parts.0, elements_of_no_first fit shape elems parts.1),
  λ fits. rw (eq-eqb (in_count elems) (length shape) fits.0, no_first_of_elements fit shape elems fits.1) refl,
)
