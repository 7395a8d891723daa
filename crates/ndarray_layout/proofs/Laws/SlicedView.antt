-- Laws of slices of views: a slice is a view of the same data, whose indices lie where those that they stand for do.
use Rattle.std.proofs.Common.{◌≡◌, ℕ, pos, Option, Some, None, Bool, true, false, cond, eqb, List, length, refl, ◌∙◌}
use Rattle.std.proofs.lemmas.Bool.{cond-true, eq-eqb, eqb-true}
use Rattle.nd_base.specs.declared.error.ErrorKind.{ErrorKind}
use Rattle.nd_base.specs.declared.error.ErrorKind.TheVariants.{IncompatibleShape}
use Rattle.nd_base.proofs.Laws.Definitions.{IsCount}
use Rattle.nd_slice.specs.declared.fit.Fit.{Fit}
use Rattle.nd_slice.specs.declared.elem.SliceInfoElem.{SliceInfoElem}
use Rattle.nd_slice.specs.SliceFault.{in_count, out_count, first_fault, argument_fault}
use Rattle.nd_slice.specs.AxisCounts.{HasCounts}
use Rattle.nd_slice.specs.Selected.{selected}
use Rattle.nd_slice.specs.SlicedLayout.{sliced_offset, sliced_shape, sliced_strides}
use Rattle.nd_slice.proofs.Laws.SliceFault.{elements_of_no_fault}
use Rattle.ndarray_layout.specs.Descends.{Descends}
use Rattle.ndarray_layout.specs.SlicedView.{slice_of, sliced_start, view_slice_fault}
use Rattle.ndarray_layout.specs.View.{View, IsPlace, IsView}
use Rattle.ndarray_layout.proofs.Laws.Sources.{Descends-own_sources, HasOwnSources, start_within}
use Rattle.ndarray_layout.proofs.Slices.{sliced_sources}
use Rattle.nd_base.proofs.Laws.Signed.{magnitude_from}

-- an argument without a fault fits the shape
pub no_argument_fault : (fit : Fit) (fixed : Option ℕ) (shape : List ℕ) (elems : List SliceInfoElem)
    → view_slice_fault fit fixed shape elems ≡ None → argument_fault fit shape elems ≡ None
no_argument_fault fit None shape elems none = none
no_argument_fault fit (Some count) shape elems none = by (eqb (out_count elems) count) none
  where
    by : (t : Bool) → cond t (argument_fault fit shape elems) (Some IncompatibleShape) ≡ None → argument_fault fit shape elems ≡ None
    by true none = none
    by false none = absurd (cc)

chosen : {t : Bool} {first : Option ErrorKind} (second : Option ErrorKind) → t ≡ true → cond t first second ≡ first
chosen {t} {first} second e = cond-true {A = Option ErrorKind} t first second e

of_one_kind : (t : Bool) (first : Option ErrorKind) {second : Option ErrorKind} → (t ≡ true → first ≡ second) → cond t first second ≡ second
of_one_kind true first same = same refl
of_one_kind false first same = refl

-- an argument whose counts of axes fit has the fault of its first element at fault
pub view_fault_of_counts : (fit : Fit) {fixed : Option ℕ} (shape : List ℕ) {elems : List SliceInfoElem}
    → HasCounts (Some (length shape)) fixed elems → view_slice_fault fit fixed shape elems ≡ first_fault fit shape elems
view_fault_of_counts fit {fixed} shape {elems} counts = by fixed counts.out_fits
  where
    whole : argument_fault fit shape elems ≡ first_fault fit shape elems
    whole = chosen (Some IncompatibleShape) (eq-eqb (in_count elems) (length shape) counts.in_fits)

    by : (fixed : Option ℕ) → IsCount fixed (out_count elems) → view_slice_fault fit fixed shape elems ≡ first_fault fit shape elems
    by None out = whole
    by (Some count) out = chosen (Some IncompatibleShape) (eq-eqb (out_count elems) count out) ∙ whole

-- and any other for its counts
pub view_fault_of_other_counts : (fit : Fit) (fixed : Option ℕ) (shape : List ℕ) (elems : List SliceInfoElem)
    → (HasCounts (Some (length shape)) fixed elems → ⊥) → view_slice_fault fit fixed shape elems ≡ Some IncompatibleShape
view_fault_of_other_counts fit None shape elems other =
    of_one_kind (eqb (in_count elems) (length shape)) (first_fault fit shape elems)
    (λ e. absurd (other (record { in_fits = eqb-true (in_count elems) (length shape) e; out_fits = tt })))
view_fault_of_other_counts fit (Some count) shape elems other =
    of_one_kind (eqb (out_count elems) count) (argument_fault fit shape elems) (λ out.
    of_one_kind (eqb (in_count elems) (length shape)) (first_fault fit shape elems) (λ e.
    absurd (other (record { in_fits = eqb-true (in_count elems) (length shape) e; out_fits = eqb-true (out_count elems) count out }))))

-- an argument that fits a view
module _ (fit : Fit) (elems : List SliceInfoElem) (view : View) (v : IsView view) (none : argument_fault fit view.shape elems ≡ None) where
  own : HasOwnSources (selected fit elems view.shape) view.shape view.strides (sliced_offset fit elems view.shape view.strides)
      (sliced_shape fit elems view.shape) (sliced_strides fit elems view.shape view.strides)
  own =
      let fits = elements_of_no_fault fit view.shape elems none in
      sliced_sources fit elems view.shape view.strides v.valid.same_count fits.0 fits.1

  -- the slice begins at a place
  pub sliced_start_within : IsPlace (sliced_start fit elems view)
  sliced_start_within = start_within v own.sources

  pub start-slice_of : pos (slice_of fit elems view).start ≡ sliced_start fit elems view
  start-slice_of = magnitude_from (sliced_start fit elems view) sliced_start_within.0

  -- a slice of a view is a view of the same data, whose indices lie where those that they stand for do
  pub Descends-slice_of : Descends (selected fit elems view.shape) view (slice_of fit elems view)
  Descends-slice_of = Descends-own_sources v own start-slice_of
