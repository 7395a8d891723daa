-- Laws of views with a new axis of length 1.
use Rattle.std.proofs.Common.{◌≡◌, ℕ, ◌≤◌, pos, cond, None, Some, List, length, get_or, refl, ap, arith}
use Rattle.std.specs.List.{insert}
use Rattle.std.specs.Prelude.{nat_le}
use Rattle.std.proofs.lemmas.Bool.{le-leb, leb-true}
use Rattle.nd_base.specs.declared.error.ErrorKind.TheVariants.{OutOfBounds}
use Rattle.nd_base.proofs.Laws.Definitions.{magnitude}
use Rattle.ndarray_layout.specs.Descends.{Descends}
use Rattle.ndarray_layout.specs.IndexedView.{indexed_of}
use Rattle.ndarray_layout.specs.InsertedView.{insert_fault, inserted_of, insert_source}
use Rattle.ndarray_layout.specs.View.{View, IsView}
use Rattle.ndarray_layout.proofs.OneAxis.{first_coordinate, insert_axis, remove-insert}
use Rattle.ndarray_layout.proofs.Passed.{passed}
use Rattle.ndarray_layout.proofs.Laws.Sources.{Descends-from_start}

-- a new axis without fault comes after no more axes than there are
pub axis_of_no_fault : (shape : List ℕ) (axis : ℕ) → insert_fault shape axis ≡ None → axis ≤ length shape
axis_of_no_fault shape axis none = leb-true axis (length shape) (passed OutOfBounds (nat_le axis (length shape)) none)

pub no_fault_of_axis : (shape : List ℕ) (axis : ℕ) → axis ≤ length shape → insert_fault shape axis ≡ None
no_fault_of_axis shape axis within = ap (λ here. cond here None (Some OutOfBounds)) (le-leb axis (length shape) within)

module _ (axis : ℕ) (view : View) (v : IsView view) (within : axis ≤ length view.shape) where
  -- it is a view of the same data, whose indices lie where their sources do
  pub Descends-inserted_of : Descends (insert_source axis) view (inserted_of axis view)
  Descends-inserted_of = Descends-from_start v (insert_axis view.shape view.strides axis (pos 1) v.valid.same_count within)

  -- at the one coordinate of the new axis it is the view
  pub indexed-inserted_of : indexed_of axis 0 (inserted_of axis view) ≡ view
  indexed-inserted_of =
      let start = ap magnitude (first_coordinate view.start (get_or (insert view.strides axis (pos 1)) axis (pos 0))) in
      rw (start, remove-insert view.shape axis 1 within, remove-insert view.strides axis (pos 1) (omega (arith, v.valid.same_count))) refl
