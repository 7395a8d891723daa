-- The slices whose parts an iterator has still to lend, and these parts.
use Rattle.std.specs.Prelude.{◌≡◌, ℕ, ◌==◌, if◌then◌else◌, pos, Option, Some, None, List, [], ◌∷◌, drop, map, refl}
use Rattle.ndarray_layout.specs.declared.ErrorKind.{ErrorKind}
use Rattle.ndarray_layout.specs.declared.ErrorKind.TheVariants.{IncompatibleShape}
use Rattle.ndarray_layout.specs.declared.SliceInfoElem.{SliceInfoElem}
use Rattle.ndarray_layout.specs.declared.SliceInfoElem.TheVariants as elem
use Rattle.ndarray_layout.specs.SliceFault.{out_count}
use Rattle.nd_lent.specs.declared.array_view_mut.slice_parts.SliceParts.{SliceParts}
use Rattle.nd_access.specs.Items.{ArrayValue}
use Rattle.nd_lent.specs.Slices.{slice_array}

-- the slices, the next one first
abbrev pub slices_left : {T D : Type 0} {lens count eq text at : _} → SliceParts T D lens count eq text at → List (List SliceInfoElem)
slices_left it = drop it.begun (map (λ slice. slice.now) it.slices.now)

-- the parts that they pick
abbrev pub parts_left : {T D : Type 0} {lens count eq text at : _} → SliceParts T D lens count eq text at → List (ArrayValue T)
parts_left it = map (slice_array it.cells.items it.view) (slices_left it)

-- the error of the next part, for a type that may fix a count of axes: that its slice leaves another one
abbrev pub next_slice_fault : Option ℕ → List (List SliceInfoElem) → Option ErrorKind
next_slice_fault count [] = None
next_slice_fault None (slice ∷ slices) = None
next_slice_fault (Some count) (slice ∷ slices) = if out_count slice == count then None else Some IncompatibleShape

-- example
row_is_no_matrix : next_slice_fault (Some 2) ((elem.Index (pos 0) ∷ elem.Slice (pos 0) None (pos 1) ∷ []) ∷ []) ≡ Some IncompatibleShape
row_is_no_matrix = refl
