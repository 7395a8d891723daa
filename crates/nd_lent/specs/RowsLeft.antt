-- The rows that an iterator has still to lend, and its right to them.
use Rattle.std.specs.Prelude.{List, drop, map, take}
use Rattle.ndarray_layout.specs.declared.Order.TheVariants.{RowMajor}
use Rattle.ndarray_layout.specs.Rows.{view_rows}
use Rattle.nd_lent.specs.declared.array_view_mut.rows.LanesMut.{LanesMut}
use Rattle.nd_access.specs.Items.{ArrayValue}
use Rattle.nd_access.specs.Right.{Right}
use Rattle.nd_access.specs.Rights.{right_of}
pub use Rattle.nd_access.specs.RowArray.{row_array}

-- those from the next one up to the last one
abbrev pub rows_left : {T D : Type 0} {lens count eq text at : _} → LanesMut T D lens count eq text at → List (ArrayValue T)
rows_left it = map (row_array it.cells.items) (drop it.begun (take it.end (view_rows RowMajor it.view)))

-- its right
abbrev pub access_left : {T D : Type 0} {lens count eq text at : _} → LanesMut T D lens count eq text at → Right
access_left it = right_of it.cells
