-- What a contract sees of a part.
use Rattle.nd_access.specs.Items.{ArrayValue}
use Rattle.nd_access.specs.Right.{Right}
use Rattle.nd_access.specs.Rights.{right_of}
use Rattle.nd_lent.specs.declared.array_view_mut.ArrayViewMut.{ArrayViewMut}

-- all items as they were when the parts were made, but those of the part as they stand, and the view
abbrev pub array_of : {T D : Type 0} {lens count eq text at : _} → ArrayViewMut T D lens count eq text at → ArrayValue T
array_of part = record { items = part.cells.items; view = part.view }

-- its right
abbrev pub access_of : {T D : Type 0} {lens count eq text at : _} → ArrayViewMut T D lens count eq text at → Right
access_of part = right_of part.cells
