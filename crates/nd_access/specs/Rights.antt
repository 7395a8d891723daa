-- The right that a value has.
use Rattle.nd_access.specs.Right.{Right}
use Rattle.nd_access.specs.declared.cells.Cells.{Cells}

-- the name, the address of the first element and the marks of cells
abbrev pub right_of : {T : Type 0} → Cells T → Right
right_of c = record { name = c.name; first = c.first; marks = c.marks }
