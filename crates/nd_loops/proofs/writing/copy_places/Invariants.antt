-- The items of the coordinates below this one are copied.
use Rattle.std.proofs.Common.{◌≡◌, length, take}
use Rattle.nd_access.specs.LentRow.{places_of, row_items}
use Rattle.nd_access.specs.Rights.{right_of}
use Rattle.nd_access.specs.Written.{HasSet}
use Rattle.nd_loops.proofs.writing.copy_places.Given as goal

abbrev pub invariant-loop-coordinate : goal.invariant-loop-coordinate
invariant-loop-coordinate g l = record {
  copied : HasSet (take l.coordinate (places_of l.row)) (take l.coordinate (row_items l.source)) l.initial.cells.items l.cells.items;
  long : length l.cells.items ≡ length l.initial.cells.items;
  keeps_access : right_of l.cells ≡ right_of l.initial.cells;
}
