-- The calls at the coordinates below this one are made.
use Rattle.std.proofs.Common.{◌≡◌, length}
use Rattle.nd_access.specs.LentRow.{places_of}
use Rattle.nd_access.specs.Rights.{right_of}
use Rattle.nd_access.proofs.Laws.MapsTo.{HasMadeSoFar}
use Rattle.nd_access.specs.Zipped.{CalledBeside, TakesBeside}
use Rattle.nd_loops.specs.Beside.{items_beside, shown_beside}
use Rattle.nd_loops.proofs.calling.call_few.Given as goal

abbrev pub invariant-loop-coordinate : goal.invariant-loop-coordinate
invariant-loop-coordinate g l = record {
  run : HasMadeSoFar (CalledBeside (shown_beside g.C.Beside.value) g.F.FnMut) (TakesBeside (shown_beside g.C.Beside.value) g.F.FnMut)
      l.initial.f (places_of l.row) (items_beside l.initial.cells.items (places_of l.row) (g.C.Beside.values l.beside))
      l.initial.cells.items l.coordinate l.cells.items l.f;
  long : length l.cells.items ≡ length l.initial.cells.items;
  keeps_access : right_of l.cells ≡ right_of l.initial.cells;
}
