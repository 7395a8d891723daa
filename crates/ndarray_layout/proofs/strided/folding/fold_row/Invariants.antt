-- The function is called at the places so far, and may be called at the others.
use Rattle.std.proofs.Common.{pos, take, drop}
use Rattle.std.specs.Iterator.{CallableInFold}
use Rattle.ndarray_layout.specs.Folded.{HasFolded, gives}
use Rattle.ndarray_layout.specs.Rows.{row_places}
use Rattle.ndarray_layout.proofs.strided.folding.fold_row.Given as goal

abbrev pub invariant-loop-coordinate : goal.invariant-loop-coordinate
invariant-loop-coordinate g l = record {
  folded : HasFolded pos g.F.FnMut (l.initial.f, l.fn.init) (take l.coordinate (row_places l.row.start l.row.stride l.row.len))
      (l.f, l.total);
  callable : CallableInFold (gives pos) g.F.FnMut (drop l.coordinate (row_places l.row.start l.row.stride l.row.len)) l.f l.total;
}
