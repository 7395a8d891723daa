-- The results at the coordinates below this one are appended, for all of which there is room, and the closure may be called at the others.
use Rattle.std.proofs.Common.{◌≡◌, ◌+◌, drop, vec_capacity, vec_len}
use Rattle.std.specs.Fn.{CalledAt, TakesAt}
use Rattle.nd_access.specs.LentRow.{row_items}
use Rattle.nd_access.proofs.Laws.Pushed.{AreLeft}
use Rattle.nd_loops.proofs.copying.push_few.Given as goal

abbrev pub invariant-loop-coordinate : goal.invariant-loop-coordinate
invariant-loop-coordinate g l = record {
  are : AreLeft (λ p x y q. CalledAt g.F.FnMut p x y q) (λ p x. TakesAt g.F.FnMut p x) l.initial.f (row_items l.fn.row) l.initial.made.items
      (drop l.coordinate (row_items l.fn.row)) l.made.items l.f;
  len : vec_len l.made ≡ vec_len l.initial.made + l.coordinate;
  capacity : vec_capacity l.made ≡ vec_capacity l.initial.made;
}
