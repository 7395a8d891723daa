-- Once the results at the items of the rows that are left are appended, those at all are; for them there is room.
use Rattle.std.proofs.Common.{◌≡◌, ◌+◌, ◌<◌, ◌≤◌, length, vec_capacity, vec_len}
use Rattle.std.specs.Fn.{CalledAt, TakesAt}
use Rattle.std.specs.List.{All}
use Rattle.nd_access.specs.LentRow.{rows_items}
use Rattle.nd_access.proofs.Laws.Pushed.{AreLeft}
use Rattle.nd_loops.proofs.copying.push_each.Given as goal

abbrev pub invariant-loop-row : goal.invariant-loop-row
invariant-loop-row g l = record {
  are : AreLeft (λ p x y q. CalledAt g.F.FnMut p x y q) (λ p x. TakesAt g.F.FnMut p x) l.fn.f (rows_items l.fn.rows) l.fn.made.items
      (rows_items l.row-iterator) l.made.items l.f;
  few : 0 < l.fn.few → All (λ row. l.fn.few ≡ row.row.len) l.row-iterator;
  room : vec_len l.made + length (rows_items l.row-iterator) ≤ vec_capacity l.made;
}
