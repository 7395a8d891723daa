-- Once the results at the items that are left are appended, those at all are; for them there is room.
use Rattle.std.proofs.Common.{◌+◌, ◌≤◌, length, vec_capacity, vec_len}
use Rattle.std.specs.Fn.{CalledAt, TakesAt}
use Rattle.nd_access.proofs.Laws.Pushed.{AreLeft}
use Rattle.nd_lent.proofs.array_view.copying.push_items.Given as goal

abbrev pub invariant-loop-item : goal.invariant-loop-item
invariant-loop-item g l = record {
  are : AreLeft (λ p x y q. CalledAt g.F.FnMut p x y q) (λ p x. TakesAt g.F.FnMut p x) l.fn.f l.fn.items l.fn.made.items
      l.item-iterator l.made.items l.f;
  room : vec_len l.made + length l.item-iterator ≤ vec_capacity l.made;
}
