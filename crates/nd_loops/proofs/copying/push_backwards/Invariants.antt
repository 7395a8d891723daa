-- Once the results at the items that are left are appended, those at all are; for them there is room.
use Rattle.std.proofs.Common.{◌≡◌, ◌+◌, Some, length, map, reverse, vec_capacity, vec_len}
use Rattle.std.specs.Fn.{CalledAt, TakesAt}
use Rattle.nd_access.proofs.Laws.Pushed.{AreLeft}
use Rattle.nd_loops.proofs.copying.push_backwards.Given as goal

abbrev pub invariant-loop-item : goal.invariant-loop-item
invariant-loop-item g l = record {
  are : AreLeft (λ p x y q. CalledAt g.F.FnMut p x y q) (λ p x. TakesAt g.F.FnMut p x) l.initial.f (reverse (map Some l.fn.items))
      l.initial.made.items (reverse (map Some l.item-iterator.iter.rest.now)) l.made.items l.f;
  len : vec_len l.made + length l.item-iterator.iter.rest.now ≡ vec_len l.initial.made + length l.fn.items;
  capacity : vec_capacity l.made ≡ vec_capacity l.initial.made;
}
