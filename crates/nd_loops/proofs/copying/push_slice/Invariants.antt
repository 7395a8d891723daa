-- The results at the items so far are appended, for all of which there is room, and the closure may be called at the others.
use Rattle.std.proofs.Common.{◌≡◌, ◌+◌, Some, drop, map, vec_capacity, vec_len}
use Rattle.std.specs.Fn.{CalledAt, TakesAt}
use Rattle.nd_access.proofs.Laws.Pushed.{AreLeft}
use Rattle.nd_loops.proofs.copying.push_slice.Given as goal

abbrev pub invariant-loop-item : goal.invariant-loop-item
invariant-loop-item g l = record {
  are : AreLeft (λ p x y q. CalledAt g.F.FnMut p x y q) (λ p x. TakesAt g.F.FnMut p x) l.initial.f (map Some l.fn.items)
      l.initial.made.items (drop l.item-index (map Some l.fn.items)) l.made.items l.f;
  len : vec_len l.made ≡ vec_len l.initial.made + l.item-index;
  capacity : vec_capacity l.made ≡ vec_capacity l.initial.made;
}
