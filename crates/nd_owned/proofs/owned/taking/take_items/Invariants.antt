-- The items taken so far and those at the places that are left are all.
use Rattle.std.proofs.Common.{◌≡◌, ◌≢◌, ◌+◌, ◌≤◌, ◌++◌, Some, length, map, vec_len, vec_capacity}
use Rattle.std.specs.List.{All, AllPairs}
use Rattle.std.specs.Option.{IsSome}
use Rattle.nd_owned.specs.private.Left.{left_at}
use Rattle.nd_owned.proofs.owned.taking.take_items.Given as goal

abbrev pub invariant-loop-place : goal.invariant-loop-place
invariant-loop-place g l = record {
  items : map Some l.taken.items ++ map (left_at l.left) l.place-iterator
      ≡ map Some l.fn.taken.items ++ map (left_at l.fn.left) l.fn.places;
  left : All (λ place. IsSome (left_at l.left place)) l.place-iterator;
  distinct : AllPairs (λ one other. one ≢ other) l.place-iterator;
  room : vec_len l.taken + length l.place-iterator ≤ vec_capacity l.taken;
}
