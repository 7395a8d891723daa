-- The counts written so far, with those of the elements that are left, are all; and none of the elements is at fault, nor any length
-- past an `isize`.
use Rattle.std.proofs.Common.{◌≡◌, ◌+◌, ◌<◌, ◌^◌, ◌++◌, None, length, map, take}
use Rattle.std.specs.List.{All}
use Rattle.ndarray_layout.specs.declared.Fit.TheVariants.{Strict}
use Rattle.ndarray_layout.specs.SliceFault.{fault_of_each}
use Rattle.nd_owned.specs.Moved.{moves, moves_along}
use Rattle.nd_owned.proofs.ready.write_moves.Given as goal

abbrev pub invariant-loop-axis : goal.invariant-loop-axis
invariant-loop-axis l = record {
  so_far : take l.axis-iterator.count l.counts ++ map moves_along l.axis-iterator.iter ≡ moves l.fn.elems l.fn.shape;
  room : l.axis-iterator.count + length l.axis-iterator.iter ≡ length l.counts;
  lens_fit : All (λ axis. axis.0 < 2 ^ 63) l.axis-iterator.iter;
  fits : fault_of_each Strict l.axis-iterator.iter ≡ None;
}
