-- The elements passed so far are new axes.
use Rattle.std.proofs.Common.{◌≡◌, length}
use Rattle.std.specs.Slice.Iter.{iter_rest}
use Rattle.nd_slice.proofs.Definitions.{axis_elems}
use Rattle.nd_slice.proofs.axis_elems.AxisElemsIterator.next.Given as goal

abbrev pub invariant-loop-elem : goal.invariant-loop-elem
invariant-loop-elem l =
    axis_elems (iter_rest l.self-inside.shape) (iter_rest l.self-inside.elems)
    ≡ axis_elems (iter_rest l.initial.self-inside.shape) (iter_rest l.initial.self-inside.elems)

abbrev pub decreases-loop-elem : goal.decreases-loop-elem
decreases-loop-elem l = length (iter_rest l.self-inside.elems)
