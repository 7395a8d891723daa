-- The first element at fault of those that are left is the first of all.
use Rattle.std.proofs.Common.{◌≡◌}
use Rattle.std.specs.List.{enumerate_from, find}
use Rattle.ndarray_layout.specs.AxisElems.{axis_elems}
use Rattle.ndarray_layout_c.specs.SliceReasons.{is_at_fault}
use Rattle.ndarray_layout_c.proofs.slice_reasons.argument_reason.Given as goal

abbrev pub invariant-loop-axis : goal.invariant-loop-axis
invariant-loop-axis l =
    find (is_at_fault l.fit) (enumerate_from l.axis-iterator.count l.axis-iterator.iter)
    ≡ find (is_at_fault l.fit) (enumerate_from 0 (axis_elems l.shape l.elems))
