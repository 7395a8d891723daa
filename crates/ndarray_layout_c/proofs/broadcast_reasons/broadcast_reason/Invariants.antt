-- The first axis at fault among those that are left is the first of all.
use Rattle.std.proofs.Common.{◌≡◌, ◌-◌}
use Rattle.std.specs.List.{find, range_with_len}
use Rattle.ndarray_layout_c.specs.BroadcastReasons.{first_fixed, is_fixed}
use Rattle.ndarray_layout_c.proofs.broadcast_reasons.broadcast_reason.Given as goal

abbrev pub invariant-loop-axis : goal.invariant-loop-axis
invariant-loop-axis l = find (is_fixed l.shape l.target) (range_with_len l.axis (l.count - l.axis)) ≡ first_fixed l.shape l.target
