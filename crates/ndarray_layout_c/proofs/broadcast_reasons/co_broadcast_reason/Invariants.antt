-- The first axis whose lengths have none in common, among those that are left, is the first of all.
use Rattle.std.proofs.Common.{◌≡◌, ◌-◌}
use Rattle.std.specs.List.{find, range_with_len}
use Rattle.ndarray_layout_c.specs.BroadcastReasons.{first_apart, is_apart}
use Rattle.ndarray_layout_c.proofs.broadcast_reasons.co_broadcast_reason.Given as goal

abbrev pub invariant-loop-axis : goal.invariant-loop-axis
invariant-loop-axis l =
    find (is_apart l.count l.first l.second) (range_with_len l.axis (l.count - l.axis)) ≡ first_apart l.count l.first l.second
