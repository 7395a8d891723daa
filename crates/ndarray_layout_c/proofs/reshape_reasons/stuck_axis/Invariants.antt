-- The first axis that is stuck among those that are left is the first of all.
use Rattle.std.proofs.Common.{◌≡◌, ◌-◌, length}
use Rattle.std.specs.List.{find, range_with_len}
use Rattle.ndarray_layout.specs.Dim.{lengths}
use Rattle.ndarray_layout_c.specs.ReshapeReasons.{first_stuck, is_stuck}
use Rattle.ndarray_layout_c.proofs.reshape_reasons.stuck_axis.Given as goal

abbrev pub invariant-loop-before : goal.invariant-loop-before
invariant-loop-before l =
    find (is_stuck l.order (lengths l.new_shape) l.shape l.strides) (range_with_len l.before (length l.shape - l.before))
    ≡ first_stuck l.order (lengths l.new_shape) l.shape l.strides
