-- The first axis that is missing among those that are left is the first of all.
use Rattle.std.proofs.Common.{◌≡◌, ◌-◌, length}
use Rattle.std.specs.List.{find, range_with_len}
use Rattle.std.specs.Prelude.{not}
use Rattle.ndarray_layout_c.specs.PermuteReasons.{first_missing, is_listed}
use Rattle.ndarray_layout_c.proofs.permute_reasons.permute_reason.Given as goal

abbrev pub invariant-loop-axis : goal.invariant-loop-axis
invariant-loop-axis l =
    find (λ axis. not (is_listed l.axes axis)) (range_with_len l.axis (length l.shape - l.axis)) ≡ first_missing l.shape l.axes
