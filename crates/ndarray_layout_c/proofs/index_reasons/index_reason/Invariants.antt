-- The first axis with a coordinate that is none of it, among those that are left, is the first of all.
use Rattle.std.proofs.Common.{◌≡◌, ◌-◌, length}
use Rattle.std.specs.List.{find, range_with_len}
use Rattle.ndarray_layout_c.specs.IndexReasons.{first_outside, is_outside}
use Rattle.ndarray_layout_c.proofs.index_reasons.index_reason.Given as goal

abbrev pub invariant-loop-axis : goal.invariant-loop-axis
invariant-loop-axis l = find (is_outside l.shape l.index) (range_with_len l.axis (length l.shape - l.axis)) ≡ first_outside l.shape l.index
