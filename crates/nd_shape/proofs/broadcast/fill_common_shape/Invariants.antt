-- The axes in front are those of the longer list, and those so far are common to both.
use Rattle.std.proofs.Common.{◌≡◌, ℕ, ◌+◌, ◌-◌, ◌<◌, Some, length, get_or}
use Rattle.nd_shape.specs.CommonShape.{common_length}
use Rattle.nd_shape.proofs.broadcast.fill_common_shape.Given as goal

abbrev pub invariant-loop-axis : goal.invariant-loop-axis
invariant-loop-axis l = record {
  count : length l.common ≡ length l.longer;
  front : (k : ℕ) → k < length l.longer - length l.shorter → get_or l.common k 0 ≡ get_or l.longer k 0;
  after_front : (k : ℕ) → k < l.axis
      → common_length (get_or l.longer (length l.longer - length l.shorter + k) 0) (get_or l.shorter k 0)
      ≡ Some (get_or l.common (length l.longer - length l.shorter + k) 0);
}
