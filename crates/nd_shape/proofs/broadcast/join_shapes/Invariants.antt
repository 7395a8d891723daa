-- The axes in front are those of the longer list. Each axis so far is common to both, or not all of them go together.
use Rattle.std.proofs.Common.{◌≡◌, ℕ, ◌+◌, ◌-◌, ◌<◌, true, Some, is_some, length, get_or}
use Rattle.nd_shape.specs.CommonShape.{common_length}
use Rattle.nd_shape.proofs.broadcast.join_shapes.Given as goal

abbrev pub invariant-loop-axis : goal.invariant-loop-axis
invariant-loop-axis l = record {
  count : length l.common ≡ length l.longer;
  front : (k : ℕ) → k < length l.longer - length l.shorter → get_or l.common k 0 ≡ get_or l.longer k 0;
  after_front : l.fits ≡ true → (k : ℕ) → k < l.axis
      → common_length (get_or l.longer (length l.longer - length l.shorter + k) 0) (get_or l.shorter k 0)
      ≡ Some (get_or l.common (length l.longer - length l.shorter + k) 0);
  whole : ((k : ℕ) → k < l.axis
      → is_some (common_length (get_or l.longer (length l.longer - length l.shorter + k) 0) (get_or l.shorter k 0)) ≡ true) → l.fits ≡ true;
}
