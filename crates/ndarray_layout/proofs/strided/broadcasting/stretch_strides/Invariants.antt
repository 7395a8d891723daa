-- New axes have a stride of 0, and those so far that were there theirs, or 0.
use Rattle.std.proofs.Common.{◌≡◌, ℕ, ◌+◌, ◌-◌, ◌<◌, cond, eqb, length, get_or}
use Rattle.ndarray_layout.proofs.strided.broadcasting.stretch_strides.Given as goal

abbrev pub invariant-loop-axis : goal.invariant-loop-axis
invariant-loop-axis l = record {
  count : length l.new_strides ≡ length l.shape;
  front : (k : ℕ) → k < length l.shape - length l.view_shape → get_or l.new_strides k 0 ≡ 0;
  after : (k : ℕ) → k < l.axis
      → get_or l.new_strides (length l.shape - length l.view_shape + k) 0
      ≡ cond (eqb (get_or l.shape (length l.shape - length l.view_shape + k) 0) (get_or l.view_shape k 0)) (get_or l.strides k 0) 0;
}
