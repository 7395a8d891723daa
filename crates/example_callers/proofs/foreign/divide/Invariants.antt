-- The strides below the index are divided, the others as they were.
use Rattle.std.proofs.Common.{◌≡◌, ℕ, ◌<◌, ◌≤◌, pos, ◌*ℤ◌, get_or}
use Rattle.ndarray_layout.specs.Signed.{signed}
use Rattle.example_callers.proofs.foreign.divide.Given as goal

abbrev pub invariant-loop-stride : goal.invariant-loop-stride
invariant-loop-stride l = record {
  below : (k : ℕ) → k < l.stride-index → signed (get_or l.strides k 0) *ℤ pos l.elem_size ≡ signed (get_or l.initial.strides k 0);
  after : (k : ℕ) → l.stride-index ≤ k → get_or l.strides k 0 ≡ get_or l.initial.strides k 0;
}
