-- Whether each axis so far goes together with its other one.
use Rattle.std.proofs.Common.{◌≡◌, ℕ, ◌+◌, ◌-◌, ◌<◌, true, is_some, length, get_or}
use Rattle.nd_shape.specs.CommonShape.{common_length}
use Rattle.nd_shape.proofs.broadcast.have_common_shape.Given as goal

abbrev pub invariant-loop-axis : goal.invariant-loop-axis
invariant-loop-axis l = record {
  so_far : l.fits ≡ true → (k : ℕ) → k < l.axis
      → is_some (common_length (get_or l.longer (length l.longer - length l.shorter + k) 0) (get_or l.shorter k 0)) ≡ true;
  whole : ((k : ℕ) → k < l.axis
      → is_some (common_length (get_or l.longer (length l.longer - length l.shorter + k) 0) (get_or l.shorter k 0)) ≡ true) → l.fits ≡ true;
}
