-- The first axis of the least stride so far, where a pass goes from the last axis to the first.
use Rattle.std.proofs.Common.{◌≡◌, ◌<◌, ◌≤◌, ◌-◌, ℕ, ℤ, List, length, get_or}
use Rattle.nd_dim.specs.StrideOrder.{magnitude_at}

-- what `IsFirstLeastAxis` says, of the axes from i on alone
pub record IsFirstLeastFrom (lens : List ℕ) (strides : List ℤ) (i axis : ℕ) : Type 0 where
  pub exists : axis < length lens
  pub long : (k : ℕ) → i ≤ k → k < length lens → 1 < get_or lens k 0 → 1 < get_or lens axis 0
  pub leading : (k : ℕ) → i ≤ k → k < length lens → 1 < get_or lens k 0 → magnitude_at strides axis ≤ magnitude_at strides k
  pub of_equals : (k : ℕ) → i ≤ k → k < length lens → 1 < get_or lens k 0 → magnitude_at strides axis ≡ magnitude_at strides k → axis ≤ k
  pub without_long : get_or lens axis 0 ≤ 1 → axis ≡ length lens - 1
