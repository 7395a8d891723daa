-- The leading axis so far.
use Rattle.std.proofs.Common.{◌≡◌, ◌<◌, ◌≤◌, ℕ, List, length, get_or}
use Rattle.std.specs.Prelude.{ℤ}
use Rattle.nd_dim.specs.StrideOrder.{magnitude_at}

-- what `IsLeadingAxis` says of the last of equals, of the axes below i alone
pub record LeadsBelow (leads : ℕ → ℕ → Type 0) (otherwise : ℕ) (lens : List ℕ) (strides : List ℤ) (i axis : ℕ) : Type 0 where
  pub exists : axis < length lens
  pub long : (k : ℕ) → k < i → 1 < get_or lens k 0 → 1 < get_or lens axis 0
  pub leading : (k : ℕ) → k < i → 1 < get_or lens k 0 → leads (magnitude_at strides axis) (magnitude_at strides k)
  pub of_equals : (k : ℕ) → k < i → 1 < get_or lens k 0 → magnitude_at strides axis ≡ magnitude_at strides k → k ≤ axis
  pub without_long : get_or lens axis 0 ≤ 1 → axis ≡ otherwise
