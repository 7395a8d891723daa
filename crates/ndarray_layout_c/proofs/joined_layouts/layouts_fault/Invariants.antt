-- The first layout at fault among those that are left is the first of all, and those before are valid.
use Rattle.std.proofs.Common.{◌≡◌, ℕ, ◌-◌, ◌<◌, length}
use Rattle.std.specs.List.{find, range_with_len}
use Rattle.ndarray_layout.specs.JoinedInAll.{strides_of}
use Rattle.ndarray_layout.specs.Signed.{all_signed}
use Rattle.ndarray_layout.specs.ValidLayout.{IsValidLayout}
use Rattle.ndarray_layout_c.specs.LayoutsFault.{first_at_fault, is_at_fault}
use Rattle.ndarray_layout_c.proofs.joined_layouts.layouts_fault.Given as goal

abbrev pub invariant-loop-number : goal.invariant-loop-number
invariant-loop-number l = record {
  fault : find (is_at_fault l.shape l.strides) (range_with_len l.number (l.layouts - l.number))
      ≡ first_at_fault l.shape l.strides l.layouts;
  valid : (number : ℕ) → number < l.number
      → IsValidLayout l.shape (all_signed (strides_of (length l.shape) number l.strides));
}
