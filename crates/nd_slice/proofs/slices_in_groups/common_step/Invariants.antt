-- Divided by the step so far, or by any number where there is none, the picks of each slice so far leave one remainder.
use Rattle.std.proofs.Common.{◌≡◌, ◌⊎◌, ℕ, take}
use Rattle.std.specs.List.{All}
use Rattle.nd_slice.specs.RangesApart.{HasRemainderOn}
use Rattle.nd_slice.proofs.slices_in_groups.common_step.Given as goal

abbrev pub invariant-loop-item : goal.invariant-loop-item
invariant-loop-item l = All (λ item. (by : ℕ) → (l.common ≡ 0) ⊎ (l.common ≡ by)
    → HasRemainderOn by l.fit l.shape l.axis item.elems.now) (take l.item-index l.items)
