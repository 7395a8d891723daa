-- How far a layout reaches above its start: as far as its span, less what lies below.
use Rattle.std.proofs.Common.{◌≡◌, ℕ, ◌-◌, ◌≤◌, ℤ, List, arith}
use Rattle.ndarray_layout.specs.Span.{high_span, low_span, span}
use Rattle.ndarray_layout.proofs.Laws.Span.{low_high_span}

pub above_of_span : (shape : List ℕ) (strides : List ℤ) {low whole : ℕ} → low ≡ low_span shape strides → whole ≡ span shape strides
    → (low ≤ whole) × (whole - low ≡ high_span shape strides)
above_of_span shape strides below all =
    (omega (arith, below, all, low_high_span shape strides), omega (arith, below, all, low_high_span shape strides))
