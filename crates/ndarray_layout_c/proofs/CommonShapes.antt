-- The shape that two shapes have in common doesn't depend on which is the first.
use Rattle.std.proofs.Common.{◌≡◌, ℕ, List}
use Rattle.ndarray_layout.specs.CommonShape.{common_shape, common_shape_fault}
use Rattle.ndarray_layout.proofs.Laws.CommonShape.{common_shape-commutes, common_shape_fault-commutes}

pub shape_commutes : (shape other : List ℕ) → common_shape shape other ≡ common_shape other shape
shape_commutes shape other = common_shape-commutes shape other

pub fault_commutes : (shape other : List ℕ) → common_shape_fault shape other ≡ common_shape_fault other shape
fault_commutes shape other = common_shape_fault-commutes shape other
