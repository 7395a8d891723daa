use Rattle.ndarray_layout_c.specs.BlockReasons.{taken_counts}
use Rattle.ndarray_layout_c.proofs.Products.{IsProduct}
use Rattle.ndarray_layout_c.proofs.block_reasons.times_counts.Given as goal

abbrev pub invariant-loop-axis : goal.invariant-loop-axis
invariant-loop-axis l = IsProduct l.number (taken_counts l.blocks l.shape l.block) l.axis l.product
