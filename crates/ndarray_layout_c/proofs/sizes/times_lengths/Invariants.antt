use Rattle.ndarray_layout_c.proofs.Products.{IsProduct}
use Rattle.ndarray_layout_c.proofs.sizes.times_lengths.Given as goal

abbrev pub invariant-loop-len : goal.invariant-loop-len
invariant-loop-len l = IsProduct l.number l.lens l.len-index l.product
