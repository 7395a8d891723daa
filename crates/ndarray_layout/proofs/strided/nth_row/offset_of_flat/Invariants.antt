-- As far as the offset is from the first index, and then as far as what is left of the flat index in the axes that are left.
use Rattle.std.proofs.Common.{◌≡◌, ◌+ℤ◌, length}
use Rattle.nd_base.specs.FlatIndex.{index_of_flat_in}
use Rattle.nd_base.specs.Offset.{offset_of}
use Rattle.nd_base.specs.Signed.{all_signed}
use Rattle.nd_base.specs.Span.{low_span}
use Rattle.ndarray_layout.proofs.NthRow.{HasFlat}
use Rattle.ndarray_layout.proofs.strided.nth_row.offset_of_flat.Given as goal

abbrev pub decreases-axes : goal.decreases-axes
decreases-axes l = length l.lens

abbrev pub invariant-axes : goal.invariant-axes
invariant-axes l = record {
  has : HasFlat (low_span l.fn.lens (all_signed l.fn.strides)) l.lens l.strides l.left;
  same : l.offset +ℤ offset_of (all_signed l.strides) (index_of_flat_in l.order l.lens l.left)
      ≡ offset_of (all_signed l.fn.strides) (index_of_flat_in l.order l.fn.lens l.flat_index);
}
