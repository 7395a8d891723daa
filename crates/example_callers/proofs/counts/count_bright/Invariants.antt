-- What was counted so far and what is still to be counted are all.
use Rattle.std.proofs.Common.{◌≡◌, ◌+◌, ◌≤◌, false, length}
use Rattle.std.specs.List.{count_by}
use Rattle.std.specs.Option.{option_map_or}
use Rattle.std.specs.Prelude.{nat_le}
use Rattle.ndarray_layout.specs.declared.Order.TheVariants.{RowMajor}
use Rattle.ndarray_layout.specs.Indices.{indices_in}
use Rattle.ndarray_layout.specs.Size.{size}
use Rattle.nd_owned.specs.Owned.{item_at}
use Rattle.example_callers.proofs.counts.count_bright.Given as goal

abbrev pub invariant-loop-index : goal.invariant-loop-index
invariant-loop-index l = record {
  counted : l.count + count_by (λ index. option_map_or (λ pixel. nat_le l.least pixel) (item_at l.fn.picture index) false) l.index-iterator
      ≡ count_by (λ index. option_map_or (λ pixel. nat_le l.least pixel) (item_at l.fn.picture index) false)
      (indices_in RowMajor l.fn.picture.view.shape);
  few : l.count + length l.index-iterator ≤ size l.fn.picture.view.shape;
}
