-- All items are left, and all indices.
use Rattle.std.proofs.Common.{◌≡◌, length, ap, ◌∙◌}
use Rattle.std.specs.List.{zip}
use Rattle.ndarray_layout.specs.declared.Order.TheVariants.{RowMajor}
use Rattle.ndarray_layout.specs.Indices.{indices_in}
use Rattle.nd_items.proofs.Laws.IndexedItems.{all_at_first, many_at_first}
use Rattle.nd_lent.proofs.array_view.ArrayView.into_indexed_iter.Given.{Over}
use Rattle.nd_lent.proofs.array_view.ArrayView.into_indexed_iter.Goals as goal
use Rattle.nd_lent.proofs.array_view.ArrayView.into_indexed_iter.Goals.{After-into_iter}

indices : (g : Over) (c : After-into_iter g) → c.in_ok-index.index ≡ indices_in RowMajor c.args.self.view.shape
indices g c = c.in_ok-index.ensures.indices ∙ ap (indices_in RowMajor) c.dim.ensures.list

pub of_items-requires : goal.of_items-requires
of_items-requires g c =
    ap length (indices g (goal.at.of_items-requires g c).After-into_iter)
    ∙ many_at_first c.args.self c.into_iter.ensures.into_iter_gives.0

pub returns-clause-items : goal.returns-clause-items
returns-clause-items g c =
    c.of_items.ensures.items ∙ ap (λ left. zip left c.into_iter.result) (indices g (goal.at.returns-clause-items g c).After-into_iter)
    ∙ all_at_first c.args.self c.into_iter.ensures.into_iter_gives.0
