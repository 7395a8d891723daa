-- All items are left, and all indices.
use Rattle.std.proofs.Common.{◌≡◌, length, ap, ◌∙◌}
use Rattle.std.specs.List.{zip}
use Rattle.ndarray_layout.specs.declared.Order.TheVariants.{RowMajor}
use Rattle.ndarray_layout.specs.Indices.{indices_in}
use Rattle.nd_items.specs.ItemsLeft.{items_left}
use Rattle.nd_lent.specs.Lent.{array_of}
use Rattle.nd_items.proofs.Laws.IndexedItems.{all_at_first, many_at_first}
use Rattle.nd_lent.proofs.array_view_mut.ArrayViewMut.into_indexed_items.Given.{Over}
use Rattle.nd_lent.proofs.array_view_mut.ArrayViewMut.into_indexed_items.Goals as goal
use Rattle.nd_lent.proofs.array_view_mut.ArrayViewMut.into_indexed_items.Goals.{After-into_items}

indices : (g : Over) (c : After-into_items g) → c.in_ok-index.index ≡ indices_in RowMajor (array_of c.args.self).view.shape
indices g c = c.in_ok-index.ensures.indices ∙ ap (indices_in RowMajor) c.dim.ensures.list

pub of_items-requires : goal.of_items-requires
of_items-requires g c =
    ap length (indices g (goal.at.of_items-requires g c).After-into_items) ∙ many_at_first (array_of c.args.self) c.into_items.ensures.items

pub returns-clause-items : goal.returns-clause-items
returns-clause-items g c =
    c.of_items.ensures.items
    ∙ ap (λ left. zip left (items_left c.into_items.result)) (indices g (goal.at.returns-clause-items g c).After-into_items)
    ∙ all_at_first (array_of c.args.self) c.into_items.ensures.items
