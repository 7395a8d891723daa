-- The items of the rows are those of the array, in some order.
use Rattle.std.proofs.Common.{◌≡◌, ℕ, ◌<◌, ◌^◌, Option, map, subst, sym}
use Rattle.std.specs.List.{sum_by}
use Rattle.std.specs.Option.{option_map_or}
use Rattle.std.specs.Prelude.{IfSome, IsSome}
use Rattle.std.proofs.lemmas.List.Sorted.{sum_by-IsPermutation}
use Rattle.ndarray_layout.specs.declared.Order.TheVariants.{RowMajor}
use Rattle.ndarray_layout.specs.View.{view_places}
use Rattle.nd_access.specs.LentRow.{rows_items}
use Rattle.nd_access.specs.Items.{item_at_place}
use Rattle.nd_loops.proofs.Laws.Sums.{summed_fits, summed_is}
use Rattle.nd_lent.proofs.array_view.ArrayView.sum.Given.{Over}
use Rattle.nd_lent.proofs.array_view.ArrayView.sum.Goals as goal
use Rattle.nd_lent.proofs.array_view.ArrayView.sum.Goals.{After-rows_in}

abbrev value : (g : Over) → Option g.row.T.Denot → ℕ
value g item = option_map_or g.T.Unsigned.number item 0

same_sum : (g : Over) (c : After-rows_in g)
    → sum_by (value g) (map (item_at_place c.args.self.now.items) (view_places RowMajor c.args.self.now.view))
    ≡ sum_by (value g) (rows_items c.rows_in.result)
same_sum g c =
    sum_by-IsPermutation (value g) (rows_items c.rows_in.result)
    (map (item_at_place c.args.self.now.items) (view_places RowMajor c.args.self.now.view)) c.rows_in.ensures

pub returns-clause-fits : goal.returns-clause-fits
returns-clause-fits g c =
    subst (λ n. (IsSome c.sum_rows.result → n < 2 ^ 64) × (n < 2 ^ 64 → IsSome c.sum_rows.result))
    (sym (same_sum g (goal.at.returns-clause-fits g c).After-rows_in))
    (summed_fits (sum_by (value g) (rows_items c.rows_in.result)) c.sum_rows.ensures)

pub returns-clause-sum : goal.returns-clause-sum
returns-clause-sum g c =
    subst (λ n. IfSome c.sum_rows.result (λ total. total ≡ n)) (sym (same_sum g (goal.at.returns-clause-sum g c).After-rows_in))
    (summed_is (sum_by (value g) (rows_items c.rows_in.result)) c.sum_rows.ensures)
