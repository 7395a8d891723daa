-- The rows of both have their items, beside one another.
use Rattle.std.proofs.Common.{rules, ◌≡◌, map, ap, subst, sym, ◌∙◌}
use Rattle.std.specs.List.{AllZip}
use Rattle.ndarray_layout.specs.declared.Order.TheVariants.{RowMajor}
use Rattle.ndarray_layout.specs.View.{view_places}
use Rattle.nd_access.specs.Items.{item_at_place}
use Rattle.nd_access.specs.LentRow.{row_of, rows_items}
use Rattle.nd_access.specs.Mapped.{row_major_items}
use Rattle.nd_access.specs.Zipped.{pairs_of, row_major_pairs}
use Rattle.nd_access.proofs.Laws.IndexItems.{items_in}
use Rattle.nd_access.proofs.Laws.Permuted.{permuted}
use Rattle.nd_access.proofs.Laws.Read.{rows_of_view_read}
use Rattle.nd_access.proofs.Laws.RowsLent.{All-as_long, items_of_rows, rows_alike}
use Rattle.nd_loops.specs.FoldedPairs.{CallableInFoldOfPairs, FoldsPairs}
use Rattle.nd_lent.proofs.array_view.ArrayView.fold_with.Given.{Over}
use Rattle.nd_lent.proofs.array_view.ArrayView.fold_with.Goals as goal
use Rattle.nd_lent.proofs.array_view.ArrayView.fold_with.Goals.{After-new-others}

pub new-rows-requires : goal.new-rows-requires
new-rows-requires g c =
    let rows = c.joined_rows_with-rows in
    rows_of_view_read c.args.self.now.view rows.result.0
    (permuted (rows.ensures.first ∙ ap (view_places RowMajor) c.strided.ensures.view)) c.reader.ensures.read rows.ensures.some

pub new-others-requires : goal.new-others-requires
new-others-requires g c =
    let rows = c.joined_rows_with-rows in
    rows_of_view_read c.args.other.now.view rows.result.1
    (permuted (rows.ensures.second ∙ ap (view_places RowMajor) c.strided-2.ensures.view)) c.reader-2.ensures.read
    (All-as_long rows.result.0 rows.result.1 rows.ensures.alike rows.ensures.some)

pub fold_pair_rows-requires-clause-count : goal.fold_pair_rows-requires-clause-count
fold_pair_rows-requires-clause-count g c =
    let rows = c.joined_rows_with-rows in
    subst (λ own. AllZip (λ row other. row.row.len ≡ other.row.len) own c.new-others.result) (sym c.new-rows.ensures)
    (subst (AllZip (λ row other. row.row.len ≡ other.row.len) (map (row_of c.reader.result.items) rows.result.0)) (sym c.new-others.ensures)
    (rows_alike c.reader.result.items c.reader-2.result.items rows.result.0 rows.result.1 rows.ensures.alike))

-- the items of the rows are those of both arrays
pairs : (g : Over) (c : After-new-others g)
    → pairs_of (rows_items c.new-rows.result) (rows_items c.new-others.result) ≡ row_major_pairs c.args.self.now c.args.other.now
pairs g c =
    let rows = c.joined_rows_with-rows in
    let own = ap rows_items c.new-rows.ensures
    ∙ items_of_rows RowMajor c.reader.result.items c.args.self.now.view rows.result.0
    (rows.ensures.first ∙ ap (view_places RowMajor) c.strided.ensures.view)
    ∙ ap (λ items. map (item_at_place items) (view_places RowMajor c.args.self.now.view)) c.reader.ensures.items
    ∙ items_in RowMajor c.args.self.now in
    let others = ap rows_items c.new-others.ensures
    ∙ items_of_rows RowMajor c.reader-2.result.items c.args.other.now.view rows.result.1
    (rows.ensures.second ∙ ap (view_places RowMajor) c.strided-2.ensures.view)
    ∙ ap (λ items. map (item_at_place items) (view_places RowMajor c.args.other.now.view)) c.reader-2.ensures.items
    ∙ items_in RowMajor c.args.other.now in
    ap (λ items. pairs_of items (rows_items c.new-others.result)) own
    ∙ ap (pairs_of (row_major_items c.args.self.now)) others

same_shape : (g : Over) (c : After-new-others g) → c.args.self.now.view.shape ≡ c.args.other.now.view.shape
same_shape g c = search rules

pub fold_pair_rows-requires-clause-callable : goal.fold_pair_rows-requires-clause-callable
fold_pair_rows-requires-clause-callable g c =
    let at = (goal.at.fold_pair_rows-requires-clause-callable g c).After-new-others in
    subst (λ pairs. CallableInFoldOfPairs g.F.FnMut pairs c.args.f c.args.init) (sym (pairs g at))
    (c.requires.callable (same_shape g at))

pub returns-clause-ran : goal.returns-clause-ran
returns-clause-ran g c =
    let at = (goal.at.returns-clause-ran g c).After-new-others in
    subst (λ pairs. FoldsPairs g.F.FnMut pairs c.args.f c.args.init c.fold_pair_rows.result) (pairs g at) c.fold_pair_rows.ensures
