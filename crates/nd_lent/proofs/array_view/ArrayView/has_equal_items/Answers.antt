-- The rows of both have their items, beside one another.
use Rattle.std.proofs.Common.{◌≡◌, map, ap, subst, sym, ◌∙◌}
use Rattle.std.specs.Cmp.Lexicographic.{pointwise}
use Rattle.std.specs.List.{AllZip}
use Rattle.std.specs.List.Sorted.{IsPermutation}
use Rattle.std.specs.Prelude.{zip}
use Rattle.ndarray_layout.specs.declared.Order.TheVariants.{RowMajor}
use Rattle.ndarray_layout.specs.Nearest.{pairs_of_places}
use Rattle.ndarray_layout.specs.Rows.{rows_places}
use Rattle.ndarray_layout.specs.View.{place_at}
use Rattle.nd_access.specs.Items.{item_at_place}
use Rattle.nd_loops.specs.Equal.{both_equal}
use Rattle.nd_access.specs.LentRow.{row_of, rows_items}
use Rattle.nd_loops.proofs.Laws.Moved.{AreAlike, alike_moved, first_moved, second_moved}
use Rattle.nd_loops.proofs.Laws.Comparing.{compared_in}
use Rattle.nd_access.proofs.Laws.Read.{rows_of_view_read}
use Rattle.nd_access.proofs.Laws.RowsLent.{All-as_long, as_many_places, rows_alike, rows_items-row_of}
use Rattle.nd_lent.proofs.array_view.ArrayView.has_equal_items.Given.{Over}
use Rattle.nd_lent.proofs.array_view.ArrayView.has_equal_items.Goals as goal
use Rattle.nd_lent.proofs.array_view.ArrayView.has_equal_items.Goals.{After-nearest_rows_with-rows}

-- the rows of both, alike
both : (g : Over) (c : After-nearest_rows_with-rows g)
    → AreAlike c.args.self.now.view c.args.other.now.view (rows_places c.nearest_rows_with-rows.result.0)
    (rows_places c.nearest_rows_with-rows.result.1)
both g c =
    let rows = c.nearest_rows_with-rows in
    alike_moved c.args.self.now.view c.args.other.now.view c.requires (rows_places rows.result.0) (rows_places rows.result.1)
    (sym (as_many_places rows.result.0 rows.result.1 rows.ensures.alike))
    (subst (λ other. IsPermutation (zip (rows_places rows.result.0) (rows_places rows.result.1))
    (pairs_of_places c.args.self.now.view other)) c.strided-4.ensures.view
    (subst (λ view. IsPermutation (zip (rows_places rows.result.0) (rows_places rows.result.1))
    (pairs_of_places view c.strided-4.result.now)) c.strided-3.ensures.view rows.ensures.places))

pub new-requires : goal.new-requires
new-requires g c =
    let rows = c.nearest_rows_with-rows in
    let at = (goal.at.new-requires g c).After-nearest_rows_with-rows in
    rows_of_view_read c.args.self.now.view rows.result.0 (first_moved (both g at)) c.reader.ensures.read rows.ensures.some

pub new-requires-2 : goal.new-requires-2
new-requires-2 g c =
    let rows = c.nearest_rows_with-rows in
    let at = (goal.at.new-requires-2 g c).After-nearest_rows_with-rows in
    rows_of_view_read c.args.other.now.view rows.result.1 (second_moved (both g at) c.requires) c.reader-2.ensures.read
    (All-as_long rows.result.0 rows.result.1 rows.ensures.alike rows.ensures.some)

pub have_equal_rows-requires : goal.have_equal_rows-requires
have_equal_rows-requires g c =
    let rows = c.nearest_rows_with-rows in
    subst (λ own. AllZip (λ row other. row.row.len ≡ other.row.len) own c.new-2.result) (sym c.new.ensures)
    (subst (AllZip (λ row other. row.row.len ≡ other.row.len) (map (row_of c.reader.result.items) rows.result.0)) (sym c.new-2.ensures)
    (rows_alike c.reader.result.items c.reader-2.result.items rows.result.0 rows.result.1 rows.ensures.alike))

pub returns : goal.returns
returns g c =
    let rows = c.nearest_rows_with-rows in
    let all = both g (goal.at.returns g c).After-nearest_rows_with-rows in
    let compare = pointwise (both_equal g.T.EqualTo.equal_to) in
    let own = ap rows_items c.new.ensures
    ∙ rows_items-row_of c.reader.result.items rows.result.0
    ∙ ap (λ items. map (item_at_place items) (rows_places rows.result.0)) c.reader.ensures.items
    ∙ ap (map (item_at_place c.args.self.now.items)) all.first in
    let others = ap rows_items c.new-2.ensures
    ∙ rows_items-row_of c.reader-2.result.items rows.result.1
    ∙ ap (λ items. map (item_at_place items) (rows_places rows.result.1)) c.reader-2.ensures.items
    ∙ ap (map (item_at_place c.args.other.now.items)) all.second in
    c.have_equal_rows.ensures
    ∙ ap (λ items. compare items (rows_items c.new-2.result)) own
    ∙ ap (compare (map (item_at_place c.args.self.now.items) (map (place_at c.args.self.now.view) all.indices))) others
    ∙ compared_in g.T.EqualTo.equal_to c.args.self.now c.args.other.now c.requires all.indices all.once
