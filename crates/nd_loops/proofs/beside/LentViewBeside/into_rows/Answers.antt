-- The rows are as long as those of any layout of the shape that is joined so, and have the items of the array.
use Rattle.std.proofs.Common.{◌≡◌, map, sym, ap, subst, ◌∙◌}
use Rattle.std.specs.List.{AllZip, flat_map}
use Rattle.ndarray_layout.specs.declared.Order.TheVariants.{RowMajor}
use Rattle.ndarray_layout.specs.Indices.{indices_in}
use Rattle.ndarray_layout.specs.JoinedInAll.{row_lens}
use Rattle.ndarray_layout.specs.View.{view_of}
use Rattle.nd_access.specs.Items.{item_at}
use Rattle.nd_access.specs.LentRow.{row_items}
use Rattle.nd_access.proofs.Laws.IndexItems.{items_in}
use Rattle.nd_access.proofs.Laws.Permuted.{permuted}
use Rattle.nd_access.proofs.Laws.Read.{rows_of_view_read}
use Rattle.nd_access.proofs.Laws.RowsLent.{items_of_rows, rows_beside}
use Rattle.nd_loops.specs.LentLayout.{LentLayout, array_of_lent}
use Rattle.nd_loops.proofs.RowsBeside.{count_of_one}
use Rattle.nd_loops.proofs.beside.LentViewBeside.into_rows.Given.{Over}
use Rattle.nd_loops.proofs.beside.LentViewBeside.into_rows.Goals as goal
use Rattle.nd_loops.proofs.beside.LentViewBeside.into_rows.Goals.{After-rows_along-rows}

pub new-requires : goal.new-requires
new-requires g c =
    let lent = c.self.inside in
    rows_of_view_read (view_of lent.start lent.lens.now lent.strides.now) c.rows_along-rows.result
    (permuted c.rows_along-rows.ensures.places) c.self.invariant c.rows_along-rows.ensures.some

-- the lengths are those of the shape
lens : (g : Over) (c : After-rows_along-rows g) → c.self.inside.lens.now ≡ c.args._lens.now
lens g c = ap (λ (lent : LentLayout g.row.U.Denot). lent.lens) c.self.view_is ∙ sym c.requires.shape

pub returns-clause-count : goal.returns-clause-count
returns-clause-count g c =
    let at = (goal.at.returns-clause-count g c).After-rows_along-rows in
    let items = c.self.inside.reader.items in
    let others = c.rows_along-rows.result in
    λ rows as_long.
    let alike = as_long ∙ ap (λ lens. row_lens RowMajor lens c.args.joined.0 c.args.joined.1) (sym (lens g at))
    ∙ sym c.rows_along-rows.ensures.lens in
    count_of_one rows c.new.result
    (subst (AllZip (λ row source. row.len ≡ source.row.len) rows) (sym c.new.ensures) (rows_beside items rows others alike))

pub returns-clause-values : goal.returns-clause-values
returns-clause-values g c =
    let at = (goal.at.returns-clause-values g c).After-rows_along-rows in
    let lent = c.self.inside in
    let array = array_of_lent (record {
      items = lent.reader.items;
      start = lent.start;
      lens = lent.lens.now;
      strides = lent.strides.now;
    }) in
    λ rows as_long many.
    ap (flat_map row_items) c.new.ensures
    ∙ items_of_rows RowMajor lent.reader.items array.view c.rows_along-rows.result c.rows_along-rows.ensures.places
    ∙ items_in RowMajor array
    ∙ ap (λ lens. map (item_at array) (indices_in RowMajor lens)) (lens g at)
    ∙ ap (λ lent. map (item_at (array_of_lent lent)) (indices_in RowMajor c.args._lens.now)) c.self.view_is
