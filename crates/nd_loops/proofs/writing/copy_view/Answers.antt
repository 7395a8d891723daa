-- The places of the rows are those of the views.
use Rattle.std.proofs.Common.{◌≡◌, map, ap, subst, sym, ◌∙◌}
use Rattle.std.specs.List.{AllZip}
use Rattle.ndarray_layout.specs.declared.Order.TheVariants.{RowMajor}
use Rattle.ndarray_layout.specs.Rows.{rows_places}
use Rattle.ndarray_layout.specs.View.{view_places}
use Rattle.nd_access.specs.Items.{item_at_place}
use Rattle.nd_access.specs.LentRow.{rows_items}
use Rattle.nd_access.specs.Read.{HaveMarks}
use Rattle.nd_access.specs.Written.{HasSet}
use Rattle.nd_access.proofs.Laws.Permuted.{permuted}
use Rattle.nd_access.proofs.Laws.RowsLent.{All-as_long, items_of_rows, rows_beside, rows_within}
use Rattle.nd_loops.proofs.Laws.RowsOwned.{rows_of_own}
use Rattle.nd_loops.proofs.writing.copy_view.Goals as goal

pub new-requires : goal.new-requires
new-requires g c =
    let rows = c.joined_rows_with-rows in
    record {
      has = rows_within RowMajor c.args.source.now rows.result.1 (permuted rows.ensures.second) c.requires.is_view c.requires.items
          (All-as_long rows.result.0 rows.result.1 rows.ensures.alike rows.ensures.some);
      marked = subst (HaveMarks c.args.items.marks) (sym rows.ensures.second) c.requires.marked;
    }

pub copy_rows-requires-clause-rows : goal.copy_rows-requires-clause-rows
copy_rows-requires-clause-rows g c =
    let rows = c.joined_rows_with-rows in
    rows_of_own RowMajor c.args.cells.now.marks c.args.view.now rows.result.0 c.requires.own_view c.requires.own rows.ensures.first

pub copy_rows-requires-clause-count : goal.copy_rows-requires-clause-count
copy_rows-requires-clause-count g c =
    let rows = c.joined_rows_with-rows in
    subst (AllZip (λ row source. row.len ≡ source.row.len) rows.result.0) (sym c.new.ensures)
    (rows_beside c.args.items.items rows.result.0 rows.result.1 rows.ensures.alike)

pub returns-clause-copied : goal.returns-clause-copied
returns-clause-copied g c =
    let rows = c.joined_rows_with-rows in
    let items = c.args.items.items in
    let old = c.args.cells.now.items in
    let new = c.copy_rows.new.cells.items in
    subst (λ places. HasSet places (map (item_at_place items) (view_places RowMajor c.args.source.now)) old new) rows.ensures.first
    (subst (λ given. HasSet (rows_places rows.result.0) given old new)
    (ap rows_items c.new.ensures ∙ items_of_rows RowMajor items c.args.source.now rows.result.1 rows.ensures.second)
    c.copy_rows.ensures.copied)
