-- Its items are all of the slice.
use Rattle.std.proofs.Common.{◌≡◌, pos, Some, length, map, sym, ap, subst, ◌∙◌, true}
use Rattle.std.specs.Prelude.{replicate}
use Rattle.std.proofs.lemmas.List.{length-map}
use Rattle.ndarray_layout.specs.declared.Row.{Row}
use Rattle.ndarray_layout.specs.Rows.{row_places}
use Rattle.nd_access.specs.Items.{item_at_place}
use Rattle.nd_access.specs.LentRow.{HasRow, row_items}
use Rattle.nd_access.specs.Read.{IsRowRead}
use Rattle.nd_access.proofs.Laws.Read.{row_all_read}
use Rattle.nd_access.proofs.Laws.RowMaps.{all_neighbours, whole_row}
use Rattle.nd_access.proofs.Laws.RowsLent.{count_of_items}
use Rattle.nd_access.proofs.rows.LentRow.alone.Given.{Over}
use Rattle.nd_access.proofs.rows.LentRow.alone.Goals as goal
use Rattle.nd_access.proofs.rows.LentRow.alone.Goals.{In_ok-items}

long : (g : Over) (c : In_ok-items g) → length c.in_ok-items.items.now ≡ c.self.inside.row.len
long g c =
    sym (length-map c.in_ok-items.items.now Some)
    ∙ ap length c.in_ok-items.ensures.items
    ∙ ap (λ value. length (row_items value)) (sym c.self.view_is)
    ∙ sym (count_of_items c.self.inside.reader.items c.self.inside.row)

pub invariant_of-result : goal.invariant_of-result
invariant_of-result g c =
    let len = c.self.inside.row.len in
    let all = c.of_slice.ensures.all in
    let row : Row = record { start = 0; stride = pos 1; len = len } in
    let has = subst (λ n. HasRow n row) (sym (long g (goal.at.invariant_of-result g c).In_ok-items))
    (whole_row len c.self.invariant.has.some c.self.invariant.has.short) in
    subst (λ marks. IsRowRead marks (length c.of_slice.result.items) row) (sym all.1)
    (subst (λ items. IsRowRead (replicate (length c.in_ok-items.items.now) true) (length items) row) (sym all.0) (row_all_read row has))

pub returns-clause-items : goal.returns-clause-items
returns-clause-items g c =
    let items = c.in_ok-items.items.now in
    ap (λ items. map (item_at_place items) (row_places 0 (pos 1) c.self.inside.row.len)) c.of_slice.ensures.all.0
    ∙ ap (λ n. map (item_at_place items) (row_places 0 (pos 1) n)) (sym (long g (goal.at.returns-clause-items g c).In_ok-items))
    ∙ all_neighbours items
    ∙ c.in_ok-items.ensures.items
