-- A slice is copied over the places of a row that lie side by side.
use Rattle.std.proofs.Common.{rules, ◌≡◌, pos, Some, List, length, map, drop, ap, sym, subst, arith}
use Rattle.std.proofs.lemmas.List.{length-drop, length-map, length-take-le}
use Rattle.ndarray_layout.specs.Rows.{row_places}
use Rattle.nd_access.specs.Cells.{written_at}
use Rattle.nd_access.specs.LentRow.{RowValue, row_items}
use Rattle.nd_access.specs.Written.{HasSet}
use Rattle.nd_access.proofs.Laws.Pushed.{length-row_items}
use Rattle.nd_loops.proofs.Laws.RowsOwned.{stretch_of_row}
use Rattle.nd_loops.proofs.Laws.SetItems.{slice_set}
use Rattle.nd_loops.proofs.writing.copy_row.Goals as goal

long : {X : Type 0} (slice : List X) (row : RowValue X) → map Some slice ≡ row_items row → length slice ≡ row.row.len
long slice row items = omega (arith, ap length items, length-map slice Some, length-row_items row)

pub slice_mut-stored-requires : goal.slice_mut-stored-requires
slice_mut-stored-requires g c =
    let one : c.args.row.stride ≡ pos 1 = search rules in
    stretch_of_row c.args.cells.now.marks c.args.row c.requires.row one c.requires.some

pub copy_from_slice-requires : goal.copy_from_slice-requires
copy_from_slice-requires g c =
    let old = c.args.cells.now.items in
    let start = c.args.row.start in
    omega (
      arith,
      ap length c.slice_mut-stored.ensures.value.0,
      length-take-le c.args.row.len (drop start old) (omega (arith, length-drop start old, c.slice_mut-stored.ensures.value.1)),
      c.requires.count,
      long c.in-Some.items.now c.args.source.now c.in-Some.ensures.items,
    )

pub returns-in-Some-clause-copied : goal.returns-in-Some-clause-copied
returns-in-Some-clause-copied g c =
    let row = c.args.row in
    let old = c.args.cells.now.items in
    let items = c.in-Some.items.now in
    let one : row.stride ≡ pos 1 = search rules in
    let count = long items c.args.source.now c.in-Some.ensures.items in
    subst (λ stored. HasSet (row_places row.start row.stride row.len) (row_items c.args.source.now) old (written_at row.start stored old))
    (sym c.copy_from_slice.ensures.after)
    (subst (λ given. HasSet (row_places row.start row.stride row.len) given old (written_at row.start items old)) c.in-Some.ensures.items
    (subst (λ stride. HasSet (row_places row.start stride row.len) (map Some items) old (written_at row.start items old)) (sym one)
    (slice_set row.start row.len items old (omega (arith, count, c.requires.count)) c.slice_mut-stored.ensures.value.1)))
