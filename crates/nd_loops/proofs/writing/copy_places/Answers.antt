-- One more item is copied, over that of the next coordinate.
use Rattle.std.proofs.Common.{false, pos, get_or, refl, sym, ap, ◌∙◌, arith}
use Rattle.std.proofs.lemmas.List.{length-map, length-set}
use Rattle.ndarray_layout.proofs.Laws.Rows.{get_or-row_places, length-row_places}
use Rattle.nd_access.specs.Items.{item_at_place}
use Rattle.nd_access.specs.LentRow.{places_of, row_items}
use Rattle.nd_access.specs.Part.{has_mark}
use Rattle.nd_access.proofs.Laws.SwappedCells.{got}
use Rattle.nd_loops.proofs.Laws.RowsOwned.{IsPlaceOfRow, place_of_row}
use Rattle.nd_loops.proofs.Laws.SetItems.{all_set, none_set, one_more_set}
use Rattle.nd_loops.proofs.writing.copy_places.Given.{Over}
use Rattle.nd_loops.proofs.writing.copy_places.Goals as goal
use Rattle.nd_loops.proofs.writing.copy_places.Goals.{In-loop-coordinate}

pub loop-coordinate-init : goal.loop-coordinate-init
loop-coordinate-init g c = record { copied = none_set; long = refl; keeps_access = refl }

-- the place of the next coordinate
here : (g : Over) (c : In-loop-coordinate g) → IsPlaceOfRow c.args.cells.now.marks c.args.row c.loop-coordinate.coordinate
here g c = place_of_row c.args.cells.now.marks c.args.row c.loop-coordinate.coordinate c.requires.row c.loop-coordinate-test.true

pub place_in_row-requires-clause-first : goal.place_in_row-requires-clause-first
place_in_row-requires-clause-first g c = (here g (goal.at.place_in_row-requires-clause-first g c).In-loop-coordinate).first

pub place_in_row-requires-clause-small : goal.place_in_row-requires-clause-small
place_in_row-requires-clause-small g c = (here g (goal.at.place_in_row-requires-clause-small g c).In-loop-coordinate).small

pub place_in_row-requires-clause-in_bounds : goal.place_in_row-requires-clause-in_bounds
place_in_row-requires-clause-in_bounds g c = (here g (goal.at.place_in_row-requires-clause-in_bounds g c).In-loop-coordinate).fits

pub item_mut-stored-requires : goal.item_mut-stored-requires
item_mut-stored-requires g c =
    ap (λ right. get_or right.marks c.place_in_row.result false) c.loop-coordinate.invariant.keeps_access
    ∙ ap (has_mark c.args.cells.now.marks) c.place_in_row.ensures
    ∙ (here g (goal.at.item_mut-stored-requires g c).In-loop-coordinate).marked

pub loop-coordinate-preserved : goal.loop-coordinate-preserved
loop-coordinate-preserved g c =
    let row = c.args.row in
    let source = c.args.source.now in
    let place = c.place_in_row.result in
    let found = got c.loop-coordinate.cells.items place c.item_mut-stored.result.now c.item_mut-stored.ensures.value.0 in
    let many = length-row_places row.start row.stride row.len in
    let given = length-map (places_of source.row) (item_at_place source.items)
    ∙ length-row_places source.row.start source.row.stride source.row.len in
    record {
      copied = one_more_set (places_of row) (row_items source) c.loop-coordinate.coordinate c.loop-coordinate.invariant.copied place
          c.item-item.result.now c.requires.row.own.apart (omega (arith, c.loop-coordinate-test.true, many))
          (get_or-row_places row.start row.stride row.len c.loop-coordinate.coordinate (pos place) c.loop-coordinate-test.true
          ∙ sym c.place_in_row.ensures)
          (omega (arith, c.loop-coordinate-test.true, given, c.requires.count)) c.item-item.ensures found.0;
      long = length-set c.loop-coordinate.cells.items place c.item-item.result.now ∙ c.loop-coordinate.invariant.long;
      keeps_access = c.loop-coordinate.invariant.keeps_access;
    }

pub returns-clause-copied : goal.returns-clause-copied
returns-clause-copied g c =
    let row = c.args.row in
    let source = c.args.source.now in
    all_set (places_of row) (row_items source) c.loop-coordinate.coordinate c.loop-coordinate.invariant.copied
    (omega (arith, c.loop-coordinate-test.false, length-row_places row.start row.stride row.len))
    (omega (
      arith,
      c.loop-coordinate-test.false,
      c.requires.count,
      length-map (places_of source.row) (item_at_place source.items),
      length-row_places source.row.start source.row.stride source.row.len,
    ))

pub returns-clause-keeps_access : goal.returns-clause-keeps_access
returns-clause-keeps_access g c = c.loop-coordinate.invariant.keeps_access
