-- The items of one more row are read, for which there is room.
use Rattle.std.proofs.Common.{rules, FitsSigned, of_z, to_z, ◌≡◌, ◌++◌, Some, [], length, map, drop, sym, ap, subst, ◌∙◌, arith}
use Rattle.std.specs.Int.{w64}
use Rattle.std.specs.List.{All}
use Rattle.std.proofs.lemmas.Int.{to_z-of_z}
use Rattle.std.proofs.lemmas.List.{append-nil, drop_all, length-map}
use Rattle.std.proofs.lemmas.List.Elements.{All-head, All-tail}
use Rattle.ndarray_layout.specs.Rows.{rows_places}
use Rattle.nd_lent.specs.Items.{item_at_place}
use Rattle.nd_lent.specs.LentRow.{places_of}
use Rattle.nd_owned.specs.private.MovedRows.{moved_row, moved_rows}
use Rattle.nd_owned.specs.private.Written.{AreInBounds}
use Rattle.nd_owned.proofs.MovedRows.{row_of_index}
use Rattle.nd_owned.proofs.ViewRows.{length_left, read_first}
use Rattle.nd_owned.proofs.rows.read_moved_rows.Goals as goal

pub loop-row-init : goal.loop-row-init
loop-row-init g c =
    let f : FitsSigned w64 c.args.offset = search rules in
    let same = to_z-of_z w64 c.args.offset f in
    let all = moved_rows c.args.offset c.args.rows.now in
    rw same (record {
      items = ap (λ items. map Some items ++ map (item_at_place c.args.stored.now) (rows_places all)) c.in_ok-items.ensures.items;
      in_bounds = c.requires.in_bounds;
      room = omega (arith, c.requires.count, c.in_ok-items.ensures.len, c.in_ok-items.ensures.capacity);
    })

pub push_row-items-requires-clause-in_bounds : goal.push_row-items-requires-clause-in_bounds
push_row-items-requires-clause-in_bounds g c =
    let first = row_of_index (to_z w64 (of_z w64 c.args.offset)) c.args.rows.now c.loop-row.row-index _ c.loop-row-test.true
    c.row_at_offset.ensures in
    All-head (λ row. AreInBounds (length c.args.stored.now) (places_of row)) _ _
    (subst (All (λ row. AreInBounds (length c.args.stored.now) (places_of row))) first c.loop-row.invariant.in_bounds)

pub push_row-items-requires-clause-room : goal.push_row-items-requires-clause-room
push_row-items-requires-clause-room g c =
    let first = row_of_index (to_z w64 (of_z w64 c.args.offset)) c.args.rows.now c.loop-row.row-index _ c.loop-row-test.true
    c.row_at_offset.ensures in
    omega (arith, length_left first, c.loop-row.invariant.room)

pub loop-row-preserved : goal.loop-row-preserved
loop-row-preserved g c =
    let first = row_of_index (to_z w64 (of_z w64 c.args.offset)) c.args.rows.now c.loop-row.row-index _ c.loop-row-test.true
    c.row_at_offset.ensures in
    record {
      items = read_first first c.args.stored.now c.loop-row.items.items c.push_row-items.result.items c.push_row-items.ensures.items
          c.loop-row.invariant.items;
      in_bounds = All-tail (λ row. AreInBounds (length c.args.stored.now) (places_of row)) _ _
          (subst (All (λ row. AreInBounds (length c.args.stored.now) (places_of row))) first c.loop-row.invariant.in_bounds);
      room = omega (arith, length_left first, c.loop-row.invariant.room, c.push_row-items.ensures.len, c.push_row-items.ensures.capacity);
    }

pub returns-clause-items : goal.returns-clause-items
returns-clause-items g c =
    let f : FitsSigned w64 c.args.offset = search rules in
    let same = to_z-of_z w64 c.args.offset f in
    let offset = to_z w64 (of_z w64 c.args.offset) in
    let all = moved_rows offset c.args.rows.now in
    let got = item_at_place c.args.stored.now in
    let none : drop c.loop-row.row-index all ≡ [] =
    drop_all c.loop-row.row-index all (omega (arith, c.loop-row-test.false, length-map c.args.rows.now (moved_row offset))) in
    sym (append-nil (map Some c.loop-row.items.items))
    ∙ ap (λ left. map Some c.loop-row.items.items ++ map got (rows_places left)) (sym none)
    ∙ c.loop-row.invariant.items
    ∙ ap (λ n. map got (rows_places (moved_rows n c.args.rows.now))) same
