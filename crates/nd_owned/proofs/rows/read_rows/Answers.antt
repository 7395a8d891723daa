-- The items of one more row are read, for which there is room.
use Rattle.std.proofs.Common.{◌++◌, Some, length, map, sym, ap, subst, ◌∙◌, arith}
use Rattle.std.specs.List.{All}
use Rattle.std.proofs.lemmas.List.{append-nil}
use Rattle.std.proofs.lemmas.List.Elements.{All-head, All-tail}
use Rattle.ndarray_layout.specs.Rows.{rows_places}
use Rattle.ndarray_layout.specs.Signed.{signed}
use Rattle.nd_lent.specs.Items.{item_at_place}
use Rattle.nd_lent.specs.LentRow.{places_of}
use Rattle.nd_owned.specs.private.EvenRows.{even_rows}
use Rattle.nd_owned.specs.private.Written.{AreInBounds}
use Rattle.nd_owned.proofs.EvenRows.{none_left, row_of_number}
use Rattle.nd_owned.proofs.ViewRows.{length_left, read_first}
use Rattle.nd_owned.proofs.rows.read_rows.Goals as goal

pub loop-number-init : goal.loop-number-init
loop-number-init g c =
    let rows = c.args.rows in
    let all = even_rows rows.start rows.step rows.len rows.count (signed rows.stride) in
    record {
      items = ap (λ items. map Some items ++ map (item_at_place c.args.stored.now) (rows_places all)) c.in_ok-items.ensures.items;
      in_bounds = c.requires;
      room = omega (arith, c.size.ensures, c.in_ok-items.ensures.len, c.in_ok-items.ensures.capacity);
    }

pub push_row-items-requires-clause-in_bounds : goal.push_row-items-requires-clause-in_bounds
push_row-items-requires-clause-in_bounds g c =
    let rows = c.args.rows in
    let first = row_of_number rows.start rows.step rows.len rows.count (signed rows.stride) c.loop-number.number c.loop-number-test.true
    c.row.ensures.start c.row.ensures.stride c.row.ensures.len in
    All-head (λ row. AreInBounds (length c.args.stored.now) (places_of row)) _ _
    (subst (All (λ row. AreInBounds (length c.args.stored.now) (places_of row))) first c.loop-number.invariant.in_bounds)

pub push_row-items-requires-clause-room : goal.push_row-items-requires-clause-room
push_row-items-requires-clause-room g c =
    let rows = c.args.rows in
    let first = row_of_number rows.start rows.step rows.len rows.count (signed rows.stride) c.loop-number.number c.loop-number-test.true
    c.row.ensures.start c.row.ensures.stride c.row.ensures.len in
    omega (arith, length_left first, c.loop-number.invariant.room)

pub loop-number-preserved : goal.loop-number-preserved
loop-number-preserved g c =
    let rows = c.args.rows in
    let first = row_of_number rows.start rows.step rows.len rows.count (signed rows.stride) c.loop-number.number c.loop-number-test.true
    c.row.ensures.start c.row.ensures.stride c.row.ensures.len in
    record {
      items = read_first first c.args.stored.now c.loop-number.items.items c.push_row-items.result.items c.push_row-items.ensures.items
          c.loop-number.invariant.items;
      in_bounds = All-tail (λ row. AreInBounds (length c.args.stored.now) (places_of row)) _ _
          (subst (All (λ row. AreInBounds (length c.args.stored.now) (places_of row))) first c.loop-number.invariant.in_bounds);
      room = omega (
        arith,
        length_left first,
        c.loop-number.invariant.room,
        c.push_row-items.ensures.len,
        c.push_row-items.ensures.capacity,
      );
    }

pub returns-clause-items : goal.returns-clause-items
returns-clause-items g c =
    let rows = c.args.rows in
    let got = item_at_place c.args.stored.now in
    let none = none_left rows.start rows.step rows.len rows.count (signed rows.stride) c.loop-number.number
    (omega (arith, c.loop-number-test.false)) in
    sym (append-nil (map Some c.loop-number.items.items))
    ∙ ap (λ left. map Some c.loop-number.items.items ++ map got (rows_places left)) (sym none)
    ∙ c.loop-number.invariant.items
