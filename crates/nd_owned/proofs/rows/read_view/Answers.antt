-- The items of one more row are read, for which there is room.
use Rattle.std.proofs.Common.{◌++◌, Some, length, map, sym, ap, subst, ◌∙◌, arith}
use Rattle.std.specs.List.{All}
use Rattle.std.proofs.lemmas.Bool.{false≢true}
use Rattle.std.proofs.lemmas.List.{append-nil}
use Rattle.std.proofs.lemmas.List.Elements.{All-head, All-tail}
use Rattle.ndarray_layout.specs.declared.Order.TheVariants.{RowMajor}
use Rattle.ndarray_layout.specs.Bounds.{IsInBounds}
use Rattle.ndarray_layout.specs.Rows.{rows_places}
use Rattle.ndarray_layout.proofs.Laws.View.{length-view_places}
use Rattle.nd_lent.specs.Items.{item_at_place}
use Rattle.nd_owned.specs.private.Written.{AreInBounds}
use Rattle.nd_owned.proofs.ViewRows.{length_left, places_in_bounds, read_first, rows_in_bounds}
use Rattle.nd_lent.specs.LentRow.{places_of}
use Rattle.nd_owned.proofs.rows.read_view.Goals as goal

pub returns-in_err-items-clause-memory : goal.returns-in_err-items-clause-memory
returns-in_err-items-clause-memory g c = λ none. absurd (false≢true (c.in_err-items.ensures.succeeds (c.len.ensures.size ∙ none)))

pub read_places-requires-clause-in_bounds : goal.read_places-requires-clause-in_bounds
read_places-requires-clause-in_bounds g c =
    subst (All (IsInBounds (length c.args.stored.now))) (sym c.iter_places.ensures.items)
    (places_in_bounds c.iter_places.ensures.is_view c.requires).within

pub read_places-requires-clause-room : goal.read_places-requires-clause-room
read_places-requires-clause-room g c = omega (
  arith,
  ap length c.iter_places.ensures.items,
  length-view_places RowMajor c.args.view.now,
  c.len.ensures.size,
  c.in_ok-items.ensures.len,
  c.in_ok-items.ensures.exact,
)

pub loop-row-init : goal.loop-row-init
loop-row-init g c =
    let view = c.args.view.now in
    let rows = c.joined_rows-rows in
    let places = ap rows_places c.into_iter-row-iterator.ensures.into_iter_gives ∙ rows.ensures.places in
    record {
      items = ap (λ items. map Some items ++ map (item_at_place c.args.stored.now) (rows_places c.into_iter-row-iterator.result))
          c.in_ok-items.ensures.items
          ∙ ap (map (item_at_place c.args.stored.now)) places;
      in_bounds = rows_in_bounds view c.into_iter-row-iterator.result places rows.ensures.is_view c.requires;
      room = omega (
        arith,
        ap length places,
        length-view_places RowMajor view,
        c.len.ensures.size,
        c.in_ok-items.ensures.len,
        c.in_ok-items.ensures.exact,
      );
    }

pub read_row-items-requires-clause-in_bounds : goal.read_row-items-requires-clause-in_bounds
read_row-items-requires-clause-in_bounds g c =
    All-head (λ row. AreInBounds (length c.args.stored.now) (places_of row)) _ _
    (subst (All (λ row. AreInBounds (length c.args.stored.now) (places_of row))) c.in-Some.ensures.steps c.loop-row.invariant.in_bounds)

pub read_row-items-requires-clause-room : goal.read_row-items-requires-clause-room
read_row-items-requires-clause-room g c = omega (arith, length_left c.in-Some.ensures.steps, c.loop-row.invariant.room)

pub loop-row-preserved : goal.loop-row-preserved
loop-row-preserved g c =
    let first = c.in-Some.ensures.steps in
    let row = c.in-Some.row in
    record {
      items = read_first first c.args.stored.now c.loop-row.items.items c.read_row-items.result.items c.read_row-items.ensures.items
          c.loop-row.invariant.items;
      in_bounds = All-tail (λ row. AreInBounds (length c.args.stored.now) (places_of row)) _ _
          (subst (All (λ row. AreInBounds (length c.args.stored.now) (places_of row))) first c.loop-row.invariant.in_bounds);
      room = omega (arith, length_left first, c.loop-row.invariant.room, c.read_row-items.ensures.len, c.read_row-items.ensures.capacity);
    }

pub returns-clause-items : goal.returns-clause-items
returns-clause-items g c =
    let got = item_at_place c.args.stored.now in
    sym (append-nil (map Some c.loop-row.items.items))
    ∙ ap (λ rows. map Some c.loop-row.items.items ++ map got (rows_places rows)) (sym c.in-None.ensures.steps.0)
    ∙ c.loop-row.invariant.items
