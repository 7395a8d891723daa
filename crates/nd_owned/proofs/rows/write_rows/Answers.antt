-- The items of one more row are at their places, and those of the others are left.
use Rattle.std.proofs.Common.{◌≡◌, ◌≢◌, ◌++◌, List, [], length, drop, sym, ap, subst, ◌∙◌, arith}
use Rattle.std.specs.List.{All, AllPairs}
use Rattle.std.proofs.lemmas.List.{length-drop, nil_from_length, take-append-drop}
use Rattle.std.proofs.lemmas.List.Elements.{All-head, All-tail}
use Rattle.ndarray_layout.specs.Rows.{row_places, rows_places}
use Rattle.ndarray_layout.specs.Signed.{signed}
use Rattle.nd_lent.specs.LentRow.{places_of}
use Rattle.nd_owned.specs.private.Written.{AreInBounds, HasWritten}
use Rattle.nd_owned.proofs.EvenRows.{none_left, room_for_row, row_of_number}
use Rattle.nd_owned.proofs.Placed.{first_distinct, none_written, parts_written, second_distinct}
use Rattle.nd_owned.proofs.ViewRows.{first_and_others, length_left}
use Rattle.nd_owned.proofs.rows.write_rows.Goals as goal

pub loop-number-init : goal.loop-number-init
loop-number-init g c = record {
  in_bounds = c.requires.in_bounds;
  count = c.requires.count;
  distinct = λ distinct. distinct;
  written = λ distinct new left. left;
}

pub split_at-requires : goal.split_at-requires
split_at-requires g c =
    let rows = c.args.rows in
    omega (
      arith,
      room_for_row rows.start rows.step rows.len rows.count (signed rows.stride) c.loop-number.number rows.starts c.loop-number-test.true,
      c.loop-number.invariant.count,
    )

pub write_row-requires : goal.write_row-requires
write_row-requires g c =
    let rows = c.args.rows in
    let row = c.row.result in
    let count = length c.args.stored.now in
    let first = row_of_number rows.start rows.step rows.len rows.count (signed rows.stride) c.loop-number.number c.loop-number-test.true
    c.row.ensures.start c.row.ensures.stride c.row.ensures.len in
    let here = All-head (λ row. AreInBounds count (places_of row)) _ _
    (subst (All (λ row. AreInBounds count (places_of row))) first c.loop-number.invariant.in_bounds) in
    subst (λ n. AreInBounds n (row_places row.start row.stride (length c.split_at.result.0.now))) (sym c.loop-number.auto.stored)
    (subst (λ n. AreInBounds count (row_places row.start row.stride n)) (sym (c.split_at.ensures.front_len ∙ sym c.row.ensures.len)) here)

pub loop-number-preserved : goal.loop-number-preserved
loop-number-preserved g c =
    let rows = c.args.rows in
    let row = c.row.result in
    let count = length c.args.stored.now in
    let first = row_of_number rows.start rows.step rows.len rows.count (signed rows.stride) c.loop-number.number c.loop-number-test.true
    c.row.ensures.start c.row.ensures.stride c.row.ensures.len in
    let left : List g.row.T.Denot = c.loop-number.left.now in
    let these : List g.row.T.Denot = c.split_at.result.0.now in
    let those : List g.row.T.Denot = c.split_at.result.1.now in
    let back : those ≡ drop rows.len left = c.split_at.ensures.back in
    let cut = first_and_others first in
    let in_bounds = subst (All (λ row. AreInBounds count (places_of row))) first c.loop-number.invariant.in_bounds in
    let here = subst (λ n. AllPairs (λ one other. one ≢ other) (row_places row.start row.stride n)
    → HasWritten (row_places row.start row.stride n) these c.loop-number.stored c.write_row.new.stored)
    (c.split_at.ensures.front_len ∙ sym c.row.ensures.len)
    c.write_row.ensures in
    record {
      in_bounds = All-tail (λ row. AreInBounds count (places_of row)) _ _ in_bounds;
      count = omega (
        arith,
        length_left first,
        c.row.ensures.len,
        c.loop-number.invariant.count,
        ap length back,
        length-drop rows.len left,
      );
      distinct = λ distinct. second_distinct cut (c.loop-number.invariant.distinct distinct);
      written = λ distinct new others.
          let apart = c.loop-number.invariant.distinct distinct in
          c.loop-number.invariant.written distinct new
          (parts_written cut count (All-head (λ row. AreInBounds count (places_of row)) _ _ in_bounds).within apart (record {
            are = sym (take-append-drop rows.len left) ∙ ap (λ items. items ++ drop rows.len left) (sym c.split_at.ensures.front)
                ∙ ap (λ items. these ++ items) (sym back);
          }) (here (first_distinct cut apart)) others);
    }

pub returns : goal.returns
returns g c =
    let rows = c.args.rows in
    let none = none_left rows.start rows.step rows.len rows.count (signed rows.stride) c.loop-number.number
    (omega (arith, c.loop-number-test.false)) in
    let left : List g.row.T.Denot = c.loop-number.left.now in
    let no_items : left ≡ [] = nil_from_length left (sym c.loop-number.invariant.count ∙ ap (λ rows. length (rows_places rows)) none) in
    λ distinct. c.loop-number.invariant.written distinct c.loop-number.stored
    (subst (λ rows. HasWritten (rows_places rows) left c.loop-number.stored c.loop-number.stored) (sym none)
    (subst (λ items. HasWritten [] items c.loop-number.stored c.loop-number.stored) (sym no_items) none_written))
