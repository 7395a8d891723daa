-- The items of one more row are at their places, and those of the others are left.
use Rattle.std.proofs.Common.{rules, FitsSigned, of_z, to_z, ◌≡◌, ◌≢◌, ◌++◌, List, [], length, drop, sym, ap, subst, ◌∙◌, arith}
use Rattle.std.specs.Int.{w64}
use Rattle.std.specs.List.{All, AllPairs}
use Rattle.std.proofs.lemmas.Int.{to_z-of_z}
use Rattle.std.proofs.lemmas.List.{drop_all, length-drop, length-map, nil_from_length, take-append-drop}
use Rattle.std.proofs.lemmas.List.Elements.{All-head, All-tail}
use Rattle.ndarray_layout.specs.Rows.{row_places, rows_places}
use Rattle.nd_lent.specs.LentRow.{places_of}
use Rattle.nd_owned.specs.private.MovedRows.{moved_row, moved_rows}
use Rattle.nd_owned.specs.private.Written.{AreInBounds, HasWritten}
use Rattle.nd_owned.proofs.MovedRows.{row_of_index}
use Rattle.nd_owned.proofs.Placed.{first_distinct, none_written, parts_written, second_distinct}
use Rattle.nd_owned.proofs.ViewRows.{first_and_others, length_left}
use Rattle.nd_owned.proofs.rows.write_moved_rows.Goals as goal

pub loop-row-init : goal.loop-row-init
loop-row-init g c =
    let f : FitsSigned w64 c.args.offset = search rules in
    let same = to_z-of_z w64 c.args.offset f in
    rw same (record {
      in_bounds = c.requires.in_bounds;
      count = c.requires.count;
      distinct = λ distinct. distinct;
      written = λ distinct new left. left;
    })

pub split_at-requires : goal.split_at-requires
split_at-requires g c =
    let first = row_of_index (to_z w64 (of_z w64 c.args.offset)) c.args.rows.now c.loop-row.row-index _ c.loop-row-test.true
    c.row_at_offset-moved.ensures in
    omega (arith, length_left first, c.loop-row.invariant.count)

pub write_row-requires : goal.write_row-requires
write_row-requires g c =
    let first = row_of_index (to_z w64 (of_z w64 c.args.offset)) c.args.rows.now c.loop-row.row-index _ c.loop-row-test.true
    c.row_at_offset-moved.ensures in
    let row = c.row_at_offset-moved.result in
    let count = length c.args.stored.now in
    let here = All-head (λ row. AreInBounds count (places_of row)) _ _
    (subst (All (λ row. AreInBounds count (places_of row))) first c.loop-row.invariant.in_bounds) in
    subst (λ n. AreInBounds n (row_places row.start row.stride (length c.split_at.result.0.now))) (sym c.loop-row.auto.stored)
    (subst (λ n. AreInBounds count (row_places row.start row.stride n)) (sym c.split_at.ensures.front_len) here)

pub loop-row-preserved : goal.loop-row-preserved
loop-row-preserved g c =
    let first = row_of_index (to_z w64 (of_z w64 c.args.offset)) c.args.rows.now c.loop-row.row-index _ c.loop-row-test.true
    c.row_at_offset-moved.ensures in
    let row = c.row_at_offset-moved.result in
    let count = length c.args.stored.now in
    let left : List g.row.T.Denot = c.loop-row.left.now in
    let these : List g.row.T.Denot = c.split_at.result.0.now in
    let those : List g.row.T.Denot = c.split_at.result.1.now in
    let back : those ≡ drop row.len left = c.split_at.ensures.back in
    let cut = first_and_others first in
    let in_bounds = subst (All (λ row. AreInBounds count (places_of row))) first c.loop-row.invariant.in_bounds in
    let here = subst (λ n. AllPairs (λ one other. one ≢ other) (row_places row.start row.stride n)
    → HasWritten (row_places row.start row.stride n) these c.loop-row.stored c.write_row.new.stored)
    c.split_at.ensures.front_len
    c.write_row.ensures in
    record {
      in_bounds = All-tail (λ row. AreInBounds count (places_of row)) _ _ in_bounds;
      count = omega (arith, length_left first, c.loop-row.invariant.count, ap length back, length-drop row.len left);
      distinct = λ distinct. second_distinct cut (c.loop-row.invariant.distinct distinct);
      written = λ distinct new others.
          let apart = c.loop-row.invariant.distinct distinct in
          c.loop-row.invariant.written distinct new
          (parts_written cut count (All-head (λ row. AreInBounds count (places_of row)) _ _ in_bounds).within apart (record {
            are = sym (take-append-drop row.len left) ∙ ap (λ items. items ++ drop row.len left) (sym c.split_at.ensures.front)
                ∙ ap (λ items. these ++ items) (sym back);
          }) (here (first_distinct cut apart)) others);
    }

pub returns : goal.returns
returns g c =
    let f : FitsSigned w64 c.args.offset = search rules in
    let same = to_z-of_z w64 c.args.offset f in
    let offset = to_z w64 (of_z w64 c.args.offset) in
    let all = moved_rows offset c.args.rows.now in
    let none : drop c.loop-row.row-index all ≡ [] =
    drop_all c.loop-row.row-index all (omega (arith, c.loop-row-test.false, length-map c.args.rows.now (moved_row offset))) in
    let left : List g.row.T.Denot = c.loop-row.left.now in
    let no_items : left ≡ [] = nil_from_length left (sym c.loop-row.invariant.count ∙ ap (λ rows. length (rows_places rows)) none) in
    let made : AllPairs (λ one other. one ≢ other) (rows_places all)
    → HasWritten (rows_places all) c.args.items.now c.args.stored.now c.loop-row.stored = λ distinct.
    c.loop-row.invariant.written distinct c.loop-row.stored
    (subst (λ rows. HasWritten (rows_places rows) left c.loop-row.stored c.loop-row.stored) (sym none)
    (subst (λ items. HasWritten [] items c.loop-row.stored c.loop-row.stored) (sym no_items) none_written)) in
    subst (λ n. AllPairs (λ one other. one ≢ other) (rows_places (moved_rows n c.args.rows.now))
    → HasWritten (rows_places (moved_rows n c.args.rows.now)) c.args.items.now c.args.stored.now c.loop-row.stored) same made
