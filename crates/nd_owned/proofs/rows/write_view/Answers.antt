-- The items of one more row are at their places, and those of the others are left.
use Rattle.std.proofs.Common.{◌≡◌, ◌≢◌, ◌++◌, List, [], length, drop, sym, ap, subst, ◌∙◌, arith}
use Rattle.std.specs.List.{All, AllPairs}
use Rattle.std.proofs.lemmas.List.{length-drop, nil_from_length, take-append-drop}
use Rattle.std.proofs.lemmas.List.Elements.{All-head, All-tail}
use Rattle.ndarray_layout.specs.declared.Order.TheVariants.{RowMajor}
use Rattle.ndarray_layout.specs.Rows.{row_places, rows_places}
use Rattle.ndarray_layout.proofs.Laws.View.{length-view_places}
use Rattle.nd_owned.specs.private.Written.{AreInBounds, HasWritten}
use Rattle.nd_owned.proofs.Placed.{first_distinct, none_written, parts_written, second_distinct}
use Rattle.nd_owned.proofs.ViewRows.{first_and_others, length_left, rows_in_bounds}
use Rattle.nd_lent.specs.LentRow.{places_of}
use Rattle.nd_owned.proofs.rows.write_view.Goals as goal

pub loop-row-init : goal.loop-row-init
loop-row-init g c =
    let view = c.args.view.now in
    let rows = c.joined_rows-row-items in
    let places = ap rows_places c.into_iter-row-iterator.ensures.into_iter_gives ∙ rows.ensures.places in
    record {
      in_bounds = rows_in_bounds view c.into_iter-row-iterator.result places rows.ensures.is_view c.requires.within;
      count = ap length places ∙ length-view_places RowMajor view ∙ c.requires.count;
      distinct = subst (AllPairs (λ one other. one ≢ other)) (sym places);
      written = λ distinct new. subst (λ zs. HasWritten zs c.args.items.now c.args.stored.now new) places;
    }

pub split_at-requires : goal.split_at-requires
split_at-requires g c = omega (arith, length_left c.in-Some.ensures.steps, c.loop-row.invariant.count)

pub write_row-requires : goal.write_row-requires
write_row-requires g c =
    let row = c.in-Some.row in
    let count = length c.args.stored.now in
    let here = All-head (λ row. AreInBounds count (places_of row)) _ _
    (subst (All (λ row. AreInBounds count (places_of row))) c.in-Some.ensures.steps c.loop-row.invariant.in_bounds) in
    subst (λ n. AreInBounds n (row_places row.start row.stride (length c.split_at.result.0.now))) (sym c.loop-row.auto.stored)
    (subst (λ n. AreInBounds count (row_places row.start row.stride n)) (sym c.split_at.ensures.front_len) here)

pub loop-row-preserved : goal.loop-row-preserved
loop-row-preserved g c =
    let row = c.in-Some.row in
    let first = c.in-Some.ensures.steps in
    let count = length c.args.stored.now in
    let left : List g.row.T.Denot = c.loop-row.left.now in
    let these : List g.row.T.Denot = c.split_at.result.0.now in
    let those : List g.row.T.Denot = c.split_at.result.1.now in
    let back : those ≡ drop row.len left = c.split_at.ensures.back in
    let cut = first_and_others first in
    let in_bounds = subst (All (λ row. AreInBounds count (places_of row))) first c.loop-row.invariant.in_bounds in
    let here = subst (λ n. AllPairs (λ one other. one ≢ other) (row_places row.start row.stride n)
    → HasWritten (row_places row.start row.stride n) these c.loop-row.stored c.write_row.new.stored)
    c.split_at.ensures.front_len
    c.write_row.ensures in
    record {
      in_bounds = All-tail (λ row. AreInBounds count (places_of row)) _ _ in_bounds;
      count = omega (arith, length_left first, c.loop-row.invariant.count, ap length back, length-drop row.len left);
      distinct = λ distinct. second_distinct cut (c.loop-row.invariant.distinct distinct);
      written = λ distinct new others.
          let apart = c.loop-row.invariant.distinct distinct in
          c.loop-row.invariant.written distinct new
          (parts_written cut count (All-head (λ row. AreInBounds count (places_of row)) _ _ in_bounds).within apart (record {
            are = sym (take-append-drop row.len left) ∙ ap (λ items. items ++ drop row.len left) (sym c.split_at.ensures.front)
                ∙ ap (λ items. these ++ items) (sym back);
          }) (here (first_distinct cut apart)) others);
    }

pub returns : goal.returns
returns g c =
    let none = c.in-None.ensures.steps.0 in
    let left : List g.row.T.Denot = c.loop-row.left.now in
    let no_items : left ≡ [] = nil_from_length left (sym c.loop-row.invariant.count ∙ ap (λ rows. length (rows_places rows)) none) in
    λ distinct. c.loop-row.invariant.written distinct c.loop-row.stored
    (subst (λ rows. HasWritten (rows_places rows) left c.loop-row.stored c.loop-row.stored) (sym none)
    (subst (λ items. HasWritten [] items c.loop-row.stored c.loop-row.stored) (sym no_items) none_written))
