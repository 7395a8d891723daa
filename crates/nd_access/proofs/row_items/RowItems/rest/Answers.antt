-- What is left is a row, and nothing is left after it.
use Rattle.std.proofs.Common.{◌≡◌, ◌<◌, ◌-◌, drop, length, of_z, subst, sym, take, to_z, true, w64, ap, ◌∙◌, arith}
use Rattle.std.proofs.lemmas.Int.{ints}
use Rattle.nd_access.specs.LentRow.{row_items, row_of}
use Rattle.nd_access.specs.Part.{has_mark}
use Rattle.nd_access.specs.Read.{IsRowRead}
use Rattle.nd_access.proofs.Laws.RestOfRow.{items_left, left_has_row, of_left}
use Rattle.nd_access.proofs.Laws.RowsLent.{place_of_coordinate}
use Rattle.nd_access.proofs.row_items.RowItems.rest.Goals as goal

pub place_in_row-requires-clause-in_bounds : goal.place_in_row-requires-clause-in_bounds
place_in_row-requires-clause-in_bounds g c =
    let left = c.self.inside in
    let has = c.self.invariant.left in
    let some : left.begun < left.end = omega (arith, has.begun_first) in
    (place_of_coordinate left.row left.begun (has.has some) (omega (arith, some, has.within))).fits

pub invariant_of-result : goal.invariant_of-result
invariant_of-result g c =
    let left = c.self.inside in
    let has = c.self.invariant.left in
    let some : left.begun < left.end = omega (arith, has.begun_first) in
    let step : left.row.stride ≡ to_z w64 (of_z w64 left.row.stride) = omega (arith, ints) in
    let marks = left.reader.marks in
    rw c.copied.ensures.same
    (subst (λ s. IsRowRead marks (length left.reader.items) (record {
      start = c.place_in_row.result;
      stride = s;
      len = left.end - left.begun;
    })) step (record {
      has = left_has_row left.reader.items left.row left.begun left.end c.place_in_row.result has.begun_first has.within
          c.place_in_row.ensures some (has.has some);
      marked = of_left left.reader.items left.row left.begun left.end c.place_in_row.result has.begun_first has.within
          c.place_in_row.ensures (λ place. has_mark marks place ≡ true) c.self.invariant.marked;
    }))

pub returns : goal.returns
returns g c =
    let left = c.self.inside in
    let has = c.self.invariant.left in
    let none : left.end - left.end ≡ 0 = omega arith in
    let step : left.row.stride ≡ to_z w64 (of_z w64 left.row.stride) = omega (arith, ints) in
    rw c.copied.ensures.same (
      omega (arith, has.begun_first),
      sym c.self.view_is
          ∙ items_left left.reader.items left.row left.begun left.end c.place_in_row.result has.begun_first has.within
          c.place_in_row.ensures
          ∙ ap (λ s. row_items (row_of left.reader.items (record {
            start = c.place_in_row.result;
            stride = s;
            len = left.end - left.begun;
          }))) step,
      ap (λ n. take n (drop left.end (row_items (row_of left.reader.items left.row)))) none,
    )
