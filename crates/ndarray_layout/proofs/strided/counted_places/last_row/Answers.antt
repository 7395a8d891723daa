-- The row at the back, or else the last one of the rows, or else what is left of the row that has begun.
use Rattle.std.proofs.Common.{◌-◌, ◌≡◌, ◌++◌, append-nil, pos, ◌+ℤ◌, of_z, to_z, w64, sym, ap, ◌∙◌, arith}
use Rattle.std.proofs.lemmas.Int.{ints}
use Rattle.ndarray_layout.specs.PlacesLeft.{rows_and}
use Rattle.ndarray_layout.specs.Rows.{row_places, rows_places}
use Rattle.ndarray_layout.proofs.BothEnds.{and_none}
use Rattle.ndarray_layout.proofs.ByRows.{row_from}
use Rattle.ndarray_layout.proofs.RowSteps.{after, bounds_of_place, next_in_bounds}
use Rattle.ndarray_layout.proofs.strided.counted_places.last_row.Goals as goal

pub offset_place-requires-clause-there : goal.offset_place-requires-clause-there
offset_place-requires-clause-there g c =
    let bounds = bounds_of_place _ (next_in_bounds c.requires.left (omega (arith, c.if-left-eq1.false, c.requires.begun))) in
    (omega (arith, ints, bounds.0), omega (arith, ints, bounds.1))

pub returns-clause-row : goal.returns-clause-row
returns-clause-row g c =
    let place = c.args.place in
    let stride = c.args.stride in
    let left = (c.args.left.now - 1) in
    let rows = c.args.rows.now in
    let last = c.args.back.now in
    let gone = and_none rows last (c.in_default.ensures.row) ∙ c.in_default-next_back.ensures.steps.0 in
    let at : pos c.offset_place.result ≡ pos place +ℤ stride = omega (arith, ints, c.offset_place.ensures) in
    let steps : stride ≡ to_z w64 (of_z w64 stride) = omega (arith, ints) in (
      omega (arith, c.if-left-eq1.false, c.requires.begun),
      after place stride left (rows_and rows last)
          ∙ ap (λ xs. row_from (pos place +ℤ stride) stride left ++ rows_places xs) gone
          ∙ append-nil (row_from (pos place +ℤ stride) stride left)
          ∙ ap (λ z. row_from z stride left) (sym at)
          ∙ ap (λ s. row_places c.offset_place.result s left) steps
          ∙ ap (λ xs. rows_places xs ++ row_places c.offset_place.result (to_z w64 (of_z w64 stride)) left)
          (sym c.in_default-next_back.ensures.steps.1),
    )
