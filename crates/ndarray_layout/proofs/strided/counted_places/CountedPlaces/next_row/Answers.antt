-- What is left of the row that has begun is a row, and without one the next row is.
use Rattle.std.proofs.Common.{◌-◌, ◌≡◌, ◌++◌, pos, ◌+ℤ◌, of_z, to_z, w64, sym, ap, ◌∙◌, arith}
use Rattle.std.proofs.lemmas.Int.{ints}
use Rattle.ndarray_layout.specs.PlacesLeft.{rows_and}
use Rattle.ndarray_layout.specs.Rows.{row_places, rows_places}
use Rattle.ndarray_layout.proofs.ByRows.{row_from}
use Rattle.ndarray_layout.proofs.LaterPlaces.{left_after_row, left_ended, row_first_of}
use Rattle.ndarray_layout.proofs.RowViews.{first_is_view}
use Rattle.ndarray_layout.proofs.RowSteps.{after, bounds_of_place, left_after_end, next_in_bounds, some_in_row}
use Rattle.ndarray_layout.proofs.strided.counted_places.CountedPlaces.next_row.Goals as goal

pub offset_place-requires-clause-there : goal.offset_place-requires-clause-there
offset_place-requires-clause-there g c =
    let bounds = bounds_of_place _ (next_in_bounds c.self.invariant.1 (omega (arith, c.if-self-eq1.false, c.self.invariant.0))) in
    (omega (arith, ints, bounds.0), omega (arith, ints, bounds.1))

pub invariant_of-self-2 : goal.invariant_of-self-2
invariant_of-self-2 g c = (omega arith, left_ended c.self.invariant.1)

pub returns-clause-row : goal.returns-clause-row
returns-clause-row g c =
    let places = c.self.inside in
    let rows = rows_and places.rows places.back in
    let at : pos c.offset_place.result ≡ pos places.place +ℤ places.stride = omega (arith, ints, c.offset_place.ensures) in
    let steps : places.stride ≡ to_z w64 (of_z w64 places.stride) = omega (arith, ints) in (
      omega (arith, c.if-self-eq1.false, c.self.invariant.0),
      sym c.self.view_is
          ∙ after places.place places.stride (places.left - 1) rows
          ∙ ap (λ z. row_from z places.stride (places.left - 1) ++ rows_places rows) (sym at)
          ∙ ap (λ s. row_places c.offset_place.result s (places.left - 1) ++ rows_places rows) steps,
    )

pub invariant_of-self : goal.invariant_of-self
invariant_of-self g c =
    (c.self.invariant.0, left_after_end c.self.invariant.1 (omega (arith, c.if-self-eq1.true)) c.in_err-row.ensures.1)

pub invariant_of-self-then-self-eq1 : goal.invariant_of-self-then-self-eq1
invariant_of-self-then-self-eq1 g c =
    (c.self.invariant.0, left_after_row c.self.invariant.1 (omega (arith, c.if-self-eq1.true)) c.in_ok-row.ensures)

pub returns-then-self-eq1-clause-row : goal.returns-then-self-eq1-clause-row
returns-then-self-eq1-clause-row g c = (
  some_in_row c.self.invariant.1 c.in_ok-row.ensures,
  sym c.self.view_is ∙ row_first_of c.self.invariant.1 (omega (arith, c.if-self-eq1.true)) c.in_ok-row.ensures,
)

pub returns-clause-row_is_view : goal.returns-clause-row_is_view
returns-clause-row_is_view g c =
    let row = returns-clause-row g c in
    first_is_view _ _ c.self.invariant.1.in_bounds c.self.invariant.1.fits row.0 (c.self.view_is ∙ row.1)

pub returns-then-self-eq1-clause-row_is_view : goal.returns-then-self-eq1-clause-row_is_view
returns-then-self-eq1-clause-row_is_view g c =
    let row = returns-then-self-eq1-clause-row g c in
    first_is_view _ _ c.self.invariant.1.in_bounds c.self.invariant.1.fits row.0 (c.self.view_is ∙ row.1)
