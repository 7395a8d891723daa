-- Without the last row no row has begun at the back.
use Rattle.std.proofs.Common.{◌-◌, ◌≡◌, of_z, to_z, w64, sym, ap, subst, ◌∙◌, ◌++◌, arith}
use Rattle.std.proofs.lemmas.Int.{ints}
use Rattle.ndarray_layout.specs.PlacesLeft.{ArePlacesLeft, places_after}
use Rattle.ndarray_layout.specs.Rows.{row_places}
use Rattle.ndarray_layout.proofs.RowViews.{last_is_view}
use Rattle.ndarray_layout.proofs.BothEnds.{and_none, left_without_row, without_row}
use Rattle.ndarray_layout.proofs.strided.counted_places.CountedPlaces.next_row_back.Goals as goal

pub invariant_of-self-2 : goal.invariant_of-self-2
invariant_of-self-2 g c =
    let p = c.self.inside in
    let rows = c.last_row.new.rows in
    let row = c.in_ok-row.ensures.row in
    let same : to_z w64 (of_z w64 p.stride) ≡ p.stride = omega (arith, ints) in (
      c.in_ok-row.ensures.begun,
      subst (ArePlacesLeft p.place p.stride (c.last_row.new.left - 1)) (sym (and_none rows c.last_row.new.back c.in_ok-row.ensures.back))
          (left_without_row c.self.invariant.1 (c.last_row.new.left - 1) rows c.in_ok-row.row same row.0 row.1 c.in_ok-row.ensures.some),
    )

pub returns-clause-row : goal.returns-clause-row
returns-clause-row g c =
    let p = c.self.inside in
    let rows = c.last_row.new.rows in
    let last = c.in_ok-row.row in
    let row = c.in_ok-row.ensures.row in
    let same : to_z w64 (of_z w64 p.stride) ≡ p.stride = omega (arith, ints) in (
      row.0,
      sym c.self.view_is
          ∙ without_row c.self.invariant.1 (c.last_row.new.left - 1) rows last same row.0 row.1
          ∙ ap (λ xs. places_after p.place p.stride (c.last_row.new.left - 1) xs ++ row_places last.start last.stride last.len)
          (sym (and_none rows c.last_row.new.back c.in_ok-row.ensures.back)),
    )

pub returns-clause-row_is_view : goal.returns-clause-row_is_view
returns-clause-row_is_view g c =
    let row = returns-clause-row g c in
    last_is_view _ _ c.self.invariant.1.in_bounds c.self.invariant.1.fits row.0 (c.self.view_is ∙ row.1)
