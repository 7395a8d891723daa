-- The last place is that of the row that has begun at the back, or else of the last row, which begins there then.
use Rattle.std.proofs.Common.{◌≡◌, ◌-◌, pos, ◌++◌, [], ◌∷◌, of_z, to_z, w64, refl, sym, ap, subst, ◌∙◌, arith}
use Rattle.std.proofs.lemmas.Int.{ints}
use Rattle.ndarray_layout.specs.PlacesLeft.{ArePlacesLeft, places_after, rows_and}
use Rattle.ndarray_layout.proofs.BothEnds.{end_in, ends_in, last_small, left_without_last, row_in, some_rows, without_last}
use Rattle.ndarray_layout.proofs.strided.counted_places.CountedPlaces.next_back.Goals as goal

pub next_back-requires : goal.next_back-requires
next_back-requires g c =
    let p = c.self.inside in
    end_in p.place (p.left - 1) p.stride p.rows p.back c.self.invariant.1

pub invariant_of-self : goal.invariant_of-self
invariant_of-self g c =
    let p = c.self.inside in
    let l = c.self.invariant.1 in (
      c.self.invariant.0,
      subst (λ row. ArePlacesLeft p.place p.stride (p.left - 1) (rows_and p.rows row)) (sym c.in-Some.ensures.1)
          (left_without_last l (p.left - 1) p.rows p.back refl c.in-Some.ensures.0 (ends_in p.place p.stride (p.left - 1) p.rows p.back)
          (some_rows p.place (p.left - 1) p.stride p.rows p.back l)),
    )

pub returns-in-Some : goal.returns-in-Some
returns-in-Some g c =
    let p = c.self.inside in
    sym c.self.view_is
    ∙ without_last c.self.invariant.1 (p.left - 1) p.rows p.back refl c.in-Some.ensures.0
    (ends_in p.place p.stride (p.left - 1) p.rows p.back) c.in-Some.ensures.2
    ∙ ap (λ row. places_after p.place p.stride (p.left - 1) (rows_and p.rows row) ++ pos c.in-Some.place ∷ []) (sym c.in-Some.ensures.1)

pub of_row-back-requires-clause-in_bounds : goal.of_row-back-requires-clause-in_bounds
of_row-back-requires-clause-in_bounds g c =
    let p = c.self.inside in
    let row = c.in_ok-row.ensures.row in
    let same : to_z w64 (of_z w64 p.stride) ≡ p.stride = omega (arith, ints) in
    let l = subst (λ row. ArePlacesLeft p.place p.stride (p.left - 1) (rows_and p.rows row)) (sym c.in_default.ensures.1)
    c.self.invariant.1 in
    row_in l (c.last_row.new.left - 1) c.last_row.new.rows c.in_ok-row.row same row.0 row.1

pub of_row-back-requires-clause-few : goal.of_row-back-requires-clause-few
of_row-back-requires-clause-few g c =
    let p = c.self.inside in
    let row = c.in_ok-row.ensures.row in
    let same : to_z w64 (of_z w64 p.stride) ≡ p.stride = omega (arith, ints) in
    let l = subst (λ row. ArePlacesLeft p.place p.stride (p.left - 1) (rows_and p.rows row)) (sym c.in_default.ensures.1)
    c.self.invariant.1 in
    last_small l (c.last_row.new.left - 1) c.last_row.new.rows c.in_ok-row.row same row.0 row.1

pub invariant_of-self-2 : goal.invariant_of-self-2
invariant_of-self-2 g c =
    let p = c.self.inside in
    let row = c.in_ok-row.ensures.row in
    let same : to_z w64 (of_z w64 p.stride) ≡ p.stride = omega (arith, ints) in
    let l = subst (λ row. ArePlacesLeft p.place p.stride (p.left - 1) (rows_and p.rows row)) (sym c.in_default.ensures.1)
    c.self.invariant.1 in (
      c.in_ok-row.ensures.begun,
      subst (λ row. ArePlacesLeft p.place p.stride (c.last_row.new.left - 1) (rows_and c.last_row.new.rows row))
          (sym c.of_row-back.ensures.left)
          (left_without_last l (c.last_row.new.left - 1) c.last_row.new.rows c.in_ok-row.row same row.0 row.1 c.in_ok-row.ensures.some),
    )

pub returns : goal.returns
returns g c =
    let p = c.self.inside in
    let row = c.in_ok-row.ensures.row in
    let same : to_z w64 (of_z w64 p.stride) ≡ p.stride = omega (arith, ints) in
    let left = c.last_row.new.left - 1 in
    let rows = c.last_row.new.rows in
    let l = subst (λ row. ArePlacesLeft p.place p.stride (p.left - 1) (rows_and p.rows row)) (sym c.in_default.ensures.1)
    c.self.invariant.1 in
    sym c.self.view_is
    ∙ ap (λ row. places_after p.place p.stride (p.left - 1) (rows_and p.rows row)) (sym c.in_default.ensures.1)
    ∙ without_last l left rows c.in_ok-row.row same row.0 row.1 c.of_row-back.ensures.place
    ∙ ap (λ row. places_after p.place p.stride left (rows_and rows row) ++ pos c.of_row-back.result.1 ∷ []) (sym c.of_row-back.ensures.left)
