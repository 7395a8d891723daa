-- What is left is a row in progress, rows, and a row in progress at the back.
use Rattle.std.proofs.Common.{◌≡◌, ℕ, ◌-◌, ◌<◌, ◌++◌, pos, ◌+ℤ◌, ℤ, of_z, to_z, w64, Option, Some, None, subst, sym, ap, ◌∙◌, arith}
use Rattle.std.specs.Prelude.{IfSome, MatchOption}
use Rattle.std.proofs.lemmas.Int.{ints}
use Rattle.ndarray_layout.specs.declared.strided.rows.Row.{Row}
use Rattle.ndarray_layout.specs.PlacesLeft.{places_of_row}
use Rattle.ndarray_layout.specs.Rows.{row_places, rows_places}
use Rattle.ndarray_layout.specs.View.{IsPlace}
use Rattle.ndarray_layout.proofs.BothEnds.{All-rows, parts}
use Rattle.ndarray_layout.proofs.ByRows.{row_from}
use Rattle.ndarray_layout.proofs.RowViews.{back_is_view, between_are_views, front_is_view}
use Rattle.ndarray_layout.proofs.RowSteps.{bounds_of_place, next_in_bounds}
use Rattle.ndarray_layout.proofs.strided.counted_places.CountedPlaces.into_rows_left.Goals as goal

abbrev IsRest : ℕ → ℕ → ℤ → Option Row → Type 0
IsRest place left stride rest = MatchOption rest (left ≡ 1) (λ row. (1 < left) × (pos row.start ≡ pos place +ℤ stride)
    × (row.stride ≡ stride) × (row.len ≡ left - 1))

-- the places of what is left of a row, and of one that is taken, each of which has some
rest_has_some : (place left : ℕ) (stride : ℤ) (rest : Option Row) → IsRest place left stride rest → IfSome rest (λ row. 0 < row.len)
rest_has_some place left stride None one = tt
rest_has_some place left stride (Some row) (more, _, _, count) = omega (arith, more, count)

taken_has_some : (last : Row) (taken : Option Row) → MatchOption taken (last.len ≡ 0) (λ row. (0 < row.len) × (row ≡ last))
    → IfSome taken (λ row. 0 < row.len)
taken_has_some last None none = tt
taken_has_some last (Some row) (some, _) = some

rest_places : (place left : ℕ) (stride : ℤ) (rest : Option Row) → IsRest place left stride rest
    → places_of_row rest ≡ row_from (pos place +ℤ stride) stride (left - 1)
rest_places place left stride None one =
    let none : 0 ≡ left - 1 = omega (arith, one) in
    ap (row_from (pos place +ℤ stride) stride) none
rest_places place left stride (Some row) (_, at, steps, count) =
    ap (λ z. row_from z row.stride row.len) at
    ∙ ap (λ s. row_from (pos place +ℤ stride) s row.len) steps
    ∙ ap (row_from (pos place +ℤ stride) stride) count

taken_places : (last : Row) (taken : Option Row) → MatchOption taken (last.len ≡ 0) (λ row. (0 < row.len) × (row ≡ last))
    → places_of_row taken ≡ row_places last.start last.stride last.len
taken_places last None none = ap (row_places last.start last.stride) (sym none)
taken_places last (Some row) (_, is) = ap (λ row. row_places row.start row.stride row.len) is

pub rest_of_row-requires-clause-next : goal.rest_of_row-requires-clause-next
rest_of_row-requires-clause-next g c more =
    let places = c.self.inside in
    let steps : places.stride ≡ to_z w64 (of_z w64 places.stride) = omega (arith, ints) in
    subst (λ s. IsPlace (pos places.place +ℤ s)) steps (bounds_of_place _ (next_in_bounds c.self.invariant.1 (omega (arith, more))))

pub returns-clause-places : goal.returns-clause-places
returns-clause-places g c =
    let places = c.self.inside in
    let steps : to_z w64 (of_z w64 places.stride) ≡ places.stride = omega (arith, ints) in
    sym c.self.view_is
    ∙ parts places.place places.stride (places.left - 1) places.rows places.back
    ∙ ap (λ xs. (xs ++ rows_places places.rows) ++ row_places places.back.start places.back.stride places.back.len)
    (sym (rest_places places.place places.left (to_z w64 (of_z w64 places.stride)) c.rest_of_row.result c.rest_of_row.ensures
    ∙ ap (λ s. row_from (pos places.place +ℤ s) s (places.left - 1)) steps))
    ∙ ap (λ xs. (places_of_row c.rest_of_row.result ++ rows_places places.rows) ++ xs)
    (sym (taken_places places.back c.take.result c.take.ensures.row))

pub returns-clause-some : goal.returns-clause-some
returns-clause-some g c = All-rows c.self.inside.rows c.self.inside.back (λ row. 0 < row.len) c.self.invariant.1.some

pub returns-clause-views : goal.returns-clause-views
returns-clause-views g c =
    between_are_views c.rest_of_row.result c.self.inside.rows c.take.result (c.self.view_is ∙ returns-clause-places g c)
    c.self.invariant.1.in_bounds c.self.invariant.1.fits (returns-clause-some g c)

pub returns-clause-first : goal.returns-clause-first
returns-clause-first g c =
    front_is_view c.rest_of_row.result c.self.inside.rows c.take.result (c.self.view_is ∙ returns-clause-places g c)
    c.self.invariant.1.in_bounds c.self.invariant.1.fits (rest_has_some c.self.inside.place c.self.inside.left
    (to_z w64 (of_z w64 c.self.inside.stride)) c.rest_of_row.result c.rest_of_row.ensures)

pub returns-clause-last : goal.returns-clause-last
returns-clause-last g c =
    back_is_view c.rest_of_row.result c.self.inside.rows c.take.result (c.self.view_is ∙ returns-clause-places g c)
    c.self.invariant.1.in_bounds c.self.invariant.1.fits (taken_has_some c.self.inside.back c.take.result c.take.ensures.row)
