-- A row of a later place on, or of none.
use Rattle.std.proofs.Common.{◌≡◌, ◌≤◌, ◌-◌, pos, ◌+ℤ◌, ◌*ℤ◌, drop, length, sym, ap, ◌∙◌, arith}
use Rattle.std.proofs.lemmas.Int.{ints}
use Rattle.std.proofs.lemmas.List.{drop_all}
use Rattle.nd_base.proofs.Laws.Definitions.{signed}
use Rattle.ndarray_layout.specs.Rows.{row_places}
use Rattle.ndarray_layout.proofs.ByRows.{row_from}
use Rattle.ndarray_layout.proofs.LaterPlaces.{row_drop}
use Rattle.ndarray_layout.proofs.RowAtBack.{after_later, place_left, start_left}
use Rattle.ndarray_layout.proofs.Laws.Rows.{length-row_places}
use Rattle.ndarray_layout.proofs.strided.row_at_back.RowAtBack.advance.Goals as goal

pub returns-then-count-self : goal.returns-then-count-self
returns-then-count-self c =
    let row = c.args.self.now in
    let few : length (row_places row.start row.stride row.len) ≤ c.args.count =
    omega (arith, c.if-count-self.true, length-row_places row.start row.stride row.len, ap (λ row. row.len) c.self.view_is) in
    sym (drop_all c.args.count (row_places row.start row.stride row.len) few)

pub place_along_axis-self-inside-requires-clause-first : goal.place_along_axis-self-inside-requires-clause-first
place_along_axis-self-inside-requires-clause-first c =
    start_left c.self.inside.row c.self.view_is c.requires.in_bounds (omega (arith, c.if-count-self.false))

pub place_along_axis-self-inside-requires-clause-there : goal.place_along_axis-self-inside-requires-clause-there
place_along_axis-self-inside-requires-clause-there c =
    let row = c.self.inside.row in
    let step : signed c.unsigned.result ≡ row.stride = omega (arith, ints, c.unsigned.ensures.back) in
    let there = place_left row c.self.view_is c.requires.in_bounds c.args.count (omega (arith, c.if-count-self.false)) in
    let same = ap (λ s. pos row.start +ℤ (pos c.args.count *ℤ s)) step in
    (omega (arith, ints, same, there.0), omega (arith, ints, same, there.1))

pub invariant_of-self-2 : goal.invariant_of-self-2
invariant_of-self-2 c =
    let row = c.self.inside.row in
    let step : signed c.unsigned.result ≡ row.stride = omega (arith, ints, c.unsigned.ensures.back) in
    let at = c.place_along_axis-self-inside.ensures ∙ ap (λ s. pos row.start +ℤ (pos c.args.count *ℤ s)) step in
    after_later c.self.invariant c.args.count (omega (arith, c.if-count-self.false)) at

pub returns : goal.returns
returns c =
    let row = c.self.inside.row in
    let step : signed c.unsigned.result ≡ row.stride = omega (arith, ints, c.unsigned.ensures.back) in
    let at = c.place_along_axis-self-inside.ensures ∙ ap (λ s. pos row.start +ℤ (pos c.args.count *ℤ s)) step in
    ap (λ z. row_from z row.stride (row.len - c.args.count)) at
    ∙ sym (row_drop c.args.count row.len (pos row.start) row.stride (omega (arith, c.if-count-self.false)))
    ∙ ap (λ row. drop c.args.count (row_places row.start row.stride row.len)) c.self.view_is
