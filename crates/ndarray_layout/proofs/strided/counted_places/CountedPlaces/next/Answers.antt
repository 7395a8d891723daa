-- The next place lies a stride on in the row, or else where the next row begins.
use Rattle.std.proofs.Common.{◌-◌, ◌≡◌, pos, ◌+ℤ◌, sym, ◌∙◌, arith}
use Rattle.std.proofs.lemmas.Int.{ints}
use Rattle.ndarray_layout.proofs.RowSteps.{bounds_of_place, left_after_step, left_in_row, next_in_bounds, row_begins}
use Rattle.ndarray_layout.proofs.RowSteps.{some_in_row, steps_on}
use Rattle.ndarray_layout.proofs.strided.counted_places.CountedPlaces.next.Goals as goal

pub offset_place-self-inside-requires-clause-there : goal.offset_place-self-inside-requires-clause-there
offset_place-self-inside-requires-clause-there g c =
    let bounds = bounds_of_place _ (next_in_bounds c.self.invariant.1 c.if-self-gt0.true) in
    (omega (arith, ints, bounds.0), omega (arith, ints, bounds.1))

pub invariant_of-self : goal.invariant_of-self
invariant_of-self g c =
    let at : pos c.offset_place-self-inside.result ≡ pos c.self.inside.place +ℤ c.self.inside.stride =
    omega (arith, ints, c.offset_place-self-inside.ensures) in
    (omega (arith, c.if-self-gt0.true), left_after_step c.self.invariant.1 c.if-self-gt0.true at)

pub returns-then-self-gt0 : goal.returns-then-self-gt0
returns-then-self-gt0 g c =
    let at : pos c.offset_place-self-inside.result ≡ pos c.self.inside.place +ℤ c.self.inside.stride =
    omega (arith, ints, c.offset_place-self-inside.ensures) in
    sym c.self.view_is ∙ steps_on c.self.invariant.1 c.if-self-gt0.true at

pub invariant_of-self-in-Some : goal.invariant_of-self-in-Some
invariant_of-self-in-Some g c =
    let none : c.self.inside.left - 1 ≡ 0 = omega (arith, c.if-self-gt0.false) in
    let left = left_in_row c.self.invariant.1 none c.in-Some.ensures (omega (arith, ints)) in
    (some_in_row c.self.invariant.1 c.in-Some.ensures, left)

pub returns-in-Some : goal.returns-in-Some
returns-in-Some g c =
    let none : c.self.inside.left - 1 ≡ 0 = omega (arith, c.if-self-gt0.false) in
    sym c.self.view_is ∙ row_begins c.self.invariant.1 none c.in-Some.ensures (omega (arith, ints))
