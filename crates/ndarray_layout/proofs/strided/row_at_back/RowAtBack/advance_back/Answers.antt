use Rattle.std.proofs.Common.{◌≡◌, ◌-◌, pos, ◌+ℤ◌, ◌*ℤ◌, ap, ◌∙◌, arith}
use Rattle.std.proofs.lemmas.Int.{ints}
use Rattle.nd_base.proofs.Laws.Definitions.{signed}
use Rattle.ndarray_layout.proofs.RowAtBack.{place_left, start_left}
use Rattle.ndarray_layout.proofs.strided.row_at_back.RowAtBack.advance_back.Goals as goal

pub place_along_axis-self-inside-requires-clause-first : goal.place_along_axis-self-inside-requires-clause-first
place_along_axis-self-inside-requires-clause-first c =
    let few = ap (λ row. row.len) c.self.view_is in
    start_left c.self.inside.row c.self.view_is c.requires.in_bounds (omega (arith, c.requires.left, c.if-count-eq0.false, few))

pub place_along_axis-self-inside-requires-clause-there : goal.place_along_axis-self-inside-requires-clause-there
place_along_axis-self-inside-requires-clause-there c =
    let row = c.self.inside.row in
    let i = row.len - c.args.count in
    let few = ap (λ row. row.len) c.self.view_is in
    let step : signed c.unsigned.result ≡ row.stride = omega (arith, ints, c.unsigned.ensures.back) in
    let there = place_left row c.self.view_is c.requires.in_bounds i (omega (arith, c.requires.left, c.if-count-eq0.false, few)) in
    let same = ap (λ s. pos row.start +ℤ (pos i *ℤ s)) step in
    (omega (arith, ints, same, there.0), omega (arith, ints, same, there.1))

pub invariant_of-self : goal.invariant_of-self
invariant_of-self c =
    let row = c.self.inside.row in
    let i = row.len - c.args.count in
    let few = ap (λ row. row.len) c.self.view_is in
    let step : signed c.unsigned.result ≡ row.stride = omega (arith, ints, c.unsigned.ensures.back) in
    let there = place_left row c.self.view_is c.requires.in_bounds i (omega (arith, c.requires.left, c.if-count-eq0.false, few)) in
    let at = c.place_along_axis-self-inside.ensures ∙ ap (λ s. pos row.start +ℤ (pos i *ℤ s)) step in
    record { place = λ _. at; here = λ _. omega (arith, ints, at, there.1) }
