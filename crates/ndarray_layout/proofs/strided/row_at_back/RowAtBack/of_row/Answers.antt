use Rattle.std.proofs.Common.{◌≡◌, ◌-◌, pos, ◌+ℤ◌, ◌*ℤ◌, of_z, to_z, w64, sym, ap, ◌∙◌, arith}
use Rattle.std.proofs.lemmas.Int.{ints}
use Rattle.nd_base.proofs.Laws.Definitions.{signed}
use Rattle.ndarray_layout.proofs.RowSteps.{place_bounds, start_bound}
use Rattle.ndarray_layout.proofs.strided.row_at_back.RowAtBack.of_row.Goals as goal

pub place_along_axis-last-requires-clause-first : goal.place_along_axis-last-requires-clause-first
place_along_axis-last-requires-clause-first c =
    start_bound c.args.row.start c.args.row.stride c.args.row.len c.requires.in_bounds c.requires.some

pub place_along_axis-last-requires-clause-there : goal.place_along_axis-last-requires-clause-there
place_along_axis-last-requires-clause-there c =
    let row = c.args.row in
    let step : signed c.unsigned.result ≡ row.stride = omega (arith, ints, c.unsigned.ensures.back) in
    let there = place_bounds row.start row.stride row.len (row.len - 1) c.requires.in_bounds (omega (arith, c.requires.some)) in
    let same = ap (λ s. pos row.start +ℤ (pos (row.len - 1) *ℤ s)) step in
    (omega (arith, ints, same, there.0), omega (arith, ints, same, there.1))

pub invariant_of-result : goal.invariant_of-result
invariant_of-result c =
    let row = c.args.row in
    let step : signed c.unsigned.result ≡ row.stride = omega (arith, ints, c.unsigned.ensures.back) in
    let there = place_bounds row.start row.stride row.len (row.len - 1) c.requires.in_bounds (omega (arith, c.requires.some)) in
    let at = c.place_along_axis-last.ensures ∙ ap (λ s. pos row.start +ℤ (pos (row.len - 1) *ℤ s)) step in
    let same : to_z w64 (of_z w64 row.stride) ≡ row.stride = omega (arith, ints) in
    let to = at ∙ ap (λ s. pos row.start +ℤ (pos (row.len - 1) *ℤ s)) (sym same) in
    record { place = λ _. to; here = λ _. omega (arith, ints, at, there.1) }
