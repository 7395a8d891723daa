use Rattle.std.proofs.Common.{◌≡◌, ◌-◌, pos, ◌+ℤ◌, ◌*ℤ◌, ap, arith}
use Rattle.std.proofs.lemmas.Int.{ints}
use Rattle.ndarray_layout.proofs.RowSteps.{place_bounds}
use Rattle.ndarray_layout.proofs.strided.stretch_left.Stretch.of_row.Goals as goal

pub overflow_add-result : goal.overflow_add-result
overflow_add-result c =
    let row = c.args.row in
    let last = place_bounds row.start row.stride row.len (row.len - 1) c.requires.in_bounds (omega (arith, c.requires.some)) in
    let step : row.stride ≡ pos 1 = omega (arith, ints, c.if-row-ne1.false) in
    omega (arith, ints, last.1, ap (λ s. pos row.start +ℤ (pos (row.len - 1) *ℤ s)) step, c.requires.some)

pub invariant_of-result : goal.invariant_of-result
invariant_of-result c =
    let row = c.args.row in
    let last = place_bounds row.start row.stride row.len (row.len - 1) c.requires.in_bounds (omega (arith, c.requires.some)) in
    let step : row.stride ≡ pos 1 = omega (arith, ints, c.if-row-ne1.false) in
    record {
      ordered = omega arith;
      fits = omega (arith, ints, last.1, ap (λ s. pos row.start +ℤ (pos (row.len - 1) *ℤ s)) step, c.requires.some);
      few = omega (arith, c.requires.few);
    }
