-- In a column it lies a stride back.
use Rattle.std.proofs.Common.{rules, pos, ◌-ℤ◌, FitsSigned, to_z, of_z, w64, arith}
use Rattle.std.proofs.lemmas.Int.{ints, to_z-of_z}
use Rattle.ndarray_layout.proofs.RowColumns.{last_after_fits, left_before, numbered_within, previous_of_column}
use Rattle.ndarray_layout.proofs.strided.rows_of.previous_in_column.Goals as goal

pub overflow_sub-columns : goal.overflow_sub-columns
overflow_sub-columns g c =
    let f : FitsSigned w64 c.args.columns.stride = search rules in
    let is = to_z-of_z w64 c.args.columns.stride f in
    let on = previous_of_column c.requires.columns c.if-last-gt1.true c.requires.below c.requires.last in
    let last = last_after_fits c.requires.columns c.if-last-gt1.true c.requires.below c.requires.last c.requires.is_view in
    let order = g.A.SlowerAxes.order c.args.axes.now in
    let starts = g.A.SlowerAxes.starts c.args.axes.now in
    let at = numbered_within order starts c.requires.is_view c.args.number c.requires.below in
    omega (arith, ints, is, on, last.0, last.1, at.0, at.1)

pub offset_place-requires-clause-first : goal.offset_place-requires-clause-first
offset_place-requires-clause-first g c =
    let last = last_after_fits c.requires.columns c.if-last-gt1.true c.requires.below c.requires.last c.requires.is_view in
    omega (arith, ints, last.1)

pub offset_place-requires-clause-there : goal.offset_place-requires-clause-there
offset_place-requires-clause-there g c =
    let f : FitsSigned w64 c.args.columns.stride = search rules in
    let is = to_z-of_z w64 c.args.columns.stride f in
    let on = previous_of_column c.requires.columns c.if-last-gt1.true c.requires.below c.requires.last in
    let last = last_after_fits c.requires.columns c.if-last-gt1.true c.requires.below c.requires.last c.requires.is_view in
    let order = g.A.SlowerAxes.order c.args.axes.now in
    let starts = g.A.SlowerAxes.starts c.args.axes.now in
    let at = numbered_within order starts c.requires.is_view c.args.number c.requires.below in
    let fits : FitsSigned w64 (pos 0 -ℤ to_z w64 (of_z w64 c.args.columns.stride)) =
    omega (arith, ints, is, on, last.0, last.1, at.0, at.1) in
    let back = to_z-of_z w64 (pos 0 -ℤ to_z w64 (of_z w64 c.args.columns.stride)) fits in
    (omega (arith, ints, is, back, on, at.0), omega (arith, ints, is, back, on, at.1))

pub returns-then-last-gt1-clause-place : goal.returns-then-last-gt1-clause-place
returns-then-last-gt1-clause-place g c =
    let f : FitsSigned w64 c.args.columns.stride = search rules in
    let is = to_z-of_z w64 c.args.columns.stride f in
    let on = previous_of_column c.requires.columns c.if-last-gt1.true c.requires.below c.requires.last in
    let last = last_after_fits c.requires.columns c.if-last-gt1.true c.requires.below c.requires.last c.requires.is_view in
    let order = g.A.SlowerAxes.order c.args.axes.now in
    let starts = g.A.SlowerAxes.starts c.args.axes.now in
    let at = numbered_within order starts c.requires.is_view c.args.number c.requires.below in
    let fits : FitsSigned w64 (pos 0 -ℤ to_z w64 (of_z w64 c.args.columns.stride)) =
    omega (arith, ints, is, on, last.0, last.1, at.0, at.1) in
    let back = to_z-of_z w64 (pos 0 -ℤ to_z w64 (of_z w64 c.args.columns.stride)) fits in
    omega (arith, ints, is, back, on, c.offset_place.ensures)

pub returns-then-last-gt1-clause-left : goal.returns-then-last-gt1-clause-left
returns-then-last-gt1-clause-left g c =
    let left = left_before c.requires.columns c.if-last-gt1.true c.requires.below c.requires.last in
    record {
      below = λ _. c.requires.below;
      place = λ _. returns-then-last-gt1-clause-place g c;
      within = λ _. left;
    }
