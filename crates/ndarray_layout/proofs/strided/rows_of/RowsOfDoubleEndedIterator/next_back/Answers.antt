-- The last row is that of the number before the end.
use Rattle.std.proofs.Common.{◌≡◌, ◌+◌, ◌-◌, ◌<◌, ◌≤◌, [], ◌∷◌, ◌++◌, of_z, to_z, w64, length, sym, ap, subst, ◌∙◌, arith}
use Rattle.std.proofs.lemmas.Int.{ints}
use Rattle.std.proofs.lemmas.List.{length_push}
use Rattle.ndarray_layout.specs.declared.strided.rows.Row.{Row}
use Rattle.ndarray_layout.specs.NumberedRows.{IsAfter, rows_between}
use Rattle.ndarray_layout.proofs.NumberedRows.{last_between, length-rows_between}
use Rattle.ndarray_layout.proofs.RowsInColumns.{given, given_cut, left_cut}
use Rattle.ndarray_layout.proofs.strided.rows_of.RowsOfDoubleEndedIterator.next_back.Goals as goal

pub previous_in_column-self-inside-requires-clause-below : goal.previous_in_column-self-inside-requires-clause-below
previous_in_column-self-inside-requires-clause-below g c =
    let p = c.self.inside in
    let row : Row = record { start = 0; stride = p.stride; len = p.len } in
    let l = c.self.invariant in
    let count = c.len.ensures.value ∙ sym (ap length c.self.view_is) ∙ length-rows_between row l.between in
    omega (arith, count, c.if-len-eq0.false, l.between.within)

pub previous_in_column-self-inside-requires-clause-last : goal.previous_in_column-self-inside-requires-clause-last
previous_in_column-self-inside-requires-clause-last g c =
    let p = c.self.inside in
    let row : Row = record { start = 0; stride = p.stride; len = p.len } in
    let l = c.self.invariant in
    let count = c.len.ensures.value ∙ sym (ap length c.self.view_is) ∙ length-rows_between row l.between in
    let same : p.end ≡ p.end - 1 + 1 = omega (arith, count, c.if-len-eq0.false) in
    subst (λ n. IsAfter (g.A.SlowerAxes.order p.axes) (g.A.SlowerAxes.starts p.axes) p.columns n p.back) same l.after

pub invariant_of-self : goal.invariant_of-self
invariant_of-self g c =
    let p = c.self.inside in
    let row : Row = record { start = 0; stride = p.stride; len = p.len } in
    let l = c.self.invariant in
    let count = c.len.ensures.value ∙ sym (ap length c.self.view_is) ∙ length-rows_between row l.between in
    let number : given l ≤ p.end - 1 = omega (arith, count, c.if-len-eq0.false) in
    left_cut l number (omega arith) c.min-begun.ensures c.previous_in_column-self-inside.ensures.some
    c.previous_in_column-self-inside.ensures.left

pub returns-clause-steps : goal.returns-clause-steps
returns-clause-steps g c =
    let p = c.self.inside in
    let row : Row = record { start = 0; stride = p.stride; len = p.len } in
    let l = c.self.invariant in
    let count = c.len.ensures.value ∙ sym (ap length c.self.view_is) ∙ length-rows_between row l.between in
    let some : given l < p.end = omega (arith, count, c.if-len-eq0.false) in
    let number : given l ≤ p.end - 1 = omega (arith, some) in
    let steps : p.stride ≡ to_z w64 (of_z w64 p.stride) = omega (arith, ints) in
    let order = g.A.SlowerAxes.order p.axes in
    let starts = g.A.SlowerAxes.starts p.axes in
    let last : Row = record { start = c.previous_in_column-self-inside.result.place; stride = to_z w64 (of_z w64 p.stride); len = p.len } in
    sym c.self.view_is
    ∙ last_between row l.between some c.previous_in_column-self-inside.ensures.place
    ∙ ap (λ s. rows_between order starts row (given l) (p.end - 1)
    ++ record { start = c.previous_in_column-self-inside.result.place; stride = s; len = p.len } ∷ []) steps
    ∙ ap (λ n. rows_between order starts row n (p.end - 1) ++ last ∷ []) (sym (given_cut l number (omega arith) c.min-begun.ensures))

pub returns-clause-goes : goal.returns-clause-goes
returns-clause-goes g c =
    let shorter = ap length (returns-clause-steps g c) in
    record { on = λ _. (tt, tt, omega (arith, shorter ∙ length_push _ _)); keeps = tt; rests = λ _. tt }
