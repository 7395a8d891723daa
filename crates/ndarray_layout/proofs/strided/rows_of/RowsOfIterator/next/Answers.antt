-- The next row is that of its number; the one after it begins a stride on, where the column has one.
use Rattle.std.proofs.Common.{rules, ◌≡◌, ◌+◌, ◌∷◌, FitsSigned, pos, ◌+ℤ◌, of_z, to_z, w64, length, subst, sym, ap, ◌∙◌, arith}
use Rattle.std.proofs.lemmas.Int.{ints, to_z-of_z}
use Rattle.ndarray_layout.specs.declared.strided.rows.Row.{Row}
use Rattle.ndarray_layout.specs.NumberedRows.{count_given, rows_between}
use Rattle.ndarray_layout.specs.View.{IsPlace}
use Rattle.ndarray_layout.proofs.NumberedRows.{first_between}
use Rattle.ndarray_layout.proofs.RowsInColumns.{HasRowInColumn, column_begins, column_goes_on, front_fits, given_in_column}
use Rattle.ndarray_layout.proofs.RowsInColumns.{in_column_below, left_in_column}
use Rattle.ndarray_layout.proofs.strided.rows_of.RowsOfIterator.next.Goals as goal
use Rattle.ndarray_layout.proofs.strided.rows_of.RowsOfIterator.next.Goals.{then-self-gt0, else-self-gt0+in_ok-front}

pub place_after-requires : goal.place_after-requires
place_after-requires g c =
    let p = c.self.inside in
    let l = c.self.invariant in
    let next : HasRowInColumn _ _ p.len p.columns p.back p.end (count_given p.begun p.front.left) c.if-self-gt0.begun =
    elim c.if-self-gt0.branch [
      | then-self-gt0 w ↦ column_goes_on l w.begun-is w.if-self-gt0.true
      | else-self-gt0+in_ok-front w ↦ column_begins l w.begun-is (omega (arith, w.if-self-gt0.false)) w.in_ok-front.ensures
    ] in
    let fits = front_fits next.left next.some in
    omega (arith, ints, fits.1)

pub invariant_of-self : goal.invariant_of-self
invariant_of-self g c =
    let p = c.self.inside in
    let l = c.self.invariant in
    let next : HasRowInColumn _ _ p.len p.columns p.back p.end (count_given p.begun p.front.left) c.if-self-gt0.begun =
    elim c.if-self-gt0.branch [
      | then-self-gt0 w ↦ column_goes_on l w.begun-is w.if-self-gt0.true
      | else-self-gt0+in_ok-front w ↦ column_begins l w.begun-is (omega (arith, w.if-self-gt0.false)) w.in_ok-front.ensures
    ] in
    let f : FitsSigned w64 p.columns.stride = search rules in
    let is = to_z-of_z w64 p.columns.stride f in
    let front = c.if-self-gt0.begun.0 in
    left_in_column next.left next.some
    (subst (λ s. IsPlace (pos front.place +ℤ s) → pos c.place_after.result ≡ pos front.place +ℤ s) is c.place_after.ensures)

pub returns-clause-steps : goal.returns-clause-steps
returns-clause-steps g c =
    let p = c.self.inside in
    let l = c.self.invariant in
    let order = g.A.SlowerAxes.order p.axes in
    let starts = g.A.SlowerAxes.starts p.axes in
    let given = count_given p.begun p.front.left in
    let next : HasRowInColumn order starts p.len p.columns p.back p.end given c.if-self-gt0.begun = elim c.if-self-gt0.branch [
      | then-self-gt0 w ↦ column_goes_on l w.begun-is w.if-self-gt0.true
      | else-self-gt0+in_ok-front w ↦ column_begins l w.begun-is (omega (arith, w.if-self-gt0.false)) w.in_ok-front.ensures
    ] in
    let row : Row = record { start = 0; stride = p.stride; len = p.len } in
    let steps : p.stride ≡ to_z w64 (of_z w64 p.stride) = omega (arith, ints) in
    let (front, begun) = c.if-self-gt0.begun in
    sym c.self.view_is
    ∙ ap (λ n. rows_between order starts row n p.end) (sym next.same)
    ∙ first_between row next.left.between (in_column_below next.left next.some) (next.left.next.place next.some)
    ∙ ap (λ s. record { start = front.place; stride = s; len = p.len }
    ∷ rows_between order starts row (count_given begun front.left + 1) p.end) steps
    ∙ ap (λ n. record { start = front.place; stride = to_z w64 (of_z w64 p.stride); len = p.len }
    ∷ rows_between order starts row n p.end) (sym (given_in_column next.left next.some))

pub returns-clause-goes : goal.returns-clause-goes
returns-clause-goes g c =
    let shorter = ap length (returns-clause-steps g c) in
    record { on = λ _. (tt, tt, omega (arith, shorter)); keeps = tt; rests = λ _. tt }
