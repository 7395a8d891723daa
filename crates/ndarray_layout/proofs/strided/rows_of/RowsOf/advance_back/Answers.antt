-- The front keeps what is left of its column.
use Rattle.std.proofs.Common.{◌-◌, ◌≤◌, length, min, take, sym, ap, ◌∙◌, arith}
use Rattle.std.proofs.Math.Nat.{min-le_right}
use Rattle.ndarray_layout.specs.declared.strided.rows.Row.{Row}
use Rattle.ndarray_layout.specs.NumberedRows.{rows_between}
use Rattle.ndarray_layout.proofs.NumberedRows.{length-rows_between, rows_cut}
use Rattle.ndarray_layout.proofs.RowsInColumns.{given, given_cut, left_cut}
use Rattle.ndarray_layout.proofs.strided.rows_of.RowsOf.advance_back.Goals as goal

pub invariant_of-self : goal.invariant_of-self
invariant_of-self g c =
    let p = c.self.inside in
    let row : Row = record { start = 0; stride = p.stride; len = p.len } in
    let l = c.self.invariant in
    let count = c.len.ensures.value ∙ sym (ap length c.self.view_is) ∙ length-rows_between row l.between in
    let few : c.min.result ≤ p.end - given l = omega (arith, c.min.ensures, min-le_right c.args.count c.len.result, count) in
    left_cut l (omega (arith, few, l.between.number)) (omega arith) c.min-begun.ensures (omega arith)
    (record { below = λ more. absurd (omega arith); place = λ more. absurd (omega arith); within = λ more. absurd (omega arith) })

pub returns : goal.returns
returns g c =
    let p = c.self.inside in
    let row : Row = record { start = 0; stride = p.stride; len = p.len } in
    let l = c.self.invariant in
    let count = c.len.ensures.value ∙ sym (ap length c.self.view_is) ∙ length-rows_between row l.between in
    let few : c.min.result ≤ p.end - given l = omega (arith, c.min.ensures, min-le_right c.args.count c.len.result, count) in
    let order = g.A.SlowerAxes.order p.axes in
    let starts = g.A.SlowerAxes.starts p.axes in
    ap (λ n. rows_between order starts row n (p.end - c.min.result))
    (given_cut l (omega (arith, few, l.between.number)) (omega arith) c.min-begun.ensures)
    ∙ rows_cut row l.between c.args.count (c.min.ensures ∙ ap (min c.args.count) count)
    ∙ ap (λ xs. take (length xs - c.args.count) xs) c.self.view_is
