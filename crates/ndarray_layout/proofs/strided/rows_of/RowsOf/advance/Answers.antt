-- The column of the last row that is skipped begins with what is left of it.
use Rattle.std.proofs.Common.{◌≡◌, ◌+◌, ◌-◌, ◌<◌, ◌≤◌, drop, length, sym, ap, ◌∙◌, arith}
use Rattle.ndarray_layout.specs.declared.strided.rows.Row.{Row}
use Rattle.ndarray_layout.specs.NumberedRows.{rows_between}
use Rattle.ndarray_layout.proofs.NumberedRows.{between_drop, length-rows_between}
use Rattle.ndarray_layout.specs.View.{view_places}
use Rattle.ndarray_layout.proofs.RowsInColumns.{end_fits, given, given_entered, left_entered}
use Rattle.ndarray_layout.proofs.strided.rows_of.RowsOf.advance.Goals as goal

pub overflow_add-next : goal.overflow_add-next
overflow_add-next g c =
    let p = c.self.inside in
    let row : Row = record { start = 0; stride = p.stride; len = p.len } in
    let l = c.self.invariant in
    let count = c.len.ensures.value ∙ sym (ap length c.self.view_is) ∙ length-rows_between row l.between in
    omega (arith, count, c.if-count-len.false, end_fits l, l.few, l.reached)

pub invariant_of-self-then-count-gt0 : goal.invariant_of-self-then-count-gt0
invariant_of-self-then-count-gt0 g c =
    let p = c.self.inside in
    let row : Row = record { start = 0; stride = p.stride; len = p.len } in
    let l = c.self.invariant in
    let count = c.len.ensures.value ∙ sym (ap length c.self.view_is) ∙ length-rows_between row l.between in
    let later : given l ≤ p.begun - p.front.left + c.args.count = omega (arith, c.if-count-gt0.true, l.few) in
    let less : p.begun - p.front.left + c.args.count < p.end = omega (arith, count, c.if-count-len.false, l.few) in
    left_entered l later less c.min.ensures c.place_of_number.ensures

pub returns-then-count-gt0 : goal.returns-then-count-gt0
returns-then-count-gt0 g c =
    let p = c.self.inside in
    let row : Row = record { start = 0; stride = p.stride; len = p.len } in
    let l = c.self.invariant in
    let count = c.len.ensures.value ∙ sym (ap length c.self.view_is) ∙ length-rows_between row l.between in
    let later : given l ≤ p.begun - p.front.left + c.args.count = omega (arith, c.if-count-gt0.true, l.few) in
    let less : p.begun - p.front.left + c.args.count < p.end = omega (arith, count, c.if-count-len.false, l.few) in
    let order = g.A.SlowerAxes.order p.axes in
    let starts = g.A.SlowerAxes.starts p.axes in
    let number : p.begun - p.front.left + c.args.count ≡ given l + c.args.count = omega (arith, c.if-count-gt0.true, l.few) in
    ap (λ n. rows_between order starts row n p.end) (given_entered l later less c.min.ensures ∙ number)
    ∙ between_drop row (view_places order starts) (given l) p.end c.args.count (omega (arith, less, number))
    ∙ ap (drop c.args.count) c.self.view_is
