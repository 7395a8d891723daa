use Rattle.std.proofs.Common.{length, sym, ap, ◌∙◌, arith}
use Rattle.ndarray_layout.specs.declared.strided.rows.Row.{Row}
use Rattle.ndarray_layout.proofs.NumberedRows.{length-rows_between}
use Rattle.ndarray_layout.proofs.RowsInColumns.{end_fits}
use Rattle.ndarray_layout.proofs.strided.rows_of.RowsOfExactSizeIterator.len.Goals as goal

pub overflow_add-result : goal.overflow_add-result
overflow_add-result g c = omega (arith, end_fits c.self.invariant, c.self.invariant.few, c.self.invariant.reached)

pub returns-clause-value : goal.returns-clause-value
returns-clause-value g c =
    let p = c.self.inside in
    let row : Row = record { start = 0; stride = p.stride; len = p.len } in
    let count = sym (length-rows_between row c.self.invariant.between) ∙ ap length c.self.view_is in
    omega (arith, count, c.self.invariant.few, c.self.invariant.reached)
