use Rattle.std.proofs.Common.{◌*◌, length, sym, ap, ◌∙◌, arith}
use Rattle.ndarray_layout.specs.declared.strided.rows.Row.{Row}
use Rattle.ndarray_layout.specs.Rows.{rows_places}
use Rattle.ndarray_layout.proofs.NumberedRows.{length-places_between, length-rows_between}
use Rattle.ndarray_layout.proofs.strided.rows_of.RowsOf.count_of_places.Goals as goal

pub overflow_mul-result : goal.overflow_mul-result
overflow_mul-result g c =
    let p = c.self.inside in
    let row : Row = record { start = 0; stride = p.stride; len = p.len } in
    let count = c.len.ensures.value ∙ sym (ap length c.self.view_is) ∙ length-rows_between row c.self.invariant.between in
    omega (arith, ap (λ n. n * p.len) count, c.self.invariant.between.fits)

pub returns : goal.returns
returns g c =
    let p = c.self.inside in
    let row : Row = record { start = 0; stride = p.stride; len = p.len } in
    let count = c.len.ensures.value ∙ sym (ap length c.self.view_is) ∙ length-rows_between row c.self.invariant.between in
    ap (λ n. n * p.len) count
    ∙ sym (length-places_between row c.self.invariant.between)
    ∙ ap (λ xs. length (rows_places xs)) c.self.view_is
