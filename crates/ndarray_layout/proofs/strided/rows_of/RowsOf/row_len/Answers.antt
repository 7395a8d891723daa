use Rattle.std.proofs.Common.{◌≡◌, refl, subst}
use Rattle.std.specs.List.{All}
use Rattle.ndarray_layout.specs.declared.strided.rows.Row.{Row}
use Rattle.ndarray_layout.proofs.NumberedRows.{rows_alike}
use Rattle.ndarray_layout.proofs.strided.rows_of.RowsOf.row_len.Goals as goal

pub returns : goal.returns
returns g c =
    let p = c.self.inside in
    let row : Row = record { start = 0; stride = p.stride; len = p.len } in
    let alike = λ (one : Row). one.len ≡ p.len in
    subst (All alike) c.self.view_is (rows_alike row alike (λ place. refl) _)
