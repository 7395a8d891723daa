-- The rows along an axis are as many as the axes that move slower have places, each as long as the axis.
use Rattle.std.proofs.Common.{◌≡◌, ℕ, ◌≤◌, ℤ, List, [], ◌∷◌, cond, length, map, nat_eq, take, refl, sym, ap, ◌∙◌, arith}
use Rattle.std.specs.Prelude.{replicate}
use Rattle.std.proofs.lemmas.List.{length-take-le}
use Rattle.nd_base.specs.declared.order.Order.{Order}
use Rattle.nd_base.proofs.Laws.Definitions.{signed, size}
use Rattle.ndarray_layout.specs.declared.strided.rows.Fastest.{Fastest}
use Rattle.ndarray_layout.specs.declared.strided.rows.Row.{Row}
use Rattle.ndarray_layout.specs.Rows.{view_rows}
use Rattle.ndarray_layout.specs.RowsLeft.{axis_view, moved_to}
use Rattle.ndarray_layout.specs.View.{IsView, view_of, view_places}
use Rattle.ndarray_layout.proofs.RowsLeft.{few_rows, first_rows}
use Rattle.ndarray_layout.proofs.Laws.View.{length-view_places}

as_long_as : (row : Row) (places : List ℤ) → map (λ row. row.len) (map (moved_to row) places) ≡ replicate (length places) row.len
as_long_as row [] = refl
as_long_as row (place ∷ places) = ap (λ lens. row.len ∷ lens) (as_long_as row places)

pub lens_of_rows : (order : Order) (start : ℕ) (axis : Fastest) → IsView (axis_view order start axis)
    → map (λ row. row.len) (view_rows order (axis_view order start axis))
    ≡ replicate (cond (nat_eq axis.len 0) 0 (size axis.lens.now)) axis.len
lens_of_rows order start axis v =
    let rows = cond (nat_eq axis.len 0) 0 (size axis.lens.now) in
    let starts = view_places order (view_of start axis.lens.now axis.strides.now) in
    let row : Row = record { start = 0; stride = signed axis.stride; len = axis.len } in
    let few : rows ≤ length starts =
    omega (
      arith,
      few_rows order start axis v {rows = rows} refl,
      length-view_places order (view_of start axis.lens.now axis.strides.now),
    ) in
    ap (map (λ row. row.len)) (sym (first_rows order start axis v {rows = rows} refl row refl refl))
    ∙ as_long_as row (take rows starts)
    ∙ ap (λ n. replicate n axis.len) (length-take-le rows starts few)
