use Rattle.std.proofs.Common.{◌≡◌, ◌+◌, ◌-◌, ◌<◌, [], ◌∷◌, of_z, to_z, w64, drop, map, take, sym, ap, ◌∙◌, arith}
use Rattle.std.proofs.lemmas.Int.{ints}
use Rattle.ndarray_layout.specs.declared.strided.rows.Row.{Row}
use Rattle.ndarray_layout.specs.NumberedRows.{count_given, rows_between}
use Rattle.ndarray_layout.proofs.NumberedRows.{first_between}
use Rattle.ndarray_layout.specs.RowsLeft.{moved_to}
use Rattle.ndarray_layout.specs.View.{view_places}
use Rattle.ndarray_layout.proofs.RowsInColumns.{in_column_below}
use Rattle.ndarray_layout.proofs.strided.rows_of.RowsOf.only.Goals as goal

pub returns : goal.returns
returns g c =
    let p = c.self.inside in
    let row : Row = record { start = 0; stride = p.stride; len = p.len } in
    let l = c.self.invariant in
    let order = g.A.SlowerAxes.order p.axes in
    let starts = g.A.SlowerAxes.starts p.axes in
    let some : 0 < p.front.left = omega (arith, c.if-self-ne1.false) in
    let one : count_given p.begun p.front.left + 1 ≡ p.end = omega (arith, c.if-self-ne1.false, c.if-self.false, l.few) in
    let steps : p.stride ≡ to_z w64 (of_z w64 p.stride) = omega (arith, ints) in
    let nothing : p.end - p.end ≡ 0 = omega arith in
    let ends : rows_between order starts row (count_given p.begun p.front.left + 1) p.end ≡ [] =
    ap (λ n. rows_between order starts row n p.end) one
    ∙ ap (λ n. map (moved_to row) (take n (drop p.end (view_places order starts)))) nothing in
    sym c.self.view_is
    ∙ first_between row l.between (in_column_below l some) (l.next.place some)
    ∙ ap (λ rows. record { start = p.front.place; stride = p.stride; len = p.len } ∷ rows) ends
    ∙ ap (λ s. record { start = p.front.place; stride = s; len = p.len } ∷ []) steps
