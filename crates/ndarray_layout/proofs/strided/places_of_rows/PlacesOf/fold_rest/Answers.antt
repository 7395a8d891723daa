-- The function is called at the places of one row more.
use Rattle.std.proofs.Common.{◌<◌, ◌^◌, pos, length, ap, subst, sym, ◌∙◌, arith}
use Rattle.std.specs.Iterator.{CallableInFold}
use Rattle.std.specs.List.{All}
use Rattle.std.proofs.lemmas.List.{length-append}
use Rattle.nd_base.specs.Bounds.{IsInBounds}
use Rattle.nd_base.specs.declared.order.Order.TheVariants.{RowMajor}
use Rattle.ndarray_layout.specs.Folded.{HasFolded, gives}
use Rattle.ndarray_layout.specs.Rows.{row_places}
use Rattle.ndarray_layout.proofs.Laws.Folding.{all_folded, both_called, callable_after, callable_in_part, none_called}
use Rattle.ndarray_layout.proofs.Laws.Rows.{length-row_places, places-row_view, places_fit}
use Rattle.ndarray_layout.proofs.strided.places_of_rows.PlacesOf.fold_rest.Goals as goal

pub fold_row-requires-clause-in_bounds : goal.fold_row-requires-clause-in_bounds
fold_row-requires-clause-in_bounds g c =
    let next = c.in-Some.ensures in
    subst (All (IsInBounds (2 ^ 63))) (places-row_view c.in-Some.row next.row.0 next.row_is_view) (places_fit RowMajor next.row_is_view)

pub fold_row-requires-clause-callable : goal.fold_row-requires-clause-callable
fold_row-requires-clause-callable g c =
    let row = c.in-Some.row in
    callable_in_part (row_places row.start row.stride row.len) c.next_row.new.self
    (subst (λ left. CallableInFold (gives pos) g.F.FnMut left c.loop-row.f c.loop-row.total) c.in-Some.ensures.row.1
    c.loop-row.invariant.callable)

pub loop-row-smaller : goal.loop-row-smaller
loop-row-smaller g c =
    let row = c.in-Some.row in
    let all = ap length c.in-Some.ensures.row.1 ∙ length-append (row_places row.start row.stride row.len) c.next_row.new.self in
    let fewer : length c.next_row.new.self < length c.loop-row.places =
    omega (arith, all, length-row_places row.start row.stride row.len, c.in-Some.ensures.row.0) in
    fewer

pub loop-row-preserved : goal.loop-row-preserved
loop-row-preserved g c =
    let all = c.in-Some.ensures.row.1 in
    record {
      folded = λ h result others. c.loop-row.invariant.folded h result
          (subst (λ left. HasFolded pos g.F.FnMut (c.loop-row.f, c.loop-row.total) left (h, result)) (sym all)
          (both_called {p = (c.loop-row.f, c.loop-row.total)} c.fold_row.ensures others));
      callable = callable_after {p = (c.loop-row.f, c.loop-row.total)} c.fold_row.ensures
          (subst (λ left. CallableInFold (gives pos) g.F.FnMut left c.loop-row.f c.loop-row.total) all c.loop-row.invariant.callable);
    }

pub returns : goal.returns
returns g c = record {
  ran = all_folded (c.loop-row.invariant.folded c.loop-row.f c.loop-row.total
      (subst (λ left. HasFolded pos g.F.FnMut (c.loop-row.f, c.loop-row.total) left (c.loop-row.f, c.loop-row.total))
      (sym c.in_default.ensures.row.0) none_called));
}
