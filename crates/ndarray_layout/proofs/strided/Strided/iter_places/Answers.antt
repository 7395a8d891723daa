-- At first the places of all rows are left, in order.
use Rattle.std.proofs.Common.{ℤ, pos, List, length, sym, ap, subst, ◌^◌, arith}
use Rattle.std.specs.Iterator.{YieldsFirstBy}
use Rattle.std.specs.List.{All}
use Rattle.std.proofs.iter.runs.Sources.{from_front}
use Rattle.nd_base.proofs.Laws.Definitions.{IsInBounds}
use Rattle.nd_base.proofs.Laws.NonzeroSize.{size_le_nonzero_size}
use Rattle.ndarray_layout.specs.View.{View, IsView, view_of}
use Rattle.ndarray_layout.proofs.Laws.Rows.{places_fit}
use Rattle.ndarray_layout.proofs.Laws.View.{length-view_places}
use Rattle.ndarray_layout.proofs.strided.Strided.iter_places.Goals as goal

pub new-requires-clause-in_bounds : goal.new-requires-clause-in_bounds
new-requires-clause-in_bounds g c =
    let view : View = view_of c.self.inside.start c.slice.result.now c.slice-2.result.now in
    let is : IsView view = rw (c.slice.ensures.list, c.slice-2.ensures.list) c.self.invariant in
    subst (All (IsInBounds (2 ^ 63))) (sym c.of_places-rows.ensures.places) (places_fit c.args.order is)

pub new-requires-clause-few : goal.new-requires-clause-few
new-requires-clause-few g c =
    let view : View = view_of c.self.inside.start c.slice.result.now c.slice-2.result.now in
    let is : IsView view = rw (c.slice.ensures.list, c.slice-2.ensures.list) c.self.invariant in
    omega (
      arith,
      ap length c.of_places-rows.ensures.places,
      length-view_places c.args.order view,
      size_le_nonzero_size view.shape,
      is.valid.size_fits,
    )

pub returns-clause-in_order : goal.returns-clause-in_order
returns-clause-in_order g c =
    let left = λ (places : List ℤ). places in
    from_front (YieldsFirstBy pos left) pos left (λ s t h. ap length h.0) (λ s x t h. h)
