use Rattle.std.proofs.Common.{◌≡◌, ◌^◌, pos, map, length, refl, sym, ap, subst, ◌∙◌, arith}
use Rattle.std.specs.List.{All}
use Rattle.nd_base.proofs.Laws.Definitions.{IsInBounds, size}
use Rattle.nd_base.proofs.Laws.NonzeroSize.{size_le_nonzero_size}
use Rattle.ndarray_layout.specs.View.{View, IsView, view_of, view_places}
use Rattle.ndarray_layout.proofs.Laws.Rows.{places_fit}
use Rattle.ndarray_layout.proofs.Laws.View.{item_at_flat_index, items_lie_within, length-view_places, size_fits}
use Rattle.ndarray_layout.proofs.strided.Strided.places.Goals as goal

pub product-size-requires : goal.product-size-requires
product-size-requires g c =
    rw (c.slice.ensures.list) (size_fits c.self.invariant)

pub of_places-requires : goal.of_places-requires
of_places-requires g c = rw (c.slice-shape.ensures.list, c.slice-strides.ensures.list) c.self.invariant

pub push_rows-requires : goal.push_rows-requires
push_rows-requires g c =
    let view : View = view_of c.self.inside.start c.slice-shape.result.now c.slice-strides.result.now in
    let is : IsView view = rw (c.slice-shape.ensures.list, c.slice-strides.ensures.list) c.self.invariant in
    let all = c.of_places.ensures.places in
    let count = ap length all ∙ length-view_places c.args.order view in
    let known = c.product-size.ensures ∙ ap size (c.slice.ensures.list ∙ sym c.slice-shape.ensures.list) in
    record {
      in_bounds = subst (All (IsInBounds (2 ^ 63))) (sym all) (places_fit c.args.order is);
      few = omega (arith, count, size_le_nonzero_size view.shape, is.valid.size_fits);
      room = omega (arith, count, known, c.in_ok-places.ensures.len, c.in_ok-places.ensures.exact);
    }

pub returns : goal.returns
returns g c =
    let order = c.args.order in
    let shape = g.D.Lengths.list c.self.inside.dim in
    let view : View = view_of c.self.inside.start shape (g.D.Lengths.list c.self.inside.strides) in
    let items = c.push_rows.result.items in
    let known : c.product-size.result ≡ size shape = c.product-size.ensures ∙ ap size c.slice.ensures.list in
    let same : map pos items ≡ view_places order view = rw (
      c.in_ok-places.ensures.items,
      c.of_places.ensures.places,
      c.slice-shape.ensures.list,
      c.slice-strides.ensures.list,
    ) at c.push_rows.ensures.items in
    rw (← c.self.view_is) (record {
      items = same;
      len = omega (
        arith,
        c.push_rows.ensures.len,
        c.in_ok-places.ensures.len,
        ap length c.of_places.ensures.places,
        length-view_places order (view_of c.self.inside.start c.slice-shape.result.now c.slice-strides.result.now),
        ap size c.slice-shape.ensures.list,
      );
      capacity = c.push_rows.ensures.capacity ∙ c.in_ok-places.ensures.exact ∙ known;
      at_flat_index = λ r below. item_at_flat_index order view items r same below;
      in_bounds = λ len within. items_lie_within len order view items same within;
      memory = λ none. refl;
    })
