-- Each place of the view has an item that is left, and no place comes twice.
use Rattle.std.proofs.Common.{◌≢◌, ◌++◌, Some, length, map, sym, ap, subst, ◌∙◌, arith}
use Rattle.std.specs.List.{All, AllPairs}
use Rattle.ndarray_layout.specs.Bounds.{IsInBounds}
use Rattle.ndarray_layout.specs.declared.Order.TheVariants.{RowMajor}
use Rattle.ndarray_layout.proofs.Laws.DistinctPlaces.{AllPairs-view_places}
use Rattle.ndarray_layout.proofs.Laws.View.{length-view_places, places_lie_within}
use Rattle.nd_lent.specs.Items.{item_at_place}
use Rattle.nd_owned.specs.private.Left.{left_at}
use Rattle.nd_owned.proofs.Left.{all_own, all_there}
use Rattle.nd_owned.proofs.owned.taking.items_in_order.Goals as goal

pub take_items-list-requires-clause-left : goal.take_items-list-requires-clause-left
take_items-list-requires-clause-left g c =
    let items = c.args.items.items in
    let within = subst (All (IsInBounds (length items))) (sym c.iter_places-places.ensures.items)
    (places_lie_within (length items) RowMajor c.args.view.now c.requires.within) in
    rw (c.as_mut_slice.ensures.value) (all_there items c.in_ok-left.ensures c.iter_places-places.result within)

pub take_items-list-requires-clause-distinct : goal.take_items-list-requires-clause-distinct
take_items-list-requires-clause-distinct g c =
    subst (AllPairs (λ one other. one ≢ other)) (sym c.iter_places-places.ensures.items)
    (AllPairs-view_places RowMajor c.args.view.now c.requires.distinct)

pub take_items-list-requires-clause-room : goal.take_items-list-requires-clause-room
take_items-list-requires-clause-room g c = omega (
  arith,
  ap length c.iter_places-places.ensures.items,
  length-view_places RowMajor c.args.view.now,
  c.len.ensures.size,
  c.in_ok-taken.ensures.len,
  c.in_ok-taken.ensures.exact,
)

pub returns : goal.returns
returns g c =
    let items = c.args.items.items in
    let taken = rw (c.as_mut_slice.ensures.value) at c.take_items-list.ensures in
    taken ∙ ap (λ items. map Some items ++ map (left_at c.in_ok-left.left.items) c.iter_places-places.result) c.in_ok-taken.ensures.items
    ∙ all_own items c.in_ok-left.ensures c.iter_places-places.result
    ∙ ap (map (item_at_place items)) c.iter_places-places.ensures.items
