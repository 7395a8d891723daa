-- The nearest view has the places of the view in another order.
use Rattle.std.proofs.Common.{map}
use Rattle.std.proofs.lemmas.List.Sorted.{IsPermutation-map, IsPermutation-refl}
use Rattle.ndarray_layout.specs.declared.Order.TheVariants.{RowMajor}
use Rattle.ndarray_layout.specs.View.{view_places}
use Rattle.nd_access.specs.Items.{item_at_place}
use Rattle.nd_access.proofs.Laws.OwnPlaces.{own_moved}
use Rattle.nd_loops.proofs.mapping.map_nearest.Goals as goal

pub map_view-requires-clause-own : goal.map_view-requires-clause-own
map_view-requires-clause-own g c = own_moved (view_places RowMajor c.args.view.now) (view_places RowMajor c.in-Some.nearest)
    c.in-Some.ensures c.requires.own

pub map_view-requires-clause-callable : goal.map_view-requires-clause-callable
map_view-requires-clause-callable g c =
    let at = item_at_place c.args.cells.now.items in
    let places = view_places RowMajor c.in-Some.nearest in
    c.requires.callable (map at places) (IsPermutation-map at places (view_places RowMajor c.args.view.now) c.in-Some.ensures)

pub map_view-requires-in-None-clause-callable : goal.map_view-requires-in-None-clause-callable
map_view-requires-in-None-clause-callable g c =
    let items = map (item_at_place c.args.cells.now.items) (view_places RowMajor c.args.view.now) in
    c.requires.callable items (IsPermutation-refl items)

pub returns-in-Some-clause-ran : goal.returns-in-Some-clause-ran
returns-in-Some-clause-ran g c = record {
  places = view_places RowMajor c.in-Some.nearest;
  each_once = c.in-Some.ensures;
  run = c.map_view.ensures.ran;
}

pub returns-in-None-clause-ran : goal.returns-in-None-clause-ran
returns-in-None-clause-ran g c =
    let all = view_places RowMajor c.args.view.now in
    record { places = all; each_once = IsPermutation-refl all; run = c.map_view-in-None.ensures.ran }
