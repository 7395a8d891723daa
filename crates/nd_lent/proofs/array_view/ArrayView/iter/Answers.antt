-- Each place of the view is in bounds of the items, and what is left comes from its front on, in order.
use Rattle.std.proofs.Common.{List, Option, Some, ap, length, map, ◌∙◌, Bor}
use Rattle.std.specs.Iterator.{YieldsFirstBy}
use Rattle.std.proofs.iter.runs.Sources.{from_front}
use Rattle.std.proofs.lemmas.List.{length-map}
use Rattle.ndarray_layout.specs.declared.Order.TheVariants.{RowMajor}
use Rattle.ndarray_layout.proofs.Laws.View.{length-view_places}
use Rattle.nd_access.specs.Items.{item_at_place}
use Rattle.nd_access.proofs.Laws.ItemPlaces.{all_places}
use Rattle.nd_access.proofs.Laws.Read.{places_read}
use Rattle.nd_lent.proofs.array_view.ArrayView.iter.Goals as goal

pub of_reader-requires : goal.of_reader-requires
of_reader-requires g c =
    places_read c.args.self.now.view c.reader.ensures.read (all_places c.iter_places.ensures.items c.strided.ensures.view)

pub returns-clause-items : goal.returns-clause-items
returns-clause-items g c =
    c.of_reader.ensures
    ∙ ap (λ items. map (item_at_place items) c.iter_places.result) c.reader.ensures.items
    ∙ ap (map (item_at_place c.args.self.now.items)) (all_places c.iter_places.ensures.items c.strided.ensures.view)

pub returns-clause-count : goal.returns-clause-count
returns-clause-count g c =
    ap length c.of_reader.ensures
    ∙ length-map c.iter_places.result (item_at_place c.reader.result.items)
    ∙ ap length (all_places c.iter_places.ensures.items c.strided.ensures.view)
    ∙ length-view_places RowMajor c.args.self.now.view

pub returns-clause-in_order : goal.returns-clause-in_order
returns-clause-in_order g c =
    let left = λ (items : List (Option g.row.T.Denot)). items in
    let shown = λ (item : Bor g.row.T.Denot). Some item.now in
    from_front (YieldsFirstBy shown left) shown left (λ s t h. ap length h.0) (λ s x t h. h)
