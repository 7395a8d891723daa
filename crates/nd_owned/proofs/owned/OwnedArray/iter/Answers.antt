-- Each index of the view has an item, and what is left comes from its front on, in order.
use Rattle.std.proofs.Common.{List, Option, Some, ap, length, ◌∙◌}
use Rattle.std.specs.Iterator.{YieldsFirstBy}
use Rattle.std.proofs.iter.runs.Sources.{from_front}
use Rattle.std.proofs.lemmas.List.{length-map}
use Rattle.ndarray_layout.specs.declared.Order.TheVariants.{RowMajor}
use Rattle.ndarray_layout.specs.View.{view_places}
use Rattle.ndarray_layout.proofs.Laws.View.{length-view_places}
use Rattle.nd_lent.specs.Items.{item_at_place}
use Rattle.nd_owned.proofs.owned.OwnedArray.iter.Goals as goal

pub new-requires : goal.new-requires
new-requires g c =
    let owned = c.stored.ensures.owned in
    rw (c.stored.ensures.items, c.strided.ensures.view) (record { is_view = owned.is_view; within = owned.within })

pub returns-clause-count : goal.returns-clause-count
returns-clause-count g c =
    ap length (c.new-2.ensures ∙ c.new.ensures)
    ∙ length-map (view_places RowMajor c.strided.result.now) (item_at_place c.stored.result.now)
    ∙ ap (λ view. length (view_places RowMajor view)) c.strided.ensures.view
    ∙ length-view_places RowMajor c.args.self.now.view

pub returns-clause-in_order : goal.returns-clause-in_order
returns-clause-in_order g c =
    let left = λ (items : List (Option g.row.T.Denot)). items in
    let shown = λ (item : g.row.T.Denot). Some item in
    from_front (YieldsFirstBy shown left) shown left (λ s t h. ap length h.0) (λ s x t h. h)
