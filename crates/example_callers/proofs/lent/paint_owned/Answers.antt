-- The list has as many items as before, and so it is what the lent array leaves.
use Rattle.std.proofs.Common.{◌≡◌, ◌++◌, length, take, drop, Some, ap, subst, sym, ◌∙◌}
use Rattle.std.proofs.lemmas.List.{take_at}
use Rattle.nd_owned.specs.HasItems.{HasItemsOf}
use Rattle.example_callers.proofs.lent.paint_owned.Goals as goal

pub returns : goal.returns
returns c =
    let array = c.args.picture.now in
    let stored = c.paint_view.new.pixels in
    let now : take (length array.items) (stored ++ drop (length stored) array.items) ≡ stored =
    take_at stored (drop (length stored) array.items) (length array.items)
    (c.paint_view.auto.pixels ∙ ap length c.stored_mut.ensures.items) in
    let seen = c.in_ok-view.view in
    subst (λ items. HasItemsOf (λ index. Some c.args.pixel) array (record { items = items; view = array.view })) (sym now)
    (subst (λ view. HasItemsOf (λ index. Some c.args.pixel) (record { items = array.items; view = view })
    (record { items = stored; view = view }))
    (c.in_ok-view.ensures.view ∙ c.strided.ensures.view)
    (subst (λ items. HasItemsOf (λ index. Some c.args.pixel) (record { items = items; view = seen })
    (record { items = stored; view = seen }))
    c.stored_mut.ensures.items c.paint_view.ensures))
