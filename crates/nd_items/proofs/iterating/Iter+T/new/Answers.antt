-- The places are those of the view, and all items are read.
use Rattle.std.proofs.Common.{map, ap, length, subst, sym, true, ◌∙◌}
use Rattle.std.specs.Prelude.{replicate}
use Rattle.nd_access.specs.Items.{item_at_place}
use Rattle.nd_access.specs.Read.{AreRead}
use Rattle.nd_access.proofs.Laws.Read.{all_read, places_read}
use Rattle.nd_items.proofs.iterating.Iter+T.new.Goals as goal

pub of_reader-requires : goal.of_reader-requires
of_reader-requires g c =
    let all = c.of_slice.ensures.all in
    subst (λ marks. AreRead marks (length c.of_slice.result.items) c.iter_places.result) (sym all.1)
    (subst (λ items. AreRead (replicate (length c.args.items.now) true) (length items) c.iter_places.result) (sym all.0)
    (places_read c.args.view.now (all_read c.requires) c.iter_places.ensures.items))

pub returns : goal.returns
returns g c =
    c.of_reader.ensures
    ∙ ap (λ items. map (item_at_place items) c.iter_places.result) c.of_slice.ensures.all.0
    ∙ ap (map (item_at_place c.args.items.now)) c.iter_places.ensures.items
