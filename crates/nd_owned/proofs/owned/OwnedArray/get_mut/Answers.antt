-- What is written at the place of an index is written at the index.
use Rattle.std.proofs.Common.{◌≡◌, true, Some, refl, sym, ap, subst, ◌∙◌}
use Rattle.std.proofs.lemmas.Option.{slice_get-get_or}
use mathlib.Core.Logic.{inl}
use Rattle.ndarray_layout.specs.Indices.{is_index}
use Rattle.nd_lent.specs.Items.{ArrayValue, item_at, with_item}
use Rattle.nd_owned.proofs.PlaceFound.{item_found, item_written, place_below, place_found}
use Rattle.nd_owned.proofs.owned.OwnedArray.get_mut.Goals as goal

pub returns-in-Some : goal.returns-in-Some
returns-in-Some g c =
    let index = g.I.NdIndex.index_list c.args.index.now in
    let place = c.in-Some.place in
    let item = c.index_mut.result.now in
    let own : ArrayValue _ = record { items = c.self.inside.items.items; view = c.self.inside.view } in
    let here = (place_found own.view index place c.in-Some.ensures).0 in
    let below = place_below own.view index place c.in-Some.ensures c.self.invariant in (
      λ i. inl (
        c.index_mut.result.ghost_name,
        λ x. (item_written own index place c.in-Some.ensures x ∙ ap (λ a. with_item a index x) c.self.view_is) i,
      ),
      record {
        writes_back = tt;
        found = (λ is. subst (λ (a : ArrayValue _). is_index a.view.shape index ≡ true) c.self.view_is here, λ is. refl);
        item = ap (λ a. item_at a index) (sym c.self.view_is) ∙ item_found own index place c.in-Some.ensures
            ∙ slice_get-get_or own.items place item below ∙ ap Some (sym c.index_mut.ensures.value);
      },
    )
