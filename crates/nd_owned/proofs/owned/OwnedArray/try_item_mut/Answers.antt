-- The place of an index is one of the items', and the slice of it alone has the item that lies there.
use Rattle.std.proofs.Common.{◌≡◌, ℕ, zero, suc, ◌<◌, true, false, Some, List, [], ◌∷◌, get_or, length, take, drop, arith}
use Rattle.std.proofs.Common.{refl, sym, ap, ◌∙◌}
use Rattle.std.specs.Prelude.{slice_get}
use Rattle.std.proofs.lemmas.List.{get_or-replicate}
use Rattle.nd_access.proofs.Laws.SliceOfPart.{mark_in_bounds}
use Rattle.nd_access.proofs.Laws.SwappedCells.{one_within}
use Rattle.nd_lent.specs.Items.{ArrayValue, item_at}
use Rattle.nd_owned.proofs.PlaceFound.{item_found, place_below}
use Rattle.nd_owned.proofs.owned.OwnedArray.try_item_mut.Goals as goal

-- the first item from a place on is that at the place
first_from : {T : Type 0} (items : List T) (place : ℕ) (d : T) → place < length items
    → slice_get items place ≡ Some (get_or (take 1 (drop place items)) 0 d)
first_from [] place d below = absurd (let no : ⊥ = omega (arith, below) in no)
first_from (x ∷ items) zero d below = refl
first_from (x ∷ items) (suc place) d below = first_from items place d (omega (arith, below))

pub take_slice-alone-requires : goal.take_slice-alone-requires
take_slice-alone-requires g c =
    let marks = c.all_of.result.marks in
    let place = c.in-Some.place in
    let count = length c.as_mut_slice.result.now in
    let below : place < count = rw (c.as_mut_slice.ensures.value)
    (place_below c.self.inside.view (g.I.NdIndex.index_list c.args.index.now) place c.in-Some.ensures c.self.invariant) in
    let mine : get_or marks place false ≡ true = rw (c.all_of.ensures.all.2) (get_or-replicate count place true false below) in
    let last = mark_in_bounds marks place mine in
    (one_within marks place mine, omega (arith, last))

pub returns-in-Some-clause-item : goal.returns-in-Some-clause-item
returns-in-Some-clause-item g c =
    let index = g.I.NdIndex.index_list c.args.index.now in
    let place = c.in-Some.place in
    let item = c.index-alone-0.result in
    let own : ArrayValue _ = record { items = c.self.inside.items.items; view = c.self.inside.view } in
    let below = place_below own.view index place c.in-Some.ensures c.self.invariant in
    let alone : c.take_slice-alone.result.now ≡ take 1 (drop place own.items) =
    c.take_slice-alone.ensures.all.0 ∙ ap (λ items. take 1 (drop place items)) (c.all_of.ensures.all.1 ∙ c.as_mut_slice.ensures.value) in
    ap (λ a. item_at a index) (sym c.self.view_is)
    ∙ item_found own index place c.in-Some.ensures
    ∙ first_from own.items place item below
    ∙ ap (λ items. Some (get_or items 0 item)) (sym alone)
    ∙ ap Some (sym c.index-alone-0.is)
