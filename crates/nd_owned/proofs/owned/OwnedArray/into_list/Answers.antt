-- Places that follow one another are a range of the list; others are taken one by one.
use Rattle.std.proofs.Common.{refl, arith, length, map, Some, ap, subst, sym, ◌∙◌}
use Rattle.std.proofs.lemmas.Bool.{false≢true}
use Rattle.ndarray_layout.specs.declared.Order.TheVariants.{RowMajor}
use Rattle.ndarray_layout.specs.Stretch.{IsStretch}
use Rattle.nd_lent.proofs.Laws.StretchItems.{items_of_stretch}
use Rattle.nd_owned.proofs.owned.OwnedArray.into_list.Goals as goal

pub items_between-requires-clause-from : goal.items_between-requires-clause-from
items_between-requires-clause-from g c = omega (arith, c.in-Some.ensures.start, c.in-Some.ensures.end)

pub items_between-requires-clause-to : goal.items_between-requires-clause-to
items_between-requires-clause-to g c =
    let below = c.in-Some.ensures.in_bounds (length c.self.inside.items.items) c.self.invariant.within in
    omega (arith, below)

pub items_in_order-requires : goal.items_in_order-requires
items_in_order-requires g c = c.self.invariant

pub returns-in-Some-clause-items : goal.returns-in-Some-clause-items
returns-in-Some-clause-items g c =
    let own = c.self.inside in
    let found = c.in-Some.ensures in
    let below = found.in_bounds (length own.items.items) c.self.invariant.within in
    rw (← c.self.view_is)
    (ap (map Some) c.items_between.ensures
    ∙ items_of_stretch own.view (found.found.0 refl) own.items.items c.in-Some.places.start c.in-Some.places.end found.start found.end
    (omega (arith, below, found.start, found.end)))

pub returns-clause-items : goal.returns-clause-items
returns-clause-items g c = rw (← c.self.view_is) c.items_in_order.ensures

pub returns-clause-memory : goal.returns-clause-memory
returns-clause-memory g c = λ stretch.
    absurd (false≢true (c.in-None.ensures.found.1 (subst (λ array. IsStretch RowMajor array.view) (sym c.self.view_is) stretch)))
