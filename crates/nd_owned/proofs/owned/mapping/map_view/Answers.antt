-- What the calls leave at the items of the part is what they leave at those of the list.
use Rattle.std.proofs.Common.{rules, ◌≡◌, List, subst}
use Rattle.ndarray_layout.specs.View.{View}
use Rattle.std.specs.Fn.{CalledAtMut}
use Rattle.std.specs.Option.{option_map}
use Rattle.nd_lent.specs.HasItems.{HasItemsOf}
use Rattle.nd_lent.specs.Mapped.{CallsMake, row_major_items}
use Rattle.nd_lent.specs.Items.{item_at}
use Rattle.nd_lent.specs.Items.{ArrayValue}
use Rattle.nd_owned.proofs.owned.mapping.map_view.Goals as goal

-- what holds of the part, before and after, holds of the items
at_lent : {T : Type 0} (P : ArrayValue T → ArrayValue T → Type 0) {old new : ArrayValue T} {items left : List T} {view : View}
    → old.items ≡ items → old.view ≡ view → new.items ≡ left → new.view ≡ old.view → P old new
    → P (record { items = items; view = view }) (record { items = left; view = view })
at_lent P {old} {new} {items} {left} {view} given by now same holds =
    subst (λ xs. P (record { items = items; view = view }) (record { items = xs; view = view })) now
    (subst (λ xs. P (record { items = xs; view = view }) (record { items = new.items; view = view })) given
    (subst (λ v. P (record { items = old.items; view = v }) (record { items = new.items; view = v })) by
    (subst (λ v. P old (record { items = new.items; view = v })) same holds)))

pub returns-clause-ran : goal.returns-clause-ran
returns-clause-ran g c =
    at_lent (λ old new. CallsMake (λ p x y q. CalledAtMut g.F.FnMut p x tt q y) c.args.f (row_major_items old) (row_major_items new))
    (search rules) c.lend-part.ensures.view (search rules) c.map_in_place.ensures.view c.map_in_place.ensures.ran

pub returns-clause-mapped : goal.returns-clause-mapped
returns-clause-mapped g c = λ h acts.
    at_lent (λ old new. HasItemsOf (λ index. option_map h (item_at old index)) old new)
    (search rules) c.lend-part.ensures.view (search rules) c.map_in_place.ensures.view (c.map_in_place.ensures.mapped h acts)
