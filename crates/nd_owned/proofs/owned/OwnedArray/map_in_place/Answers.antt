-- The part has the array's items by the view of the slice.
use Rattle.std.proofs.Common.{MutBor, rules, None, List, ◌≡◌, subst, sym, ◌++◌, length, take, drop, ◌∙◌}
use Rattle.std.proofs.lemmas.List.{take_at}
use Rattle.std.specs.Fn.{CalledAtMut, Mut}
use Rattle.ndarray_layout.specs.declared.SliceInfoElem.{SliceInfoElem}
use Rattle.ndarray_layout.specs.SlicedView.{slice_of}
use Rattle.ndarray_layout.specs.View.{View}
use Rattle.std.specs.Option.{option_map}
use Rattle.ndarray_layout.specs.declared.Fit.TheVariants.{Strict}
use Rattle.ndarray_layout.specs.SliceFault.{argument_fault}
use Rattle.nd_lent.specs.HasItems.{HasItemsOf, KeepsSpare}
use Rattle.nd_lent.specs.Mapped.{CallableOnEachMut, CallsMake, part_of, row_major_items}
use Rattle.nd_lent.specs.Items.{item_at}
use Rattle.nd_lent.proofs.Laws.OwnedViews.{owned_descendant}
use Rattle.nd_lent.specs.Items.{ArrayValue}
use Rattle.nd_owned.proofs.owned.OwnedArray.map_in_place.Goals as goal

-- a part of an array has the array's items by the view of a slice
at_part : {T : Type 0} (P : ArrayValue T → ArrayValue T → Type 0) (slice : List SliceInfoElem) {array entry : ArrayValue T} {view : View}
    {stored now : List T} → array ≡ entry → view ≡ slice_of Strict slice array.view → now ≡ stored
    → P (record { items = array.items; view = view }) (record { items = stored; view = view })
    → P (part_of slice entry) (part_of slice (record { items = now; view = array.view }))
at_part P slice {array} {entry} {view} {stored} {now} same sliced all holds =
    subst (λ a. P (part_of slice a) (part_of slice (record { items = now; view = array.view }))) same
    (subst (λ items. P (part_of slice array) (part_of slice (record { items = items; view = array.view }))) (sym all)
    (subst (λ v. P (record { items = array.items; view = v }) (record { items = stored; view = v })) sliced holds))

part_callable : {F T : Type 0} {g : Mut F (MutBor T × Unit {0}) (Unit {0} × (MutBor T × Unit {0}))} {f : F} (slice : List SliceInfoElem)
    {array entry : ArrayValue T} {view : View} → array ≡ entry → view ≡ slice_of Strict slice array.view
    → CallableOnEachMut g (row_major_items (part_of slice entry)) f
    → CallableOnEachMut g (row_major_items (record { items = array.items; view = view })) f
part_callable {g = g} {f} slice {array} same sliced callable =
    subst (λ v. CallableOnEachMut g (row_major_items (record { items = array.items; view = v })) f) (sym sliced)
    (subst (λ a. CallableOnEachMut g (row_major_items (part_of slice a)) f) (sym same) callable)

pub map_view-requires-clause-owned : goal.map_view-requires-clause-owned
map_view-requires-clause-owned g c = rw (c.as_mut_slice.ensures.value) (owned_descendant _ c.in_ok-part.ensures.kept c.self.invariant)

pub map_view-requires-clause-callable : goal.map_view-requires-clause-callable
map_view-requires-clause-callable g c =
    let slice = g.S.SliceElems.list c.args.slices.now in
    let none : argument_fault Strict c.args.self.now.view.shape slice ≡ None = search rules in
    rw (c.as_mut_slice.ensures.value) (part_callable slice c.self.view_is c.in_ok-part.ensures.sliced (c.requires none))

pub returns-clause-ran : goal.returns-clause-ran
returns-clause-ran g c =
    let items = c.self.inside.items in
    let stored = c.map_view.new.stored in
    let now : take items.len (stored ++ drop (length stored) items.items) ≡ stored =
    take_at stored (drop (length stored) items.items) items.len (c.map_view.auto.stored ∙ c.as_mut_slice.ensures.len) in
    let slice = g.S.SliceElems.list c.args.slices.now in
    at_part (λ old new. CallsMake (λ p x y q. CalledAtMut g.F.FnMut p x tt q y) c.args.f (row_major_items old) (row_major_items new))
    slice c.self.view_is c.in_ok-part.ensures.sliced now (rw (c.as_mut_slice.ensures.value) at c.map_view.ensures.ran)

pub returns-clause-mapped : goal.returns-clause-mapped
returns-clause-mapped g c = λ h acts.
    let items = c.self.inside.items in
    let stored = c.map_view.new.stored in
    let now : take items.len (stored ++ drop (length stored) items.items) ≡ stored =
    take_at stored (drop (length stored) items.items) items.len (c.map_view.auto.stored ∙ c.as_mut_slice.ensures.len) in
    let slice = g.S.SliceElems.list c.args.slices.now in
    at_part (λ old new. HasItemsOf (λ index. option_map h (item_at old index)) old new)
    slice c.self.view_is c.in_ok-part.ensures.sliced now (rw (c.as_mut_slice.ensures.value) at c.map_view.ensures.mapped h acts)

pub returns-clause-spare : goal.returns-clause-spare
returns-clause-spare g c =
    let items = c.self.inside.items in
    let stored = c.map_view.new.stored in
    let now : take items.len (stored ++ drop (length stored) items.items) ≡ stored =
    take_at stored (drop (length stored) items.items) items.len (c.map_view.auto.stored ∙ c.as_mut_slice.ensures.len) in
    let slice = g.S.SliceElems.list c.args.slices.now in
    at_part KeepsSpare slice c.self.view_is c.in_ok-part.ensures.sliced now (rw (c.as_mut_slice.ensures.value) at c.map_view.ensures.spare)
