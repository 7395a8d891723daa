-- What two of the slices in groups share, those of the list do at their positions.
use Rattle.std.proofs.Common.{◌≡◌, ℕ, ◌<◌, IfSome, Option, Some, List, length, get_or, map, max, min, refl, sym, ap, subst, ◌∙◌, arith}
use Rattle.std.specs.List.{enumerate_from}
use Rattle.std.specs.List.Sorted.{IsPermutation}
use Rattle.std.proofs.lemmas.List.{get_or_read}
use Rattle.std.proofs.lemmas.List.Sorted.{IsPermutation-refl}
use Rattle.nd_slice.specs.SlicesInGroups.{elems_at, named}
use Rattle.nd_slice.specs.declared.slices_in_groups.Grouped.{Grouped}
use Rattle.nd_slice.proofs.Definitions.{Intersect, IntersectAt, SliceInfoElem}
use Rattle.nd_slice.proofs.FirstInGroups.{in_one_group}
use Rattle.nd_slice.proofs.SlicesInGroups.{nothing}
use Rattle.nd_slice.proofs.SlicesMoved.{apart_in_list, fits_of_list, shared_in_list}
use Rattle.nd_slice.proofs.intersections_sorted.first_elems_intersection_sorted.Goals as goal

pub in_groups-requires-clause-fits : goal.in_groups-requires-clause-fits
in_groups-requires-clause-fits g c =
    let slices = map g.S.SliceElems.list c.args.slices.now in
    fits_of_list c.args.fit c.args.shape.now slices c.in_ok-items.items.items
    (subst (IsPermutation (enumerate_from 0 slices)) (sym c.in_ok-items.ensures.named) (IsPermutation-refl (enumerate_from 0 slices)))
    c.requires.fit

pub in_groups-requires-clause-in_order : goal.in_groups-requires-clause-in_order
in_groups-requires-clause-in_order g c = in_one_group c.in_ok-items.items.items c.in_ok-items.ensures.group

-- the groups hold the slices with their positions
moved : {V : Type 0} (found : Option V) (items_of : V → List Grouped) (groups : V) (all : List (ℕ × List SliceInfoElem))
    (items xs : List Grouped)
    → map named items ≡ all → found ≡ Some groups → IfSome found (λ new. IsPermutation (map named items) (map named (items_of new)))
    → xs ≡ items_of groups → IsPermutation all (map named xs)
moved found items_of groups all items xs same is known value =
    subst (λ ys. IsPermutation all (map named ys)) (sym value)
    (subst (λ ns. IsPermutation ns (map named (items_of groups))) same
    (subst (λ one. IfSome one (λ new. IsPermutation (map named items) (map named (items_of new)))) is known))

pub first_in_groups-requires-clause-fits : goal.first_in_groups-requires-clause-fits
first_in_groups-requires-clause-fits g c =
    let slices = map g.S.SliceElems.list c.args.slices.now in
    fits_of_list c.args.fit c.args.shape.now slices c.as_slice.result.now
    (moved c.in_ok-groups.field-0 (λ v. v.items) c.in-Some.groups (enumerate_from 0 slices) c.in_ok-items.items.items c.as_slice.result.now
    c.in_ok-items.ensures.named c.in-Some.is c.in_ok-groups.ensures.named c.as_slice.ensures.value) c.requires.fit

pub returns-in_default-first_in_groups : goal.returns-in_default-first_in_groups
returns-in_default-first_in_groups g c =
    let slices = map g.S.SliceElems.list c.args.slices.now in
    apart_in_list c.args.fit c.args.shape.now slices c.as_slice.result.now
    (moved c.in_ok-groups.field-0 (λ v. v.items) c.in-Some.groups (enumerate_from 0 slices) c.in_ok-items.items.items c.as_slice.result.now
    c.in_ok-items.ensures.named c.in-Some.is c.in_ok-groups.ensures.named c.as_slice.ensures.value)
    c.in_default-first_in_groups.ensures.none

pub returns : goal.returns
returns g c =
    let fit = c.args.fit in
    let shape = c.args.shape.now in
    let slices = map g.S.SliceElems.list c.args.slices.now in
    let items = c.in-Some.groups.items in
    let i = c.in-Some-first_in_groups.one in
    let j = c.in-Some-first_in_groups.other in
    let found = subst (λ xs. (i < j) × (j < length xs) × Intersect fit shape (elems_at xs i) (elems_at xs j)) c.as_slice.ensures.value
    c.in-Some-first_in_groups.ensures.some in
    let all = enumerate_from 0 slices in
    let order : IsPermutation all (map named items) =
    moved c.in_ok-groups.field-0 (λ v. v.items) c.in-Some.groups all c.in_ok-items.items.items items c.in_ok-items.ensures.named
    c.in-Some.is c.in_ok-groups.ensures.named refl in
    let one : c.index.result.now ≡ get_or items i nothing =
    get_or_read items i c.index.result.now (omega (arith, found.0, found.1)) c.index.ensures nothing in
    let other : c.index-2.result.now ≡ get_or items j nothing =
    get_or_read items j c.index-2.result.now found.1 c.index-2.ensures nothing in
    let low : c.min.result ≡ min (get_or items i nothing).position (get_or items j nothing).position =
    c.min.ensures ∙ ap (λ (x : Grouped). min x.position c.index-2.result.now.position) one
    ∙ ap (λ (x : Grouped). min (get_or items i nothing).position x.position) other in
    let high : c.max.result ≡ max (get_or items i nothing).position (get_or items j nothing).position =
    c.max.ensures ∙ ap (λ (x : Grouped). max x.position c.index-2.result.now.position) one
    ∙ ap (λ (x : Grouped). max (get_or items i nothing).position x.position) other in
    subst (λ n. IntersectAt fit shape slices n c.max.result) (sym low)
    (subst (IntersectAt fit shape slices (min (get_or items i nothing).position (get_or items j nothing).position)) (sym high)
    (shared_in_list fit shape slices items order i j found.0 found.1 found.2))
