-- The nearest views have the places of both, in another order, alike.
use Rattle.std.proofs.Common.{◌≡◌, ℤ, true, List, length, map, refl, sym, ap, subst, ◌∙◌}
use Rattle.std.specs.List.{All}
use Rattle.std.specs.List.Sorted.{IsPermutation}
use Rattle.std.proofs.lemmas.List.Sorted.{All-permutation, IsPermutation-refl, IsPermutation-sym}
use Rattle.ndarray_layout.specs.declared.Order.TheVariants.{RowMajor}
use Rattle.ndarray_layout.specs.Bounds.{IsInBounds}
use Rattle.ndarray_layout.specs.Indices.{is_index}
use Rattle.ndarray_layout.specs.Nearest.{pairs_of_places}
use Rattle.ndarray_layout.specs.Size.{size}
use Rattle.ndarray_layout.specs.View.{View, view_places}
use Rattle.ndarray_layout.proofs.Laws.View.{length-view_places, places_lie_within}
use Rattle.nd_access.specs.HasItems.{HasItemsOf}
use Rattle.nd_access.specs.Items.{ArrayValue, item_at, item_at_place}
use Rattle.nd_access.specs.Part.{has_mark}
use Rattle.nd_access.specs.Written.{HasSet}
use Rattle.nd_access.proofs.Laws.IndexItems.{items_at}
use Rattle.nd_access.proofs.Laws.OwnPlaces.{own_moved, own_of_part}
use Rattle.nd_access.proofs.Laws.Read.{places_marked}
use Rattle.nd_access.proofs.Laws.Sets.{All-indices, has_items}
use Rattle.nd_loops.proofs.Laws.Moved.{AreAlike, alike_moved, first_moved, second_moved}
use Rattle.nd_lent.specs.Lent.{array_of}
use Rattle.nd_lent.proofs.PartMaps.{changed}
use Rattle.nd_lent.proofs.array_view_mut.ArrayViewMut.copy_items.Given.{Over}
use Rattle.nd_lent.proofs.array_view_mut.ArrayViewMut.copy_items.Goals as goal
use Rattle.nd_lent.proofs.array_view_mut.ArrayViewMut.copy_items.Goals.{In-Some}

-- what is set at the places of the same indices of both
copied : {T : Type 0} (old : ArrayValue T) (new : List T) (other : ArrayValue T) → old.view.shape ≡ other.view.shape
    → {places others : List ℤ} → AreAlike old.view other.view places others
    → HasSet places (map (item_at_place other.items) others) old.items new → HasItemsOf (item_at other) old (changed old new)
copied old new other same {places} alike set =
    let here = All-indices old.view.shape alike.indices alike.once in
    has_items (item_at other) alike.indices alike.once refl
    (subst (λ places. HasSet places (map (item_at other) alike.indices) old.items new) alike.first
    (subst (λ given. HasSet places given old.items new)
    (ap (map (item_at_place other.items)) alike.second
    ∙ items_at other alike.indices (subst (λ shape. All (λ index. is_index shape index ≡ true) alike.indices) same here)) set))

-- the places of both views, alike
alike : (view other nearest beside : View) → view.shape ≡ other.shape → nearest.shape ≡ beside.shape
    → IsPermutation (pairs_of_places nearest beside) (pairs_of_places view other)
    → AreAlike view other (view_places RowMajor nearest) (view_places RowMajor beside)
alike view other nearest beside same shape moved =
    alike_moved view other same (view_places RowMajor nearest) (view_places RowMajor beside)
    (length-view_places RowMajor beside ∙ ap size (sym shape) ∙ sym (length-view_places RowMajor nearest)) moved

both : (g : Over) (c : In-Some g) → AreAlike c.args.self.now.view c.args.other.now.view (view_places RowMajor c.in-Some.nearest)
    (view_places RowMajor c.in-Some.beside)
both g c =
    alike c.args.self.now.view c.args.other.now.view c.in-Some.nearest c.in-Some.beside c.requires c.in-Some.ensures.shape
    (subst (λ other. IsPermutation (pairs_of_places c.in-Some.nearest c.in-Some.beside) (pairs_of_places c.args.self.now.view other))
    c.strided.ensures.view c.in-Some.ensures.places)

pub copy_view-requires-clause-own : goal.copy_view-requires-clause-own
copy_view-requires-clause-own g c =
    let at = (goal.at.copy_view-requires-clause-own g c).In-Some in
    own_moved (view_places RowMajor c.args.self.now.view) (view_places RowMajor c.in-Some.nearest) (first_moved (both g at))
    (own_of_part c.args.self.now.cells.marks c.args.self.now.view c.args.self.now.part)

-- what holds at the places of the other view does at those of the nearest one
beside : (g : Over) (c : In-Some g) (P : ℤ → Type 0) → All P (view_places RowMajor c.args.other.now.view)
    → All P (view_places RowMajor c.in-Some.beside)
beside g c P =
    let all = view_places RowMajor c.args.other.now.view in
    let others = view_places RowMajor c.in-Some.beside in
    All-permutation P all others (IsPermutation-sym others all (second_moved (both g c) c.requires))

pub copy_view-requires-clause-items : goal.copy_view-requires-clause-items
copy_view-requires-clause-items g c =
    beside g (goal.at.copy_view-requires-clause-items g c).In-Some (IsInBounds (length c.reader.result.items))
    (places_lie_within (length c.reader.result.items) RowMajor c.args.other.now.view c.reader.ensures.read.has.within)

pub copy_view-requires-clause-marked : goal.copy_view-requires-clause-marked
copy_view-requires-clause-marked g c =
    beside g (goal.at.copy_view-requires-clause-marked g c).In-Some (λ place. has_mark c.reader.result.marks place ≡ true)
    (places_marked c.reader.result.marks RowMajor c.args.other.now.view c.reader.ensures.read.marked)

pub copy_view-requires-in-None-clause-own : goal.copy_view-requires-in-None-clause-own
copy_view-requires-in-None-clause-own g c = own_of_part c.args.self.now.cells.marks c.args.self.now.view c.args.self.now.part

pub copy_view-requires-in-None-clause-items : goal.copy_view-requires-in-None-clause-items
copy_view-requires-in-None-clause-items g c =
    rw c.strided-source.ensures.view
    (places_lie_within (length c.reader-in-None.result.items) RowMajor c.args.other.now.view c.reader-in-None.ensures.read.has.within)

pub copy_view-requires-in-None-clause-marked : goal.copy_view-requires-in-None-clause-marked
copy_view-requires-in-None-clause-marked g c =
    rw c.strided-source.ensures.view
    (places_marked c.reader-in-None.result.marks RowMajor c.args.other.now.view c.reader-in-None.ensures.read.marked)

pub returns-in-Some-clause-copied : goal.returns-in-Some-clause-copied
returns-in-Some-clause-copied g c =
    let at = (goal.at.returns-in-Some-clause-copied g c).In-Some in
    let new = c.copy_view.new.cells.items in
    copied (array_of c.args.self.now) new c.args.other.now c.requires (both g at)
    (subst (λ items. HasSet (view_places RowMajor c.in-Some.nearest) (map (item_at_place items) (view_places RowMajor c.in-Some.beside))
    c.args.self.now.cells.items new) c.reader.ensures.items c.copy_view.ensures.copied)

pub returns-in-None-clause-copied : goal.returns-in-None-clause-copied
returns-in-None-clause-copied g c =
    let view = c.args.self.now.view in
    let other = c.args.other.now in
    let old = c.args.self.now.cells.items in
    let new = c.copy_view-in-None.new.cells.items in
    let source = c.strided-source.result.now in
    copied (array_of c.args.self.now) new other c.requires
    (alike view other.view view other.view c.requires c.requires (IsPermutation-refl (pairs_of_places view other.view)))
    (subst (λ source. HasSet (view_places RowMajor view) (map (item_at_place other.items) (view_places RowMajor source)) old new)
    c.strided-source.ensures.view
    (subst (λ items. HasSet (view_places RowMajor view) (map (item_at_place items) (view_places RowMajor source)) old new)
    c.reader-in-None.ensures.items c.copy_view-in-None.ensures.copied))
