-- The nearest views have the places of the views, in another order, alike.
use Rattle.std.proofs.Common.{◌≡◌, true, length, map, sym, ap, subst, ◌∙◌}
use Rattle.std.proofs.lemmas.List.Sorted.{All-permutation, IsPermutation-refl, IsPermutation-sym}
use Rattle.ndarray_layout.specs.declared.Order.TheVariants.{RowMajor}
use Rattle.ndarray_layout.specs.Bounds.{IsInBounds}
use Rattle.ndarray_layout.specs.Size.{size}
use Rattle.ndarray_layout.specs.View.{place_at, view_places}
use Rattle.ndarray_layout.proofs.Laws.View.{length-view_places}
use Rattle.nd_access.specs.Items.{item_at_place}
use Rattle.nd_access.specs.Part.{has_mark}
use Rattle.nd_access.specs.Written.{Maps}
use Rattle.nd_access.specs.Zipped.{CalledAtPair, pairs_of}
use Rattle.nd_access.specs.Pairs.{view_pairs}
use Rattle.nd_access.proofs.Laws.OwnPlaces.{own_moved}
use Rattle.nd_loops.proofs.Laws.Moved.{AreAlike, alike_moved, first_moved, second_moved}
use Rattle.nd_loops.proofs.Laws.PairMaps.{pairs_moved, zips_in_order}
use Rattle.nd_loops.proofs.pairs.zip_nearest.Given.{Over}
use Rattle.nd_loops.proofs.pairs.zip_nearest.Goals as goal
use Rattle.nd_loops.proofs.pairs.zip_nearest.Goals.{In-Some}

-- the places of both views, alike
both : (g : Over) (c : In-Some g) → AreAlike c.args.view.now c.args.source.now (view_places RowMajor c.in-Some.nearest)
    (view_places RowMajor c.in-Some.beside)
both g c =
    let places = view_places RowMajor c.in-Some.nearest in
    let others = view_places RowMajor c.in-Some.beside in
    alike_moved c.args.view.now c.args.source.now c.requires.shape places others
    (length-view_places RowMajor c.in-Some.beside ∙ ap size (sym c.in-Some.ensures.shape)
    ∙ sym (length-view_places RowMajor c.in-Some.nearest)) c.in-Some.ensures.places

pub zip_view-requires-clause-own : goal.zip_view-requires-clause-own
zip_view-requires-clause-own g c =
    let at = (goal.at.zip_view-requires-clause-own g c).In-Some in
    own_moved (view_places RowMajor c.args.view.now) (view_places RowMajor c.in-Some.nearest) (first_moved (both g at)) c.requires.own

pub zip_view-requires-clause-items : goal.zip_view-requires-clause-items
zip_view-requires-clause-items g c =
    let at = (goal.at.zip_view-requires-clause-items g c).In-Some in
    let all = view_places RowMajor c.args.source.now in
    let others = view_places RowMajor c.in-Some.beside in
    rw c.lent.ensures.same
    (All-permutation (IsInBounds (length c.args.items.now.items)) all others
    (IsPermutation-sym others all (second_moved (both g at) c.requires.shape)) c.requires.items)

pub zip_view-requires-clause-marked : goal.zip_view-requires-clause-marked
zip_view-requires-clause-marked g c =
    let at = (goal.at.zip_view-requires-clause-marked g c).In-Some in
    let all = view_places RowMajor c.args.source.now in
    let others = view_places RowMajor c.in-Some.beside in
    rw c.lent.ensures.same
    (All-permutation (λ place. has_mark c.args.items.now.marks place ≡ true) all others
    (IsPermutation-sym others all (second_moved (both g at) c.requires.shape)) c.requires.marked)

pub zip_view-requires-clause-callable : goal.zip_view-requires-clause-callable
zip_view-requires-clause-callable g c =
    let old = c.args.cells.now.items in
    let others = c.args.items.now.items in
    rw c.lent.ensures.same
    (c.requires.callable (view_pairs old c.in-Some.nearest others c.in-Some.beside)
    (pairs_moved old others c.args.view.now c.args.source.now c.in-Some.nearest c.in-Some.beside c.in-Some.ensures.places))

pub zip_view-requires-in-None-clause-callable : goal.zip_view-requires-in-None-clause-callable
zip_view-requires-in-None-clause-callable g c =
    let pairs = view_pairs c.args.cells.now.items c.args.view.now c.args.items.now.items c.args.source.now in
    rw c.lent-in-None.ensures.same (c.requires.callable pairs (IsPermutation-refl pairs))

pub returns-in-Some-clause-ran : goal.returns-in-Some-clause-ran
returns-in-Some-clause-ran g c =
    let at = (goal.at.returns-in-Some-clause-ran g c).In-Some in
    let all = both g at in
    let old = c.args.cells.now.items in
    let new = c.zip_view.new.cells.items in
    let call = CalledAtPair g.F.FnMut in
    let items = c.lent.result.items in
    let others = map (item_at_place items) (view_places RowMajor c.in-Some.beside) in
    let places = map (place_at c.args.view.now) all.indices in
    rw (← c.lent.ensures.same) (record {
      indices = all.indices;
      each_once = all.once;
      run = subst (λ others. Maps call c.args.f places
          (pairs_of (map (item_at_place old) places) (map (item_at_place items) others)) old new) all.second
          (subst (λ places. Maps call c.args.f places (pairs_of (map (item_at_place old) places) others) old new) all.first
          c.zip_view.ensures.ran);
    })

pub returns-in-None-clause-ran : goal.returns-in-None-clause-ran
returns-in-None-clause-ran g c =
    rw (← c.lent-in-None.ensures.same) (zips_in_order c.requires.shape c.zip_view-in-None.ensures.ran)
