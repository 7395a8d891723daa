-- Laws of views with a place in common: two slices of a view share a place where they intersect, and on a view whose places are distinct
-- only there; the lists of the places of views that share none have no number in common.
use Rattle.std.proofs.Common.{◌≡◌, ◌↔◌, ℕ, ◌<◌, pos, true, None, List, [], length, map, get_or, sym, ap, ◌∙◌, arith}
use Rattle.std.proofs.lemmas.List.{get_or-map, length-map}
use Rattle.std.specs.List.{Contains}
use Rattle.nd_base.specs.declared.order.Order.{Order}
use Rattle.nd_base.specs.Indices.{is_index, indices_in}
use Rattle.nd_base.proofs.Laws.Indices.{All-indices_in}
use Rattle.nd_slice.specs.declared.fit.Fit.{Fit}
use Rattle.nd_slice.specs.declared.elem.SliceInfoElem.{SliceInfoElem}
use Rattle.nd_slice.specs.SliceFault.{argument_fault}
use Rattle.nd_slice.specs.Intersect.{Intersect}
use Rattle.nd_slice.specs.Selected.{selected}
use Rattle.nd_slice.proofs.Laws.Intersect.{intersect_of_sources, sources_of_intersect}
use Rattle.ndarray_layout.specs.DistinctPlaces.{HasDistinctPlaces}
use Rattle.ndarray_layout.specs.SharePlace.{SharePlace}
use Rattle.ndarray_layout.specs.SlicedView.{slice_of}
use Rattle.ndarray_layout.specs.View.{View, IsView, place_at, view_places}
use Rattle.ndarray_layout.proofs.Laws.SlicedView.{Descends-slice_of}

-- the order of two views does not matter
pub share_place_symmetric : (one other : View) → SharePlace one other → SharePlace other one
share_place_symmetric one other share = ((share.2).0, (share.2).1, (share.0, share.1, sym (share.2).2))

-- two arguments that fit a view
module _ (fit : Fit) (one other : List SliceInfoElem) {view : View} (v : IsView view) (fits : argument_fault fit view.shape one ≡ None)
    (also : argument_fault fit view.shape other ≡ None) where
  -- where no two indices of the view share a place, slices that share one intersect
  pub intersect_of_shared_place : HasDistinctPlaces view → SharePlace (slice_of fit one view) (slice_of fit other view)
      → Intersect fit view.shape one other
  intersect_of_shared_place distinct share =
      let first = (Descends-slice_of fit one view v fits).places share.0 share.1 in
      let second = (Descends-slice_of fit other view v also).places (share.2).0 (share.2).1 in
      intersect_of_sources fit view.shape one other fits (record {
        index = share.0;
        within = share.1;
        at = (share.2).0;
        at_within = (share.2).1;
        same = distinct (selected fit one view.shape share.0) (selected fit other view.shape (share.2).0) first.0 second.0
            (sym first.1 ∙ (share.2).2 ∙ second.1);
      })

  -- slices that intersect share a place, whatever the view
  pub shared_place_of_intersect : Intersect fit view.shape one other → SharePlace (slice_of fit one view) (slice_of fit other view)
  shared_place_of_intersect intersect =
      let share = sources_of_intersect fit view.shape one other fits also intersect in
      let first = (Descends-slice_of fit one view v fits).places share.index share.within in
      let second = (Descends-slice_of fit other view v also).places share.at share.at_within in
      (share.index, share.within, (share.at, share.at_within, first.1 ∙ ap (place_at view) share.same ∙ sym second.1))

  -- so there slices intersect exactly where they share a place
  pub intersect_is_shared_place : HasDistinctPlaces view
      → Intersect fit view.shape one other ↔ SharePlace (slice_of fit one view) (slice_of fit other view)
  intersect_is_shared_place distinct = (shared_place_of_intersect, intersect_of_shared_place distinct)

-- a list of numbers that are the places of a view
pub record AreItsPlaces (view : View) (items : List ℕ) : Type 0 where
  pub order : Order
  pub same : map pos items ≡ view_places order view

-- each is the place of an index
pub record IsPlaceOf (view : View) (n : ℕ) : Type 0 where
  pub index : List ℕ
  pub within : is_index view.shape index ≡ true
  pub at : place_at view index ≡ pos n

pub listed_place : {view : View} {items : List ℕ} (n : ℕ) → AreItsPlaces view items → Contains items n → IsPlaceOf view n
listed_place {view} {items} n are here =
    let indices = indices_in are.order view.shape in
    let long : length items ≡ length indices =
    omega (arith, length-map items pos, ap length are.same, length-map indices (place_at view)) in
    let below : here.0 < length indices = omega (arith, here.1) in
    record {
      index = get_or indices here.0 [];
      within = All-indices_in are.order view.shape here.0 [] below;
      at =
          sym (get_or-map (place_at view) indices here.0 [] (pos n) below)
          ∙ ap (λ places. get_or places here.0 (pos n)) (sym are.same)
          ∙ get_or-map pos items here.0 n (pos n) here.1
          ∙ ap pos here.2;
    }

-- views that share no place have no number in both of their lists of places
pub shared_place_of_lists : {one other : View} {items more : List ℕ} (n : ℕ) → AreItsPlaces one items → AreItsPlaces other more
    → Contains items n → Contains more n → SharePlace one other
shared_place_of_lists n are also here there =
    let first = listed_place n are here in
    let second = listed_place n also there in
    (first.index, first.within, (second.index, second.within, first.at ∙ sym second.at))
