-- Laws of slices of a view whose places are distinct: no place is listed twice by slices of which no two share an index.
use Rattle.std.proofs.Common.{◌≡◌, ◌≢◌, ℕ, ◌<◌, ℤ, true, None, List, [], ◌∷◌, length, get_or, sym, ◌∙◌, arith}
use Rattle.std.specs.List.{All, AllPairs, Contains, flat_map}
use Rattle.std.proofs.lemmas.List.{get_or-map, length-map}
use Rattle.std.proofs.lemmas.List.Elements.{All-head, All-tail, Contains-get_or}
use Rattle.ndarray_layout.specs.declared.Fit.TheVariants.{Strict}
use Rattle.ndarray_layout.specs.declared.Order.{Order}
use Rattle.ndarray_layout.specs.declared.Order.TheVariants.{RowMajor}
use Rattle.ndarray_layout.specs.declared.SliceInfoElem.{SliceInfoElem}
use Rattle.ndarray_layout.specs.DistinctPlaces.{HasDistinctPlaces}
use Rattle.ndarray_layout.specs.Indices.{indices_in, is_index}
use Rattle.ndarray_layout.specs.IntersectingPair.{AreApart, slices_fault}
use Rattle.ndarray_layout.specs.SliceFault.{argument_fault}
use Rattle.ndarray_layout.specs.SlicedView.{slice_of}
use Rattle.ndarray_layout.specs.View.{View, IsView, place_at, view_places}
use Rattle.ndarray_layout.proofs.Laws.DistinctPlaces.{AllPairs-view_places}
use Rattle.ndarray_layout.proofs.Laws.Indices.{All-indices_in}
use Rattle.ndarray_layout.proofs.Laws.SharePlace.{intersect_of_shared_place}
use Rattle.ndarray_layout.proofs.Laws.SlicedView.{Descends-slice_of}
use Rattle.nd_lent.proofs.Laws.Faults.{slices_fit}
use Rattle.nd_access.proofs.Laws.Lists.{none_of_all, pairs_append, pairs_head, pairs_tail}

-- a place that is listed is that of an index
pub listed : (order : Order) (view : View) (place : ℤ) → Contains (view_places order view) place
    → (index : List ℕ) × (is_index view.shape index ≡ true) × (place_at view index ≡ place)
listed order view place here =
    let indices = indices_in order view.shape in
    let below : here.0 < length indices = omega (arith, length-map indices (place_at view), here.1) in (
      get_or indices here.0 [],
      All-indices_in order view.shape here.0 [] below,
      sym (get_or-map (place_at view) indices here.0 [] place
          below) ∙ here.2,
    )

-- the places of a slice, the first axis moving slowest
abbrev pub slice_places : View → List SliceInfoElem → List ℤ
slice_places view slice = view_places RowMajor (slice_of Strict slice view)

-- those of slices that share no index have none in common
no_shared_place : {view : View} (one other : List SliceInfoElem) {place : ℤ} → IsView view → HasDistinctPlaces view
    → (argument_fault Strict view.shape one ≡ None) × (argument_fault Strict view.shape other ≡ None)
    → AreApart Strict view.shape one other → Contains (slice_places view one) place × Contains (slice_places view other) place → ⊥
no_shared_place {view} one other {place} v distinct (fits, also) apart (here, there) =
    let first = listed RowMajor (slice_of Strict one view) place here in
    let second = listed RowMajor (slice_of Strict other view) place there in
    apart (intersect_of_shared_place Strict one other v fits also distinct
    (first.0, first.1, (second.0, second.1, first.2 ∙ sym second.2)))

-- a place is listed once by one slice
pub slice_distinct : (view : View) (slice : List SliceInfoElem) → IsView view → HasDistinctPlaces view
    → argument_fault Strict view.shape slice ≡ None → AllPairs (λ one other. one ≢ other) (slice_places view slice)
slice_distinct view slice v distinct fits =
    AllPairs-view_places RowMajor (slice_of Strict slice view) ((Descends-slice_of Strict slice view v fits).distinct distinct)

-- and once by all
pub slices_distinct : (view : View) (slices : List (List SliceInfoElem)) → IsView view → HasDistinctPlaces view
    → slices_fault Strict view.shape slices ≡ None → AllPairs (AreApart Strict view.shape) slices
    → AllPairs (λ one other. one ≢ other) (flat_map (slice_places view) slices)
slices_distinct view slices v distinct none apart = by slices (slices_fit view.shape slices none) apart
  where
    Fits : List SliceInfoElem → Type 0
    Fits slice = argument_fault Strict view.shape slice ≡ None

    by : (slices : List (List SliceInfoElem)) → All Fits slices → AllPairs (AreApart Strict view.shape) slices
        → AllPairs (λ one other. one ≢ other) (flat_map (slice_places view) slices)
    by [] fit apart = λ i j d earlier below. absurd (omega arith)
    by (slice ∷ slices) fit apart =
        let fits = All-head Fits slice slices fit in
        let others = All-tail Fits slice slices fit in
        let alone = pairs_head (AreApart Strict view.shape) slice slices apart in
        pairs_append (slice_places view slice) (flat_map (slice_places view) slices)
        (slice_distinct view slice v distinct fits)
        (by slices others (pairs_tail (AreApart Strict view.shape) slice slices apart))
        (λ k d below. none_of_all (slice_places view) slices (get_or (slice_places view slice) k d) (λ j other there here.
        no_shared_place slice (get_or slices j other) v distinct (fits, others j other there) (alone j other there)
        (Contains-get_or (slice_places view slice) k d below, here)))
