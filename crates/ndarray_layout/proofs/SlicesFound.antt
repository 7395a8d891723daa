-- Where all arguments fit and a view's places are distinct, two slices intersect exactly where they share a place.
use Rattle.std.proofs.Common.{◌≡◌, ℕ, None, List, sym, arith}
use Rattle.std.specs.Prelude.{IfOk, Option, Some, Result, Ok, Err}
use Rattle.std.specs.Result.{result_err}
use Rattle.nd_base.specs.declared.error.ErrorKind.{ErrorKind}
use Rattle.nd_slice.specs.declared.fit.Fit.{Fit}
use Rattle.nd_slice.specs.declared.elem.SliceInfoElem.{SliceInfoElem}
use Rattle.nd_slice.specs.IntersectingPair.{IsIntersection, slices_fault}
use Rattle.nd_slice.proofs.Laws.SliceFault.{each_fits, on_fitting}
use Rattle.ndarray_layout.specs.DistinctPlaces.{HasDistinctPlaces}
use Rattle.ndarray_layout.specs.SlicesSharePlace.{IsSharedPlace}
use Rattle.ndarray_layout.specs.View.{View, IsView}
use Rattle.ndarray_layout.proofs.Laws.SharePlace.{intersect_is_shared_place, intersect_of_shared_place}

of_found : (fit : Fit) (slices : List (List SliceInfoElem)) {view : View} (found : Option (ℕ × ℕ)) → IsView view
    → slices_fault fit view.shape slices ≡ None → HasDistinctPlaces view → IsIntersection fit view.shape slices found
    → IsSharedPlace fit view slices found
of_found fit slices {view} None v none distinct apart = λ i j d before below share.
    let fits = each_fits fit view.shape slices none in
    apart i j d before below (intersect_of_shared_place fit _ _ v (fits i d (omega (arith, before, below))) (fits j d below) distinct share)
of_found fit slices {view} (Some found) v none distinct is = (
  is.0,
  on_fitting fit view.shape slices found.0 none
      (λ one fits. on_fitting fit view.shape slices found.1 none
      (λ other also. (intersect_is_shared_place fit one other v fits also distinct).0)) is.1,
)

pub by_places : (fit : Fit) (slices : List (List SliceInfoElem)) {view : View} (answer : Result (Option (ℕ × ℕ)) ErrorKind) → IsView view
    → result_err answer ≡ slices_fault fit view.shape slices → IfOk answer (λ found. IsIntersection fit view.shape slices found)
    → IfOk answer (λ found. HasDistinctPlaces view → IsSharedPlace fit view slices found)
by_places fit slices (Ok found) v fault is = λ distinct. of_found fit slices found v (sym fault) distinct is
by_places fit slices (Err kind) v fault is = tt
