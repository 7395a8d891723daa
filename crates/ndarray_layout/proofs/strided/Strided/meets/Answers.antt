-- Where both arguments fit and the view's places are distinct, the slices intersect exactly where they share a place.
use Rattle.std.proofs.Common.{◌≡◌, ◌↔◌, Bool, List, sym, subst}
use Rattle.std.specs.Option.{option_or}
use Rattle.std.specs.Prelude.{IsTrue, IfOk, Result, Ok, Err}
use Rattle.std.specs.Result.{result_err}
use Rattle.nd_base.specs.declared.error.ErrorKind.{ErrorKind}
use Rattle.nd_slice.specs.declared.fit.Fit.{Fit}
use Rattle.nd_slice.specs.declared.elem.SliceInfoElem.{SliceInfoElem}
use Rattle.nd_slice.specs.SliceFault.{argument_fault}
use Rattle.nd_slice.specs.Intersect.{Intersect}
use Rattle.ndarray_layout.specs.DistinctPlaces.{HasDistinctPlaces}
use Rattle.ndarray_layout.specs.SharePlace.{SharePlace}
use Rattle.ndarray_layout.specs.SlicedView.{slice_of}
use Rattle.ndarray_layout.specs.View.{View, IsView}
use Rattle.ndarray_layout.proofs.Laws.SharePlace.{intersect_is_shared_place}
use Rattle.ndarray_layout.proofs.Laws.View.{lens_fit}
use Rattle.ndarray_layout.proofs.strided.Strided.meets.Goals as goal
use Rattle.nd_base.proofs.Laws.Options.{option_or_none}

by_places : (fit : Fit) (one other : List SliceInfoElem) {view : View} (answer : Result Bool ErrorKind) → IsView view
    → result_err answer ≡ option_or (argument_fault fit view.shape one) (argument_fault fit view.shape other)
    → IfOk answer (λ intersect. IsTrue intersect ↔ Intersect fit view.shape one other)
    → IfOk answer (λ intersect. HasDistinctPlaces view → IsTrue intersect ↔ SharePlace (slice_of fit one view) (slice_of fit other view))
by_places fit one other {view} (Ok intersect) v fault is = λ distinct.
    let fits = option_or_none (argument_fault fit view.shape one) (sym fault) in
    let places = intersect_is_shared_place fit one other v fits.0 fits.1 distinct in
    (λ true. places.0 (is.0 true), λ share. is.1 (places.1 share))
by_places fit one other (Err fault) v same is = tt

pub slices_intersect-requires : goal.slices_intersect-requires
slices_intersect-requires g c = lens_fit c.self.invariant

pub returns-clause-places : goal.returns-clause-places
returns-clause-places g c =
    let v = subst IsView c.self.view_is c.self.invariant in
    by_places c.args.fit (g.A.SliceElems.list c.args.first.now) (g.B.SliceElems.list c.args.second.now) c.slices_intersect.result v
    (rw (← c.self.view_is) c.slices_intersect.ensures.fault) (rw (← c.self.view_is) c.slices_intersect.ensures.intersect)
