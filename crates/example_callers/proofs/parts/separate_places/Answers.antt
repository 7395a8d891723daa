-- A number in both lists would be a place that both parts have, and then they would intersect.
use Rattle.std.proofs.lemmas.Bool.{both_ways}
use Rattle.ndarray_layout.specs.declared.Fit.TheVariants.{Strict}
use Rattle.ndarray_layout.specs.declared.Order.TheVariants.{RowMajor}
use Rattle.ndarray_layout.specs.SlicedView.{slice_of}
use Rattle.ndarray_layout.proofs.Laws.SharePlace.{AreItsPlaces, shared_place_of_lists}
use Rattle.example_callers.proofs.parts.separate_places.Goals as goal

pub returns-clause-separate : goal.returns-clause-separate
returns-clause-separate g c n here there =
    let one = slice_of Strict (g.A.SliceElems.list c.args.first.now) c.args.view.now in
    let other = slice_of Strict (g.B.SliceElems.list c.args.second.now) c.args.view.now in
    let places : AreItsPlaces one c.in_ok-first.first.items = record { order = RowMajor; same = c.in_ok-first.ensures.places } in
    let more : AreItsPlaces other c.in_ok-places_of.field-0.items = record { order = RowMajor; same = c.in_ok-places_of.ensures.places } in
    both_ways c.in_ok-meets.field-0 c.if-branch.false
    ((c.in_ok-meets.ensures.places c.requires).1 (shared_place_of_lists n places more here there))
