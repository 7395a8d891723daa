-- The places that follow one another have marks, and the slice has the items there.
use Rattle.std.proofs.Common.{Some, map, refl, ap, ◌∙◌}
use Rattle.nd_access.proofs.Laws.SliceOfPart.{span_marked}
use Rattle.nd_access.proofs.Laws.StretchItems.{items_of_stretch}
use Rattle.nd_lent.proofs.array_view.ArrayView.as_slice.Goals as goal

pub slice-requires : goal.slice-requires
slice-requires g c =
    let own = c.self.inside in
    let found = c.in_ok-places.ensures in
    span_marked own.reader.marks own.view c.self.invariant.marked (found.found.0 refl) c.in_ok-places.places.start
    c.in_ok-places.places.end found.start found.end

pub returns-clause-items : goal.returns-clause-items
returns-clause-items g c =
    let own = c.self.inside in
    let found = c.in_ok-places.ensures in
    let taken = c.slice.ensures.all in
    rw (← c.self.view_is)
    (ap (map Some) taken.0
    ∙ items_of_stretch own.view (found.found.0 refl) own.reader.items c.in_ok-places.places.start c.in_ok-places.places.end
    found.start found.end taken.1)
