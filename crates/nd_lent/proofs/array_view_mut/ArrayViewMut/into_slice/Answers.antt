-- The places of a part that follow one another have marks, and the slice has the items there.
use Rattle.std.proofs.Common.{Some, map, refl, ap, ◌∙◌}
use Rattle.nd_access.proofs.Laws.SliceOfPart.{span_marked}
use Rattle.nd_access.proofs.Laws.StretchItems.{items_of_stretch}
use Rattle.nd_lent.proofs.array_view_mut.ArrayViewMut.into_slice.Goals as goal

pub take_slice-requires : goal.take_slice-requires
take_slice-requires g c =
    let own = c.args.self in
    let found = c.in-Some.ensures in
    span_marked own.cells.marks own.view own.part.marked (found.found.0 refl) c.in-Some.places.start c.in-Some.places.end
    found.start found.end

pub returns-in-Some-clause-items : goal.returns-in-Some-clause-items
returns-in-Some-clause-items g c =
    let own = c.args.self in
    let found = c.in-Some.ensures in
    let taken = c.take_slice.ensures.all in
    ap (map Some) taken.0 ∙ items_of_stretch own.view (found.found.0 refl) own.cells.items c.in-Some.places.start
    c.in-Some.places.end found.start found.end taken.3
