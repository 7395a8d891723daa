-- The places that follow one another have marks, and the slice has the items there; else the items are folded one by one.
use Rattle.std.proofs.Common.{◌≡◌, ◌∙◌, Some, ap, map, refl, subst, sym}
use Rattle.std.specs.Iterator.{CallableInFold}
use Rattle.nd_access.specs.Folded.{HasFoldedMut}
use Rattle.nd_access.specs.Items.{items_of}
use Rattle.nd_access.specs.Lending.{lends_mut}
use Rattle.nd_access.proofs.Laws.SliceOfPart.{span_marked}
use Rattle.nd_access.proofs.Laws.StretchItems.{items_of_stretch}
use Rattle.nd_items.proofs.items.fold_part.Goals as goal

pub take_slice-requires : goal.take_slice-requires
take_slice-requires g c =
    let found = c.in-Some.ensures in
    span_marked c.args.cells.marks c.args.view c.requires.part.marked (found.found.0 refl) c.in-Some.places.start c.in-Some.places.end
    found.start found.end

pub fold_slice-requires : goal.fold_slice-requires
fold_slice-requires g c κs =
    let found = c.in-Some.ensures in
    let taken = c.take_slice.ensures.all in
    let is : map Some c.take_slice.result.now ≡ items_of (record { items = c.args.cells.items; view = c.args.view }) =
    ap (map Some) taken.0 ∙ items_of_stretch c.args.view (found.found.0 refl) c.args.cells.items c.in-Some.places.start
    c.in-Some.places.end found.start found.end taken.3 in
    ((refl, tt), subst (λ items. CallableInFold lends_mut g.F.FnMut items c.args.f c.args.init) (sym is) c.requires.callable)

pub returns-in-Some : goal.returns-in-Some
returns-in-Some g c =
    let found = c.in-Some.ensures in
    let taken = c.take_slice.ensures.all in
    let is : map Some c.take_slice.result.now ≡ items_of (record { items = c.args.cells.items; view = c.args.view }) =
    ap (map Some) taken.0 ∙ items_of_stretch c.args.view (found.found.0 refl) c.args.cells.items c.in-Some.places.start
    c.in-Some.places.end found.start found.end taken.3 in
    subst (λ items. HasFoldedMut g.F.FnMut (c.args.f, c.args.init) items (c.fold_slice.result.1, c.fold_slice.result.0)) is
    c.fold_slice.ensures
