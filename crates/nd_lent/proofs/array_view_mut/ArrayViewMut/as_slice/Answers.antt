-- The places that follow one another have marks, and the slice has the items there.
use Rattle.std.proofs.Common.{Some, map, refl, ap, ◌∙◌}
use Rattle.ndarray_layout.specs.declared.Order.TheVariants.{RowMajor}
use Rattle.ndarray_layout.specs.View.{view_places}
use Rattle.nd_access.specs.Items.{item_at_place}
use Rattle.nd_access.proofs.Laws.SliceOfPart.{span_marked}
use Rattle.nd_access.proofs.Laws.StretchItems.{items_of_stretch}
use Rattle.nd_lent.proofs.array_view_mut.ArrayViewMut.as_slice.Goals as goal

pub slice-requires : goal.slice-requires
slice-requires g c =
    let own = c.args.self.now in
    let found = c.in_ok-places.ensures in
    rw c.shared.ensures.all.1
    (span_marked own.cells.marks own.view own.part.marked (found.found.0 refl) c.in_ok-places.places.start c.in_ok-places.places.end
    found.start found.end)

pub returns-clause-items : goal.returns-clause-items
returns-clause-items g c =
    let own = c.args.self.now in
    let found = c.in_ok-places.ensures in
    let taken = c.slice.ensures.all in
    ap (map Some) taken.0
    ∙ items_of_stretch own.view (found.found.0 refl) c.shared.result.items c.in_ok-places.places.start
    c.in_ok-places.places.end found.start found.end taken.1
    ∙ ap (λ items. map (item_at_place items) (view_places RowMajor own.view)) c.shared.ensures.all.0
