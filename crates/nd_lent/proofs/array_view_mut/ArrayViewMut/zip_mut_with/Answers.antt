-- A call is made at each place of the part and the item beside it, in row-major order.
use Rattle.std.proofs.Common.{rules, ◌≡◌, length, sym, subst, ◌∙◌}
use Rattle.ndarray_layout.specs.declared.Order.TheVariants.{RowMajor}
use Rattle.ndarray_layout.specs.View.{view_places}
use Rattle.ndarray_layout.proofs.Laws.View.{places_lie_within}
use Rattle.nd_lent.specs.Lent.{array_of}
use Rattle.nd_access.specs.Mapped.{CallsMake, row_major_items}
use Rattle.nd_access.specs.Written.{Maps}
use Rattle.nd_access.specs.Zipped.{CallableOnEachPair, CalledAtPair}
use Rattle.nd_access.specs.Pairs.{ZipsAt, view_pairs}
use Rattle.nd_access.proofs.Laws.OwnPlaces.{own_of_part}
use Rattle.nd_loops.proofs.Laws.PairMaps.{pairs_in_order, pairs_of_lent, zips_in_order}
use Rattle.nd_lent.proofs.PairsMapped.{spare, zipped}
use Rattle.nd_lent.proofs.PartMaps.{changed}
use Rattle.nd_access.proofs.Laws.IndexItems.{items_in}
use Rattle.nd_access.proofs.Laws.Read.{places_marked}
use Rattle.nd_lent.proofs.array_view_mut.ArrayViewMut.zip_mut_with.Given.{Over}
use Rattle.nd_lent.proofs.array_view_mut.ArrayViewMut.zip_mut_with.Goals as goal
use Rattle.nd_lent.proofs.array_view_mut.ArrayViewMut.zip_mut_with.Goals.{After-reader}

pub zip_view-requires-clause-own : goal.zip_view-requires-clause-own
zip_view-requires-clause-own g c = own_of_part c.args.self.now.cells.marks c.args.self.now.view c.args.self.now.part

pub zip_view-requires-clause-items : goal.zip_view-requires-clause-items
zip_view-requires-clause-items g c =
    rw c.strided-source.ensures.view
    (places_lie_within (length c.reader.result.items) RowMajor c.args.other.now.view c.reader.ensures.read.has.within)

pub zip_view-requires-clause-marked : goal.zip_view-requires-clause-marked
zip_view-requires-clause-marked g c =
    rw c.strided-source.ensures.view (places_marked c.reader.result.marks RowMajor c.args.other.now.view c.reader.ensures.read.marked)

same_shape : (g : Over) (c : After-reader g) → c.args.self.now.view.shape ≡ c.args.other.now.view.shape
same_shape g c = search rules

-- the pairs that are given
beside : (g : Over) (c : After-reader g)
    → view_pairs c.args.self.now.cells.items c.args.self.now.view c.reader.result.items c.strided-source.result.now
    ≡ view_pairs c.args.self.now.cells.items c.args.self.now.view c.args.other.now.items c.args.other.now.view
beside g c = pairs_of_lent c.args.self.now.cells.items c.args.self.now.view c.reader.ensures.items c.strided-source.ensures.view

pub zip_view-requires-clause-callable : goal.zip_view-requires-clause-callable
zip_view-requires-clause-callable g c =
    let at = (goal.at.zip_view-requires-clause-callable g c).After-reader in
    subst (λ pairs. CallableOnEachPair g.F.FnMut pairs c.args.f)
    (sym (beside g at ∙ pairs_in_order (array_of c.args.self.now) c.args.other.now)) (c.requires (same_shape g at))

pub returns-clause-ran : goal.returns-clause-ran
returns-clause-ran g c =
    let at = (goal.at.returns-clause-ran g c).After-reader in
    let call = CalledAtPair g.F.FnMut in
    let array = array_of c.args.self.now in
    let made = changed array c.zip_view.new.cells.items in
    subst (λ pairs. CallsMake call c.args.f pairs (row_major_items made)) (beside g at ∙ pairs_in_order array c.args.other.now)
    (subst (CallsMake call c.args.f (view_pairs array.items array.view c.reader.result.items c.strided-source.result.now))
    (items_in RowMajor made) c.zip_view.ensures.ran.ran)

pub returns-clause-zipped : goal.returns-clause-zipped
returns-clause-zipped g c =
    let same = same_shape g (goal.at.returns-clause-zipped g c).After-reader in
    let array = array_of c.args.self.now in
    let other = c.args.other.now in
    let new = c.zip_view.new.cells.items in
    let has : ZipsAt (CalledAtPair g.F.FnMut) c.args.f array.view other.items other.view array.items new =
    zips_in_order same (subst (λ pairs. Maps (CalledAtPair g.F.FnMut) c.args.f (view_places RowMajor array.view) pairs array.items new)
    (beside g (goal.at.returns-clause-zipped g c).After-reader) c.zip_view.ensures.ran) in
    λ h acts. zipped (CalledAtPair g.F.FnMut) array new other same has (λ pair. h pair.0 pair.1) (λ x y f' called. acts x.0 x.1 f' y called)

pub returns-clause-spare : goal.returns-clause-spare
returns-clause-spare g c =
    let same = same_shape g (goal.at.returns-clause-spare g c).After-reader in
    let array = array_of c.args.self.now in
    let other = c.args.other.now in
    let new = c.zip_view.new.cells.items in
    let has : ZipsAt (CalledAtPair g.F.FnMut) c.args.f array.view other.items other.view array.items new =
    zips_in_order same (subst (λ pairs. Maps (CalledAtPair g.F.FnMut) c.args.f (view_places RowMajor array.view) pairs array.items new)
    (beside g (goal.at.returns-clause-spare g c).After-reader) c.zip_view.ensures.ran) in
    spare (CalledAtPair g.F.FnMut) array new other same has
