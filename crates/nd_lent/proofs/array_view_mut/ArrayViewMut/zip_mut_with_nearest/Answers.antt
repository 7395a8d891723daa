-- A call is made at each place of the part and the item beside it, each once.
use Rattle.std.proofs.Common.{rules, ◌≡◌, length, sym, subst, ◌∙◌}
use Rattle.ndarray_layout.specs.declared.Order.TheVariants.{RowMajor}
use Rattle.ndarray_layout.proofs.Laws.View.{places_lie_within}
use Rattle.nd_loops.specs.AnyOrder.{InAnyOrder}
use Rattle.nd_lent.specs.Lent.{array_of}
use Rattle.nd_access.specs.Zipped.{CallableOnEachPair, CalledAtPair}
use Rattle.nd_access.specs.Pairs.{ZipsAt}
use Rattle.nd_access.proofs.Laws.OwnPlaces.{own_of_part}
use Rattle.nd_access.proofs.Laws.Read.{places_marked}
use Rattle.nd_loops.proofs.Laws.PairMaps.{pairs_in_order, pairs_of_lent, zips_of_lent}
use Rattle.nd_lent.proofs.PairsMapped.{some_order, spare, zipped}
use Rattle.nd_lent.proofs.array_view_mut.ArrayViewMut.zip_mut_with_nearest.Given.{Over}
use Rattle.nd_lent.proofs.array_view_mut.ArrayViewMut.zip_mut_with_nearest.Goals as goal
use Rattle.nd_lent.proofs.array_view_mut.ArrayViewMut.zip_mut_with_nearest.Goals.{After-reader, After-zip_nearest}

pub zip_nearest-requires-clause-own : goal.zip_nearest-requires-clause-own
zip_nearest-requires-clause-own g c = own_of_part c.args.self.now.cells.marks c.args.self.now.view c.args.self.now.part

pub zip_nearest-requires-clause-items : goal.zip_nearest-requires-clause-items
zip_nearest-requires-clause-items g c =
    rw c.strided-source.ensures.view
    (places_lie_within (length c.reader.result.items) RowMajor c.args.other.now.view c.reader.ensures.read.has.within)

pub zip_nearest-requires-clause-marked : goal.zip_nearest-requires-clause-marked
zip_nearest-requires-clause-marked g c =
    rw c.strided-source.ensures.view
    (places_marked c.reader.result.marks RowMajor c.args.other.now.view c.reader.ensures.read.marked)

same_shape : (g : Over) (c : After-reader g) → c.args.self.now.view.shape ≡ c.args.other.now.view.shape
same_shape g c = search rules

pub zip_nearest-requires-clause-callable : goal.zip_nearest-requires-clause-callable
zip_nearest-requires-clause-callable g c =
    let at = (goal.at.zip_nearest-requires-clause-callable g c).After-reader in
    let array = array_of c.args.self.now in
    subst (InAnyOrder (λ pairs. CallableOnEachPair g.F.FnMut pairs c.args.f))
    (sym (pairs_of_lent array.items array.view c.reader.ensures.items c.strided-source.ensures.view
    ∙ pairs_in_order array c.args.other.now))
    (c.requires (same_shape g at))

-- the calls that are made
made : (g : Over) (c : After-zip_nearest g) → ZipsAt (CalledAtPair g.F.FnMut) c.args.f c.args.self.now.view c.args.other.now.items
    c.args.other.now.view c.args.self.now.cells.items c.zip_nearest.new.cells.items
made g c = zips_of_lent c.reader.ensures.items c.strided-source.ensures.view c.zip_nearest.ensures.ran

pub returns-clause-ran : goal.returns-clause-ran
returns-clause-ran g c =
    let at = goal.at.returns-clause-ran g c in
    some_order (CalledAtPair g.F.FnMut) (array_of c.args.self.now) c.zip_nearest.new.cells.items c.args.other.now
    (same_shape g at.After-reader) (made g at.After-zip_nearest)

pub returns-clause-zipped : goal.returns-clause-zipped
returns-clause-zipped g c =
    let at = goal.at.returns-clause-zipped g c in
    λ h acts. zipped (CalledAtPair g.F.FnMut) (array_of c.args.self.now) c.zip_nearest.new.cells.items c.args.other.now
    (same_shape g at.After-reader) (made g at.After-zip_nearest) (λ pair. h pair.0 pair.1)
    (λ x y f' called. acts x.0 x.1 f' y called)

pub returns-clause-spare : goal.returns-clause-spare
returns-clause-spare g c =
    let at = goal.at.returns-clause-spare g c in
    spare (CalledAtPair g.F.FnMut) (array_of c.args.self.now) c.zip_nearest.new.cells.items c.args.other.now
    (same_shape g at.After-reader) (made g at.After-zip_nearest)
