-- What the calls give is written at each place of the part, once.
use Rattle.std.proofs.Common.{rules, ◌≡◌, length, sym}
use Rattle.ndarray_layout.specs.declared.Order.TheVariants.{RowMajor}
use Rattle.ndarray_layout.proofs.Laws.View.{places_lie_within}
use Rattle.nd_lent.specs.Lent.{array_of}
use Rattle.nd_access.proofs.Laws.OwnPlaces.{own_of_part}
use Rattle.nd_access.proofs.Laws.Read.{places_marked}
use Rattle.nd_loops.proofs.Laws.PairMaps.{pairs_in_order, pairs_of_lent, zips_of_lent}
use Rattle.nd_lent.proofs.PairsMapped.{spare}
use Rattle.nd_lent.proofs.PairsInside.{callable_in_any_order, made_inside, mapped_inside}
use Rattle.nd_lent.proofs.array_view.ArrayView.map_into_nearest.Given.{Over}
use Rattle.nd_lent.proofs.array_view.ArrayView.map_into_nearest.Goals as goal
use Rattle.nd_lent.proofs.array_view.ArrayView.map_into_nearest.Goals.{After-reader}

pub zip_nearest-requires-clause-own : goal.zip_nearest-requires-clause-own
zip_nearest-requires-clause-own g c = own_of_part c.args.to.now.cells.marks c.args.to.now.view c.args.to.now.part

pub zip_nearest-requires-clause-items : goal.zip_nearest-requires-clause-items
zip_nearest-requires-clause-items g c =
    rw c.strided-source.ensures.view
    (places_lie_within (length c.reader.result.items) RowMajor c.args.self.now.view c.reader.ensures.read.has.within)

pub zip_nearest-requires-clause-marked : goal.zip_nearest-requires-clause-marked
zip_nearest-requires-clause-marked g c =
    rw c.strided-source.ensures.view
    (places_marked c.reader.result.marks RowMajor c.args.self.now.view c.reader.ensures.read.marked)

same_shape : (g : Over) (c : After-reader g) → c.args.to.now.view.shape ≡ c.args.self.now.view.shape
same_shape g c = search rules

pub zip_nearest-requires-clause-callable : goal.zip_nearest-requires-clause-callable
zip_nearest-requires-clause-callable g c =
    let at = (goal.at.zip_nearest-requires-clause-callable g c).After-reader in
    let to = array_of c.args.to.now in
    let source = c.args.self.now in
    rw (pairs_of_lent to.items to.view c.reader.ensures.items c.strided-source.ensures.view, pairs_in_order to source)
    (callable_in_any_order g.F.FnMut _ (λ each. each.0) (λ s t stored left item e. search rules) to source (same_shape g at)
    (λ s stored item p. search rules) (c.requires (sym (same_shape g at))))

pub returns-clause-ran : goal.returns-clause-ran
returns-clause-ran g c =
    let at = (goal.at.returns-clause-ran g c).After-reader in
    made_inside g.F.FnMut _ (λ each. each.0) (λ s t stored left item e. search rules) (array_of c.args.to.now) c.args.self.now
    (same_shape g at) (zips_of_lent c.reader.ensures.items c.strided-source.ensures.view c.zip_nearest.ensures.ran)

pub returns-clause-mapped : goal.returns-clause-mapped
returns-clause-mapped g c =
    let at = (goal.at.returns-clause-mapped g c).After-reader in
    mapped_inside g.F.FnMut _ (λ each. each.0) (λ s t stored left item e. search rules) (array_of c.args.to.now) c.args.self.now
    (same_shape g at) (zips_of_lent c.reader.ensures.items c.strided-source.ensures.view c.zip_nearest.ensures.ran)

pub returns-clause-spare : goal.returns-clause-spare
returns-clause-spare g c =
    let at = (goal.at.returns-clause-spare g c).After-reader in
    spare _ (array_of c.args.to.now) c.zip_nearest.new.cells.items c.args.self.now (same_shape g at)
    (zips_of_lent c.reader.ensures.items c.strided-source.ensures.view c.zip_nearest.ensures.ran)
