-- The lengths of a view fit; and what is said of indices is said of places, by the view's invariant.
use Rattle.std.proofs.Common.{map, subst}
use Rattle.ndarray_layout.specs.View.{IsView}
use Rattle.ndarray_layout.proofs.Laws.View.{lens_fit}
use Rattle.ndarray_layout.proofs.SlicesFound.{by_places}
use Rattle.ndarray_layout.proofs.strided.Strided.first_intersection.Goals as goal

pub first_intersection-requires : goal.first_intersection-requires
first_intersection-requires g c = lens_fit c.self.invariant

pub returns-clause-places : goal.returns-clause-places
returns-clause-places g c =
    let v = subst IsView c.self.view_is c.self.invariant in
    by_places c.args.fit (map g.S.SliceElems.list c.args.slices.now) c.first_intersection.result v
    (rw (← c.self.view_is) c.first_intersection.ensures.fault) (rw (← c.self.view_is) c.first_intersection.ensures.intersection)
