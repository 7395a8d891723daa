-- Two of the items from one position up to another that share an index, by their positions among all.
use Rattle.std.proofs.Common.{arith}
use Rattle.nd_slice.proofs.FirstInGroups.{part_fits, shared_part, within_part}
use Rattle.nd_slice.proofs.intersections_sorted.first_in_group.Goals as goal

pub first_elems_intersection-requires-clause-fit : goal.first_elems_intersection-requires-clause-fit
first_elems_intersection-requires-clause-fit c =
    part_fits c.args.fit c.args.shape.now c.args.items.now c.args.from c.args.to c.requires.fits

pub returns-in-Some-clause-some : goal.returns-in-Some-clause-some
returns-in-Some-clause-some c =
    let found = shared_part c.args.fit c.args.shape.now c.args.items.now c.args.from c.args.to c.in-Some.one c.in-Some.other
    c.requires.from c.requires.to c.in-Some.ensures in
    (omega (arith, found.0), omega (arith, found.1, c.requires.to), found.2)

pub returns-in-None-clause-none : goal.returns-in-None-clause-none
returns-in-None-clause-none c =
    within_part c.args.fit c.args.shape.now c.args.items.now c.args.from c.args.to c.requires.to c.in-None.ensures
