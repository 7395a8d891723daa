-- Slices whose ranges are apart on one axis share no index.
use Rattle.std.proofs.Common.{◌-◌, length}
use Rattle.nd_slice.proofs.Laws.RangesApart.{apart_either}
use Rattle.nd_slice.proofs.ranges_apart.have_ranges_apart.Goals as goal

pub returns-then-ranges_are_apart : goal.returns-then-ranges_are_apart
returns-then-ranges_are_apart c = λ is.
    apart_either c.args.fit c.args.shape.now (length c.args.shape.now - 1 - c.loop-number.number) c.args.slice.now c.args.other.now
    c.requires.fits c.requires.other_fits (c.ranges_are_apart.ensures c.if-ranges_are_apart.true)
