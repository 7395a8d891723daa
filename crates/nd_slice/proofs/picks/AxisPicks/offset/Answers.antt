use Rattle.std.proofs.Common.{◌<◌, arith}
use Rattle.nd_slice.proofs.Definitions.{signed}
use Rattle.nd_slice.proofs.Slicing.{first_below, offset_fits}
use Rattle.nd_slice.proofs.picks.AxisPicks.offset.Goals as goal
use Rattle.nd_slice.proofs.picks.AxisPicks.offset.Goals.{After-first}

below : (c : After-first) → c.first.result < c.args.self.end
below c =
    first_below c.args.self.step c.args.self.start c.args.self.end c.first.result c.args.self.moves (omega arith) c.first.ensures

pub stride_offset-requires-clause-small : goal.stride_offset-requires-clause-small
stride_offset-requires-clause-small c =
    omega (arith, c.requires.small, below ((goal.at.stride_offset-requires-clause-small c).After-first))

pub stride_offset-requires-clause-fits : goal.stride_offset-requires-clause-fits
stride_offset-requires-clause-fits c =
    offset_fits c.args.self.end c.first.result (signed c.args.stride) (below ((goal.at.stride_offset-requires-clause-fits c).After-first))
    c.requires.span_fits
