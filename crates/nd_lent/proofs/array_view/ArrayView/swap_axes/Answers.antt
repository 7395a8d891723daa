-- No two indices get one place by the swap.
use Rattle.std.specs.List.{swap}
use Rattle.ndarray_layout.specs.PermutedView.{swapped_of}
use Rattle.nd_lent.proofs.Steps.{step_in_place}
use Rattle.nd_lent.proofs.array_view.ArrayView.swap_axes.Goals as goal

pub returns-clause-array : goal.returns-clause-array
returns-clause-array g c =
    step_in_place c.swap_axes.result c.self.inside.reader.items (λ index. swap index c.args.axis.0 c.args.other.0)
    (swapped_of c.args.axis.0 c.args.other.0)
    c.self.inside.view c.swap_axes.new.self c.self.view_is c.swap_axes.ensures.swapped c.swap_axes.ensures.kept
