-- The pixels of the picture backwards are those of the sources of its indices.
use Rattle.std.proofs.Common.{◌∙◌}
use Rattle.nd_lent.proofs.Laws.StepItems.{items_of_sources}
use Rattle.example_callers.proofs.tasks.mirror.Goals as goal

pub returns : goal.returns
returns g c = c.in_ok-pixels_of.ensures.copies ∙ items_of_sources c.args.picture _ c.in_ok-invert_axis.ensures.array
