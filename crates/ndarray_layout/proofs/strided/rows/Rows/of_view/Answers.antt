use Rattle.std.proofs.Common.{◌∙◌}
use Rattle.ndarray_layout.proofs.strided.rows.Rows.of_view.Goals as goal

pub along_axis-requires : goal.along_axis-requires
along_axis-requires c = c.fastest_axis.ensures.is_view c.args.start c.requires

pub returns : goal.returns
returns c = c.along_axis.ensures ∙ c.fastest_axis.ensures.rows c.args.start c.requires
