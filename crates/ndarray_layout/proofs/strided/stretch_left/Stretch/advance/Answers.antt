use Rattle.std.proofs.Common.{drop, ap, ◌∙◌}
use Rattle.ndarray_layout.proofs.Stretches.{places_skipped}
use Rattle.ndarray_layout.proofs.strided.stretch_left.Stretch.advance.Goals as goal

pub returns : goal.returns
returns c = places_skipped c.self.invariant c.args.count c.min.ensures ∙ ap (drop c.args.count) c.self.view_is
