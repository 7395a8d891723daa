use Rattle.std.proofs.Common.{length, sym, ap, ◌∙◌}
use Rattle.ndarray_layout.proofs.Stretches.{length-stretch}
use Rattle.ndarray_layout.proofs.strided.stretch_left.Stretch.len.Goals as goal

pub returns : goal.returns
returns c = sym (length-stretch c.self.invariant) ∙ ap length c.self.view_is
