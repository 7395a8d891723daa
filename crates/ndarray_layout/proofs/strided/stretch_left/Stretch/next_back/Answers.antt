use Rattle.std.proofs.Common.{sym, ◌∙◌, arith}
use Rattle.ndarray_layout.proofs.Stretches.{last_place}
use Rattle.ndarray_layout.proofs.strided.stretch_left.Stretch.next_back.Goals as goal

pub returns : goal.returns
returns c = sym c.self.view_is ∙ last_place c.self.invariant (omega (arith, c.if-self.false, c.self.invariant.ordered))
