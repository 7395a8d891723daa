use Rattle.std.proofs.lemmas.Nat.{or_lt}
use Rattle.nd_shape.proofs.layout.Layout.also.Goals as goal

pub invariant_of-result : goal.invariant_of-result
invariant_of-result c = or_lt 4 c.self.inside.bits c.other.inside.bits c.self.invariant c.other.invariant
