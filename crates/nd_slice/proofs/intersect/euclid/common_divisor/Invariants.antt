use Rattle.nd_slice.proofs.intersect_lemmas.Steps.{IsStep}
use Rattle.nd_slice.proofs.intersect.euclid.common_divisor.Given as goal

abbrev pub invariant-loop-rest : goal.invariant-loop-rest
invariant-loop-rest l = IsStep l.fn.a l.fn.b l.gcd l.rest l.first l.next_first l.second l.next_second l.first_is_greater

abbrev pub decreases-loop-rest : goal.decreases-loop-rest
decreases-loop-rest l = l.rest
