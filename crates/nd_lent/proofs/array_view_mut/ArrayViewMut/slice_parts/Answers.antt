-- No part has been lent at first.
use Rattle.nd_lent.proofs.SlicesToCome.{to_come}
use Rattle.nd_lent.proofs.array_view_mut.ArrayViewMut.slice_parts.Goals as goal

pub invariant_of-result : goal.invariant_of-result
invariant_of-result g c = record {
  left = to_come c.args.self.part c.in_ok-check_apart.ensures.fit c.in_ok-check_apart.ensures.apart;
}
