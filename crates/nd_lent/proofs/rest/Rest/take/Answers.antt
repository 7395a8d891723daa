use Rattle.nd_lent.proofs.rest.Rest.take.Goals as goal

pub invariant_of-result : goal.invariant_of-result
invariant_of-result g c = record { part = c.lend_view-cells.ensures.part }
