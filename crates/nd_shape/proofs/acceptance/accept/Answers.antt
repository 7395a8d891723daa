-- Each fault is returned where the rule has it, and none where the rule accepts; the rest are laws of what is accepted.
use Rattle.std.proofs.Common.{rules, sym}
use Rattle.nd_base.specs.Signed.{all_signed}
use Rattle.nd_shape.proofs.Laws.Acceptance.{accepted_valid, accepted_lies_in_bounds, accepted_distinct}
use Rattle.nd_shape.proofs.acceptance.accept.Goals as goal

pub returns-then-leaves_data-clause-fault : goal.returns-then-leaves_data-clause-fault
returns-then-leaves_data-clause-fault c = search rules depth 3

pub returns-then-has_overlap-clause-fault : goal.returns-then-has_overlap-clause-fault
returns-then-has_overlap-clause-fault c = search rules depth 3

pub returns-clause-fault : goal.returns-clause-fault
returns-clause-fault c = search rules depth 3

pub returns-clause-valid : goal.returns-clause-valid
returns-clause-valid c = accepted_valid c.args.elem_size c.args.len c.args.mode c.args.shape.now (all_signed c.args.strides.now)
    (sym (returns-clause-fault c))

pub returns-clause-in_bounds : goal.returns-clause-in_bounds
returns-clause-in_bounds c =
    accepted_lies_in_bounds c.args.elem_size c.args.len c.args.mode c.args.shape.now (all_signed c.args.strides.now)
    (sym (returns-clause-fault c))

pub returns-clause-distinct : goal.returns-clause-distinct
returns-clause-distinct c owned =
    accepted_distinct c.args.elem_size c.args.len c.args.shape.now (all_signed c.args.strides.now)
    (rw owned at (sym (returns-clause-fault c)))
