use Rattle.std.proofs.Common.{sym, arith}
use Rattle.std.proofs.lemmas.Grind.{common_steps}
use Rattle.nd_shape.proofs.Laws.AcceptanceByStrides.{standard_accepted_distinct, standard_accepted_in_bounds, standard_accepted_rule}
use Rattle.nd_shape.proofs.Laws.AcceptanceByStrides.{standard_accepted_valid}
use Rattle.nd_shape.proofs.acceptance.can_index_slice_not_custom.Goals as goal

pub returns-clause-fault : goal.returns-clause-fault
returns-clause-fault g c = grind (arith, common_steps, c.in_ok-size_of_shape_checked.ensures)

pub returns-clause-valid : goal.returns-clause-valid
returns-clause-valid g c order = standard_accepted_valid order c.args.len (g.D.Lengths.list c.args.dim.now) (sym (returns-clause-fault g c))

pub returns-clause-in_bounds : goal.returns-clause-in_bounds
returns-clause-in_bounds g c order =
    standard_accepted_in_bounds order c.args.len (g.D.Lengths.list c.args.dim.now) (sym (returns-clause-fault g c))

pub returns-clause-rule : goal.returns-clause-rule
returns-clause-rule g c some order =
    standard_accepted_rule order c.args.len (g.D.Lengths.list c.args.dim.now) (sym (returns-clause-fault g c)) some

pub returns-clause-distinct : goal.returns-clause-distinct
returns-clause-distinct g c order =
    standard_accepted_distinct order c.args.len (g.D.Lengths.list c.args.dim.now) (sym (returns-clause-fault g c))
