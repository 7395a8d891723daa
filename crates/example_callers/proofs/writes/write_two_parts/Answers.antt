-- Of all that is written, these are the first and the second; they share no index, since their writes have no error.
use Rattle.std.proofs.Common.{arith}
use Rattle.nd_lent.proofs.Laws.Faults.{on_ok}
use Rattle.nd_owned.specs.MultiSet.{write_of}
use Rattle.example_callers.proofs.writes.write_two_parts.Goals as goal

pub returns-clause-one : goal.returns-clause-one
returns-clause-one g c = on_ok c.multi_set.result (λ all. all 0 (write_of c.args.one) (omega arith)) c.multi_set.ensures.written

pub returns-clause-other : goal.returns-clause-other
returns-clause-other g c = on_ok c.multi_set.result (λ all. all 1 (write_of c.args.one) (omega arith)) c.multi_set.ensures.written
