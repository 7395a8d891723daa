-- The first fault of the elements that are left is the first of all.
use Rattle.std.proofs.Common.{◌≡◌}
use Rattle.nd_slice.proofs.Definitions.{fault_of_each, first_fault}
use Rattle.nd_slice.proofs.slice_errors.check_elems.Given as goal

abbrev pub invariant-loop-len : goal.invariant-loop-len
invariant-loop-len l = fault_of_each l.fit l.len-iterator ≡ first_fault l.fit l.shape l.elems
