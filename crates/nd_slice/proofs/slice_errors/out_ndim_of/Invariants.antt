-- What was counted and what is left come to the whole count, and no element was counted twice.
use Rattle.std.proofs.Common.{◌≡◌, ◌+◌, ◌≤◌, drop}
use Rattle.nd_slice.proofs.Definitions.{out_count}
use Rattle.nd_slice.proofs.slice_errors.out_ndim_of.Given as goal

abbrev pub invariant-loop-elem : goal.invariant-loop-elem
invariant-loop-elem l = record {
  counted : l.count + out_count (drop l.elem-index l.list) ≡ out_count l.list;
  few : l.count ≤ l.elem-index;
}
