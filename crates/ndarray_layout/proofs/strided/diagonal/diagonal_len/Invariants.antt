-- The least of the lengths so far, beginning with the first.
use Rattle.std.proofs.Common.{◌≡◌, fold, min, take}
use Rattle.ndarray_layout.proofs.strided.diagonal.diagonal_len.Given as goal

abbrev pub invariant-loop-len : goal.invariant-loop-len
invariant-loop-len l = l.least ≡ fold min l.initial.least (take l.len-index l.shape)
