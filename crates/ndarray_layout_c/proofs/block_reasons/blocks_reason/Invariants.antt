-- The first length of 0 among those that are left is the first of all.
use Rattle.std.proofs.Common.{◌≡◌, ◌-◌, length}
use Rattle.std.specs.List.{find, range_with_len}
use Rattle.ndarray_layout_c.specs.BlockReasons.{first_none, is_none}
use Rattle.ndarray_layout_c.proofs.block_reasons.blocks_reason.Given as goal

abbrev pub invariant-loop-axis : goal.invariant-loop-axis
invariant-loop-axis l = find (is_none l.block) (range_with_len l.axis (length l.block - l.axis)) ≡ first_none l.block
