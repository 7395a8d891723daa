use Rattle.std.proofs.Common.{◌≡◌, ◌-◌, length, sym, ap, ◌∙◌, arith}
use Rattle.std.specs.List.{find, range_with_len}
use Rattle.ndarray_layout_c.specs.BlockReasons.{is_none}
use Rattle.ndarray_layout_c.proofs.BlockReasonStatus.{has_index}
use Rattle.ndarray_layout_c.proofs.FirstOf.{first_passed}
use Rattle.ndarray_layout_c.proofs.block_reasons.blocks_reason.Goals as goal

pub loop-axis-preserved : goal.loop-axis-preserved
loop-axis-preserved c =
    first_passed (is_none c.args.block.now) c.loop-axis.axis (length c.args.block.now) c.loop-axis-test.true
    (sym c.is_none.ensures ∙ c.if-is_none.false) c.loop-axis.invariant

pub has_size-requires-clause-has_index : goal.has_size-requires-clause-has_index
has_size-requires-clause-has_index c =
    let block = c.args.block.now in
    let axis = c.loop-axis.axis in
    let end : length block - axis ≡ 0 = omega (arith, c.loop-axis-test.false) in
    has_index block (ap (λ count. find (is_none block) (range_with_len axis count)) (sym end) ∙ c.loop-axis.invariant)
