use Rattle.std.proofs.Common.{length, sym, ◌∙◌}
use Rattle.ndarray_layout_c.specs.BroadcastReasons.{is_fixed}
use Rattle.ndarray_layout_c.proofs.FirstOf.{first_passed}
use Rattle.ndarray_layout_c.proofs.broadcast_reasons.broadcast_reason.Goals as goal

pub loop-axis-preserved : goal.loop-axis-preserved
loop-axis-preserved c =
    first_passed (is_fixed c.args.shape.now c.args.target.now) c.loop-axis.axis (length c.args.target.now) c.loop-axis-test.true
    (sym c.is_fixed.ensures ∙ c.if-is_fixed.false) c.loop-axis.invariant
