use Rattle.std.proofs.Common.{sym, ◌∙◌}
use Rattle.ndarray_layout_c.specs.BroadcastReasons.{is_apart}
use Rattle.ndarray_layout_c.proofs.FirstOf.{first_passed}
use Rattle.ndarray_layout_c.proofs.broadcast_reasons.co_broadcast_reason.Goals as goal

pub loop-axis-preserved : goal.loop-axis-preserved
loop-axis-preserved c =
    first_passed (is_apart c.max-count.result c.args.first.now c.args.second.now) c.loop-axis.axis c.max-count.result c.loop-axis-test.true
    (sym c.is_apart.ensures ∙ c.if-is_apart.false) c.loop-axis.invariant
