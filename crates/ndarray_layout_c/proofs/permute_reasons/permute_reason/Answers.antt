use Rattle.std.proofs.Common.{length, ap, sym}
use Rattle.std.specs.Prelude.{not}
use Rattle.ndarray_layout_c.specs.PermuteReasons.{is_listed}
use Rattle.ndarray_layout_c.proofs.FirstOf.{first_passed}
use Rattle.ndarray_layout_c.proofs.permute_reasons.permute_reason.Goals as goal

pub loop-axis-preserved : goal.loop-axis-preserved
loop-axis-preserved c =
    first_passed (λ axis. not (is_listed c.args.axes.now axis)) c.loop-axis.axis (length c.args.shape.now) c.loop-axis-test.true
    (ap not (sym c.if-not-is_listed.ensures)) c.loop-axis.invariant
