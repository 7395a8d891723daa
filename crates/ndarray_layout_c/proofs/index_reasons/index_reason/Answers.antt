use Rattle.std.proofs.Common.{length, sym, ◌∙◌}
use Rattle.ndarray_layout_c.specs.IndexReasons.{is_outside}
use Rattle.ndarray_layout_c.proofs.FirstOf.{first_passed}
use Rattle.ndarray_layout_c.proofs.index_reasons.index_reason.Goals as goal

pub loop-axis-preserved : goal.loop-axis-preserved
loop-axis-preserved c =
    first_passed (is_outside c.args.shape.now c.args.index.now) c.loop-axis.axis (length c.args.shape.now) c.loop-axis-test.true
    (sym c.is_outside.ensures ∙ c.if-is_outside.false) c.loop-axis.invariant
