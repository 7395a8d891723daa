-- Axes that are there can be merged exactly where a stride has the coordinates of both.
use Rattle.std.proofs.Common.{Some, ap, sym, ◌∙◌}
use Rattle.ndarray_layout.proofs.Laws.MergedView.{merge_fault_of_answer}
use Rattle.ndarray_layout.proofs.runs.merge_axes_of.Goals as goal

pub returns-then-branch-clause-fault : goal.returns-then-branch-clause-fault
returns-then-branch-clause-fault c =
    let known = merge_fault_of_answer c.args.take.0 c.args.into.0 c.args.view.now (sym c.in_ok-merge.ensures.fault)
    c.in_ok-merge.ensures.fits in
    let fits = rw (c.if-branch.true) at known in
    sym fits

pub returns-else-branch-clause-fault : goal.returns-else-branch-clause-fault
returns-else-branch-clause-fault c =
    let known = merge_fault_of_answer c.args.take.0 c.args.into.0 c.args.view.now (sym c.in_ok-merge.ensures.fault)
    c.in_ok-merge.ensures.fits in
    let fault = rw (c.if-branch.false) at known in
    ap Some c.from_kind.ensures ∙ sym fault
