-- Each step makes of the view what its call makes of it, and fails as its call does.
use Rattle.std.proofs.Common.{sym}
use Rattle.std.proofs.lemmas.Bool.{ltb-false}
use Rattle.nd_slice.specs.SliceFault.{out_count}
use Rattle.ndarray_layout.specs.Step.{SliceBy, MergeInto, rule_of}
use Rattle.ndarray_layout.specs.StepRule.{IsStepError}
use Rattle.ndarray_layout.specs.View.{View}
use Rattle.ndarray_layout.proofs.TakenSteps.{error_of, error_of_fault}
use Rattle.ndarray_layout.proofs.Laws.Step.{lawful}
use Rattle.ndarray_layout.proofs.runs.take_step.Goals as goal
use Rattle.nd_base.proofs.Laws.Faults.{IfErr-handed_on}

pub returns-in_err-sliced-in-Slice-clause-fault : goal.returns-in_err-sliced-in-Slice-clause-fault
returns-in_err-sliced-in-Slice-clause-fault c =
    let step = SliceBy c.in-Slice.elems.items c.in-Slice.fit in
    let known = c.in_err-sliced-in-Slice.ensures in
    let failed = error_of View c.in_err-sliced-in-Slice.field-0.0 (lawful step c.requires) (λ fits. fits) known.fault
    (λ none few. known.memory none (ltb-false 4 (out_count c.in-Slice.elems.items) few)) in
    rw (c.in-Slice.is) (IfErr-handed_on (IsStepError (rule_of step) c.args.view.now) c.from_residual.result
    c.from_residual.ensures.1 failed)

pub returns-in_err-merge_axes_of-in-Merge-clause-fault : goal.returns-in_err-merge_axes_of-in-Merge-clause-fault
returns-in_err-merge_axes_of-in-Merge-clause-fault c =
    let step = MergeInto c.in-Merge.take.0 c.in-Merge.into.0 in
    let failed = error_of_fault (lawful step c.requires) (sym c.in_err-merge_axes_of-in-Merge.ensures.fault) in
    rw (c.in-Merge.is) (IfErr-handed_on (IsStepError (rule_of step) c.args.view.now) c.from_residual-in_err-merge_axes_of-in-Merge.result
    c.from_residual-in_err-merge_axes_of-in-Merge.ensures.1 failed)

pub returns-in_ok-reshaped-in-Reshape-clause-taken : goal.returns-in_ok-reshaped-in-Reshape-clause-taken
returns-in_ok-reshaped-in-Reshape-clause-taken c = rw (c.in-Reshape.is) (cc (c.in_ok-reshaped-in-Reshape.ensures.reshaped))
