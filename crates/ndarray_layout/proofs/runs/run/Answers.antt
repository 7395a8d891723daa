-- Each step fits what those before it left, or ends the run of them all.
use Rattle.std.proofs.Common.{◌≡◌, ℕ, ◌<◌, List, Some, map, length, get_or, sym, ap, subst, ◌∙◌, refl, arith}
use Rattle.std.specs.List.{slice_get}
use Rattle.std.specs.Option.{option_map}
use Rattle.std.proofs.lemmas.List.{length-map, take_all}
use Rattle.std.proofs.lemmas.Option.{slice_get-get_or, slice_get-map}
use Rattle.ndarray_layout.specs.Run.{Leave}
use Rattle.ndarray_layout.specs.declared.runs.Step.{Step}
use Rattle.ndarray_layout.specs.Step.{step_value}
use Rattle.ndarray_layout.proofs.TakenSteps.{left_by, not_stopped, one_more, stopped}
use Rattle.ndarray_layout.proofs.runs.run.Goals as goal

-- the step that is taken next
next : (steps : List Step) (at : ℕ) {step : Step} → at < length steps → step ≡ get_or steps at step
    → slice_get (map step_value steps) at ≡ Some (step_value step)
next steps at {step} within is =
    slice_get-map step_value steps at ∙ ap (option_map step_value) (slice_get-get_or steps at step within ∙ ap Some (sym is))

pub loop-at-init : goal.loop-at-init
loop-at-init c = left_by c.start-start.ensures.is_view refl refl

pub take_step-requires : goal.take_step-requires
take_step-requires c = c.loop-at.invariant.kept.is_view

pub loop-at-preserved : goal.loop-at-preserved
loop-at-preserved c =
    let fits = rw (c.in_default.is) at c.take_step.ensures.fits in
    let taken = rw (c.in_default.is) at c.take_step.ensures.taken in
    let there = next c.args.steps.now c.loop-at.at c.loop-at-test.true c.index-steps-at.is in
    rw taken (one_more _ c.loop-at.at _ c.args.view c.loop-at.view there c.loop-at.invariant c.start-start.ensures.is_view fits)

-- the step that fails is the one that there is at this number
there : (c : goal.In-Err) → slice_get (map step_value c.args.steps.now) c.loop-at.at ≡ Some (step_value c.index-steps-at.result)
there c = next c.args.steps.now c.loop-at.at c.loop-at-test.true c.index-steps-at.is

pub returns-in-Err-clause-stopped : goal.returns-in-Err-clause-stopped
returns-in-Err-clause-stopped c =
    let unchanged = c.in-Err.ensures.unchanged in
    rw unchanged (stopped _ c.loop-at.at _ c.args.view c.loop-at.view (there c) c.loop-at.invariant c.in-Err.fault c.in-Err.ensures.fault)

pub returns-in-Err-clause-memory : goal.returns-in-Err-clause-memory
returns-in-Err-clause-memory c = λ none few. absurd
    (not_stopped _ c.loop-at.at _ c.args.view c.loop-at.view (there c) c.loop-at.invariant c.in-Err.fault c.in-Err.ensures.fault none few)

-- at the end every step was taken
pub returns-clause-left : goal.returns-clause-left
returns-clause-left c =
    let steps = map step_value c.args.steps.now in
    let all = take_all c.loop-at.at steps (omega (arith, c.loop-at-test.false, length-map c.args.steps.now step_value)) in
    subst (λ part. Leave part c.args.view c.loop-at.view) all c.loop-at.invariant
