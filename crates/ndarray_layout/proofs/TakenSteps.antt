-- Runs of lists of steps from runs of their parts.
use Rattle.std.proofs.Common.{◌≡◌, ℕ, ◌+◌, ◌<◌, suc, Option, Some, None, Err, List, [], ◌∷◌, ◌++◌, length, get_or, take, drop, refl, sym}
use Rattle.std.proofs.Common.{ap, subst, ◌∙◌, arith, false, IsOk}
use Rattle.std.specs.List.{slice_get}
use Rattle.std.proofs.Math.Seq.{take-suc, drop-cons}
use Rattle.std.proofs.lemmas.List.{length-take-le, take-append-drop}
use Rattle.std.proofs.lemmas.Option.{get_or_from_slice_get, slice_get_within}
use Rattle.nd_base.specs.declared.error.ErrorKind.{ErrorKind}
use Rattle.nd_base.specs.declared.lengths.TheConstants.{INLINE_AXES}
use Rattle.std.proofs.lemmas.Bool.{both_ways, lt-ltb, ltb-true, true_from_ne_false}
use Rattle.ndarray_layout.specs.Descends.{IsViewOf}
use Rattle.ndarray_layout.specs.DistinctPlaces.{HasDistinctPlaces}
use Rattle.ndarray_layout.specs.Step.{StepValue, rule_of}
use Rattle.ndarray_layout.specs.StepRule.{StepRule, IsStepError, MayLackMemory, may_want_memory}
use Rattle.ndarray_layout.proofs.Laws.Step.{IsLawful, lawful}
use Rattle.nd_base.specs.declared.error.LayoutError.{LayoutError}
use Rattle.nd_base.specs.declared.error.LayoutError.TheVariants.{Shape, Memory}
use Rattle.nd_base.proofs.Laws.Definitions.{shape_fault}
use Rattle.ndarray_layout.specs.Run.{AllFit, Leave, NeedNoMemory, StopsAt, run_of}
use Rattle.ndarray_layout.proofs.Laws.Run.{first_then, in_turn, joined, run_of_append, run_of_fault, run_of_fitting, run_sound, stayed}
use Rattle.ndarray_layout.specs.View.{View, IsView}

-- where a run has no fault, each step fits
pub all_fit : (steps : List StepValue) (view : View) → IsView view → (run_of steps view).fault ≡ None → AllFit steps view
all_fit [] view v none = tt
all_fit (step ∷ steps) view v none = by ((rule_of step).fault view) refl (all_fit steps ((rule_of step).view view)) none
  where
    by : (fault : Option ErrorKind) → (rule_of step).fault view ≡ fault
        → (IsView ((rule_of step).view view)
        → (run_of steps ((rule_of step).view view)).fault ≡ None → AllFit steps ((rule_of step).view view))
        → (first_then fault view step (run_of steps ((rule_of step).view view))).fault ≡ None → AllFit (step ∷ steps) view
    by None e rest none = ((lawful step v).decides.0 e, rest ((lawful step v).kept e).is_view none)
    by (Some kind) e rest none = absurd (cc)

-- and the view that it leaves is one of the first one's data
pub left_by : {steps : List StepValue} {start view : View} → IsView start → (run_of steps start).fault ≡ None
    → (run_of steps start).view ≡ view → Leave steps start view
left_by {steps} {start} v none same =
    let sound = run_sound steps start v in
    record {
      fits = none;
      each_fits = all_fit steps start v none;
      left = same;
      kept = subst (IsViewOf (run_of steps start).source start) same sound.kept;
      distinct = λ apart distinct. subst HasDistinctPlaces same (sound.distinct apart distinct);
    }

-- as many steps were taken as there are where none has a fault
taken_of_no_fault : (steps : List StepValue) (view : View) → (run_of steps view).fault ≡ None → (run_of steps view).taken ≡ length steps
taken_of_no_fault [] view none = refl
taken_of_no_fault (step ∷ steps) view none = by ((rule_of step).fault view) (taken_of_no_fault steps ((rule_of step).view view)) none
  where
    by : (fault : Option ErrorKind)
        → ((run_of steps ((rule_of step).view view)).fault ≡ None → (run_of steps ((rule_of step).view view)).taken ≡ length steps)
        → (first_then fault view step (run_of steps ((rule_of step).view view))).fault ≡ None
        → (first_then fault view step (run_of steps ((rule_of step).view view))).taken ≡ suc (length steps)
    by None rest none = omega (arith, rest none)
    by (Some kind) rest none = absurd (cc)

-- a step with a fault doesn't fit
pub error_of_fault : {rule : StepRule} {view : View} {kind : ErrorKind} → IsLawful rule view → rule.fault view ≡ Some kind
    → IsStepError rule view (Shape kind)
error_of_fault {rule} {view} {kind} law fault = (
  fault,
  λ fits.
      let e : Some kind ≡ None = sym fault ∙ law.decides.1 fits in
      cc,
)

-- what is known of a step that is not taken, where it asks for memory only if it fits
pub error_of : (X : Type 0) {rule : StepRule} {view : View} (error : LayoutError) → IsLawful rule view → (rule.fits view → rule.asks view)
    → shape_fault {X = X} (Err error) ≡ rule.fault view
    → (rule.fault view ≡ None → may_want_memory rule ≡ false → IsOk {T = X} {E = LayoutError} (Err error))
    → IsStepError rule view error
error_of X (Shape kind) law asks fault memory = error_of_fault law (sym fault)
error_of X {rule} (Memory e) law asks fault memory = (
  asks (law.decides.0 (sym fault)),
  ltb-true INLINE_AXES rule.listed (true_from_ne_false (may_want_memory rule) (λ few.
      let ok = memory (sym fault) few in
      cc)),
)

-- no allocation fails of a step that makes no list of more than four lengths
not_lacking : (rule : StepRule) (view : View) → MayLackMemory rule view → may_want_memory rule ≡ false → ⊥
not_lacking rule view lacks few = both_ways (may_want_memory rule) few (lt-ltb INLINE_AXES rule.listed lacks.1)

-- ---- a run that has come to one of its steps
module _ (steps : List StepValue) (at : ℕ) (step : StepValue) (start left : View) (there : slice_get steps at ≡ Some step)
    (before : Leave (take at steps) start left) where
  within : at < length steps
  within = slice_get_within steps at step there

  item : get_or steps at step ≡ step
  item = get_or_from_slice_get steps at step step there

  -- the run up to this step and with it
  run_of_next : run_of (take (at + 1) steps) start ≡ in_turn (run_of (take at steps)) (run_of (step ∷ [])) start
  run_of_next =
      let count : at + 1 ≡ suc at = omega arith in
      let cut = ap (λ n. take n steps) count ∙ take-suc steps at step within ∙ ap (λ s. take at steps ++ (s ∷ [])) item in
      ap (λ part. run_of part start) cut ∙ run_of_append (take at steps) (step ∷ []) start

  -- a step that fits leaves what it makes of the view so far
  pub one_more : IsView start → (rule_of step).fault left ≡ None → Leave (take (at + 1) steps) start ((rule_of step).view left)
  one_more v fits =
      let run = run_of (take (at + 1) steps) start in
      let now : (run.fault ≡ None) × (run.view ≡ (rule_of step).view left) =
      rw (run_of_next, before.fits, before.left, run_of_fitting step [] left fits) (refl, refl) in
      left_by v now.0 now.1

  -- one that doesn't fit ends the run of them all
  run_of_ended : (kind : ErrorKind) → (rule_of step).fault left ≡ Some kind
      → run_of steps start ≡ joined None (run_of (take at steps) start) (stayed (Some kind) left)
  run_of_ended kind fault =
      let rest = drop-cons steps at step within ∙ ap (λ s. s ∷ drop (suc at) steps) item in
      let cut = sym (take-append-drop at steps) ∙ ap (λ part. take at steps ++ part) rest in
      let ended = run_of_fault step (drop (suc at) steps) left fault in
      ap (λ part. run_of part start) cut
      ∙ run_of_append (take at steps) (step ∷ drop (suc at) steps) start
      ∙ rw (before.fits, before.left, ended) refl

  pub stopped : (fault : LayoutError) → IsStepError (rule_of step) left fault → StopsAt steps start at fault left
  stopped fault failed = record {
    before = before;
    within = within;
    failed = rw there failed;
    ended = λ kind is.
        let known : IsStepError (rule_of step) left (Shape kind) = subst (λ f. IsStepError (rule_of step) left f) is failed in
        let count = taken_of_no_fault (take at steps) start before.fits ∙ length-take-le at steps (omega (arith, within)) in
        rw (run_of_ended kind known.0) (refl, omega (arith, count), refl);
  }

  -- and a run without fault whose steps want no memory is not stopped
  pub not_stopped : (fault : LayoutError) → IsStepError (rule_of step) left fault
      → (run_of steps start).fault ≡ None → NeedNoMemory steps → ⊥
  not_stopped (Shape kind) failed none few =
      let e : Some kind ≡ None = rw (run_of_ended kind failed.0) at none in
      cc
  not_stopped (Memory e) failed none few =
      not_lacking (rule_of step) left failed (subst (λ one. may_want_memory (rule_of one) ≡ false) item (few at step within))
