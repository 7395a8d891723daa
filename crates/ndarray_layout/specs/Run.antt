-- What a list of steps makes of a view: what its steps make of it, one after another.
use Rattle.std.specs.Prelude.{◌≡◌, ℕ, ◌+◌, ◌<◌, pos, true, false, Option, Some, None, Err, IsSomeAnd}
use Rattle.std.specs.Prelude.{List, [], ◌∷◌, length, take, slice_get, nat_eq, refl}
use Rattle.std.specs.List.{All}
use Rattle.std.proofs.Common.{ap, eq-eqb}
use Rattle.std.proofs.Math.Dec.{lit<, lt→ltb}
use Rattle.std.proofs.lemmas.Bool.{both_ways}
use Rattle.nd_base.specs.declared.error.ErrorKind.{ErrorKind}
use Rattle.nd_base.specs.declared.error.ErrorKind.TheVariants.{OutOfBounds}
use Rattle.nd_base.specs.declared.error.LayoutError.{LayoutError}
use Rattle.nd_base.specs.declared.error.LayoutError.TheVariants.{Shape}
use Rattle.nd_base.specs.ShapeFault.{shape_fault}
use Rattle.ndarray_layout.specs.Descends.{IsViewOf}
use Rattle.ndarray_layout.specs.DistinctPlaces.{HasDistinctPlaces}
use Rattle.ndarray_layout.specs.Step.{StepValue, CollapseTo, MergeInto, BroadcastTo, rule_of}
use Rattle.ndarray_layout.specs.StepRule.{IsStepError, may_want_memory}
use Rattle.ndarray_layout.specs.View.{View}

-- what became of a view: how many steps were taken, the view that they left, which index of the first view an index of
-- that one stands for, and the fault of the next step, where it doesn't fit
pub record Outcome : Type 0 where
  pub taken : ℕ
  pub view : View
  pub source : List ℕ → List ℕ
  pub fault : Option ErrorKind

-- what a list of steps makes of a view: without a step it is unchanged; a first step with a fault ends the run there, and
-- else the other steps follow from the view that it leaves
abbrev pub run_of : List StepValue → View → Outcome
run_of [] view = record { taken = 0; view = view; source = λ index. index; fault = None }
run_of (step ∷ steps) view = elim ((rule_of step).fault view) [
  | Some kind ↦ record { taken = 0; view = view; source = λ index. index; fault = Some kind }
  | None ↦
      let rest = run_of steps ((rule_of step).view view) in
      record {
        taken = 1 + rest.taken;
        view = rest.view;
        source = λ index. (rule_of step).source view (rest.source index);
        fault = rest.fault;
      }
]

-- no step is a broadcast
abbrev pub HasNoBroadcast : List StepValue → Type 0
HasNoBroadcast steps = All (λ step. (rule_of step).is_broadcast ≡ false) steps

-- each step fits the view that those before it leave
abbrev pub AllFit : List StepValue → View → Type 0
AllFit [] view = Unit {0}
AllFit (step ∷ steps) view = (rule_of step).fits view × AllFit steps ((rule_of step).view view)

-- no step leaves more than four axes
abbrev pub NeedNoMemory : List StepValue → Type 0
NeedNoMemory steps = All (λ step. may_want_memory (rule_of step) ≡ false) steps

-- each of the steps fits the view that those before it leave, and the last one leaves this view: one of the same data, whose indices
-- lie where their sources do; without a broadcast its places are distinct where those of the first view are
pub record Leave (steps : List StepValue) (start view : View) : Type 0 where
  pub fits : (run_of steps start).fault ≡ None
  pub each_fits : AllFit steps start
  pub left : (run_of steps start).view ≡ view
  pub kept : IsViewOf (run_of steps start).source start view
  pub distinct : HasNoBroadcast steps → HasDistinctPlaces start → HasDistinctPlaces view

-- the steps before the one of this number leave this view, and that step is not taken; where it doesn't fit, it ends the run of all
pub record StopsAt (steps : List StepValue) (start : View) (at : ℕ) (fault : LayoutError) (view : View) : Type 0 where
  pub before : Leave (take at steps) start view
  pub within : at < length steps
  pub failed : IsSomeAnd (slice_get steps at) (λ step. IsStepError (rule_of step) view fault)
  pub ended : (kind : ErrorKind) → fault ≡ Shape kind →
      let run = run_of steps start in (run.fault ≡ Some kind) × (run.taken ≡ at) × (run.view ≡ view)

-- examples
abbrev two_by_three : View
two_by_three = record { start = 0; shape = 2 ∷ 3 ∷ []; strides = pos 3 ∷ pos 1 ∷ [] }

abbrev row_three_columns_wide : List StepValue
row_three_columns_wide = CollapseTo 0 1 ∷ MergeInto 0 1 ∷ BroadcastTo (2 ∷ 2 ∷ 3 ∷ []) ∷ []

all_taken : (run_of row_three_columns_wide two_by_three).view
    ≡ record { start = 3; shape = 2 ∷ 2 ∷ 3 ∷ []; strides = pos 0 ∷ pos 0 ∷ pos 1 ∷ [] }
all_taken = refl

source_of_all : (run_of row_three_columns_wide two_by_three).source (1 ∷ 1 ∷ 2 ∷ []) ≡ 1 ∷ 2 ∷ []
source_of_all = refl

ends_at_the_second : (run_of (CollapseTo 0 1 ∷ CollapseTo 0 1 ∷ MergeInto 0 1 ∷ []) two_by_three).fault ≡ Some OutOfBounds
ends_at_the_second = refl

one_was_taken : (run_of (CollapseTo 0 1 ∷ CollapseTo 0 1 ∷ MergeInto 0 1 ∷ []) two_by_three).taken ≡ 1
one_was_taken = refl

and_left_a_row :
    (run_of (CollapseTo 0 1 ∷ CollapseTo 0 1 ∷ MergeInto 0 1 ∷ []) two_by_three).view
    ≡ record { start = 3; shape = 1 ∷ 3 ∷ []; strides = pos 3 ∷ pos 1 ∷ [] }
and_left_a_row = refl

second_coordinate_of_one : AllFit (CollapseTo 0 1 ∷ CollapseTo 0 1 ∷ []) two_by_three → ⊥
second_coordinate_of_one fits = lt→ltb 1 1 fits.1.0.1

five_axes_may_need_memory : NeedNoMemory (CollapseTo 0 1 ∷ BroadcastTo (2 ∷ 1 ∷ 1 ∷ 2 ∷ 3 ∷ []) ∷ []) → ⊥
five_axes_may_need_memory none = both_ways true (none 1 (CollapseTo 0 0) (lit< tt)) refl

abbrev second_row : View
second_row = record { start = 3; shape = 1 ∷ 3 ∷ []; strides = pos 3 ∷ pos 1 ∷ [] }

error_of_a_second_coordinate : IsStepError (rule_of (CollapseTo 0 1)) second_row (Shape OutOfBounds)
error_of_a_second_coordinate = (refl, λ fits. lt→ltb 1 1 fits.1)

no_error_of_a_coordinate : IsStepError (rule_of (CollapseTo 0 1)) two_by_three (Shape OutOfBounds) → ⊥
no_error_of_a_coordinate failed = failed.1 (lit< tt, lit< tt)

stops_at_the_second : Leave (CollapseTo 0 1 ∷ []) two_by_three second_row
    → StopsAt (CollapseTo 0 1 ∷ CollapseTo 0 1 ∷ []) two_by_three 1 (Shape OutOfBounds) second_row
stops_at_the_second leave = record {
  before = leave;
  within = lit< tt;
  failed = error_of_a_second_coordinate;
  ended = λ kind is. (ap (λ fault. shape_fault {X = View} (Err fault)) is, refl, refl);
}

-- the first row isn't the second one
leaves_no_other_row : Leave (CollapseTo 0 0 ∷ []) two_by_three second_row → ⊥
leaves_no_other_row leave = both_ways (nat_eq 0 3) refl (eq-eqb 0 3 (ap (λ (view : View). view.start) leave.left))

not_at_the_first : StopsAt (CollapseTo 0 1 ∷ CollapseTo 0 1 ∷ []) two_by_three 0 (Shape OutOfBounds) two_by_three → ⊥
not_at_the_first stops = no_error_of_a_coordinate stops.failed
