-- Laws of runs: two lists of steps in turn are one list, and what steps leave of a view is a view of the same data, whose indices lie
-- where those that they stand for do.
use Rattle.std.proofs.Common.{◌≡◌, ◌+◌, false, Option, Some, None, List, [], ◌∷◌, ◌++◌, refl, ap, ◌∙◌, arith}
use Rattle.std.proofs.lemmas.List.Elements.{All-head, All-tail}
use Rattle.nd_base.specs.declared.error.ErrorKind.{ErrorKind}
use Rattle.ndarray_layout.specs.Descends.{IsViewOf}
use Rattle.ndarray_layout.specs.DistinctPlaces.{HasDistinctPlaces}
use Rattle.ndarray_layout.specs.Run.{Outcome, run_of, HasNoBroadcast}
use Rattle.ndarray_layout.specs.Step.{StepValue, rule_of}
use Rattle.ndarray_layout.specs.View.{View, IsView}
use Rattle.ndarray_layout.proofs.Laws.KeepsPlaces.{IsViewOf-in_turn, IsViewOf-stayed}
use Rattle.ndarray_layout.proofs.Laws.Step.{lawful}

-- ---- outcomes in turn
-- what became of a view of which no step was taken
abbrev pub stayed : Option ErrorKind → View → Outcome
stayed fault view = record { taken = 0; view = view; source = λ index. index; fault = fault }

-- what became of a view of which one step was taken
abbrev pub stepped : View → StepValue → Outcome
stepped view step = record { taken = 1; view = (rule_of step).view view; source = (rule_of step).source view; fault = None }

-- two outcomes, of which the second began with the view that the first left; a fault ends both
abbrev pub joined : Option ErrorKind → Outcome → Outcome → Outcome
joined None first second =
    record {
      taken = first.taken + second.taken;
      view = second.view;
      source = λ index. first.source (second.source index);
      fault =
          second.fault;
    }
joined (Some kind) first second = first

-- what two parts of a run make of a view, one after the other
abbrev pub in_turn : (View → Outcome) → (View → Outcome) → View → Outcome
in_turn first second view = joined (first view).fault (first view) (second (first view).view)

-- one step, and then the others where it has no fault
abbrev pub first_then : Option ErrorKind → View → StepValue → Outcome → Outcome
first_then fault view step rest = elim fault [ Some kind ↦ stayed (Some kind) view | None ↦ joined None (stepped view step) rest ]

-- a first step that fits goes before the others, and one that doesn't ends the run
pub run_of_fitting : (step : StepValue) (steps : List StepValue) (view : View) → (rule_of step).fault view ≡ None
    → run_of (step ∷ steps) view ≡ joined None (stepped view step) (run_of steps ((rule_of step).view view))
run_of_fitting step steps view none = ap (λ fault. first_then fault view step (run_of steps ((rule_of step).view view))) none

pub run_of_fault : (step : StepValue) (steps : List StepValue) (view : View) {kind : ErrorKind} → (rule_of step).fault view ≡ Some kind
    → run_of (step ∷ steps) view ≡ stayed (Some kind) view
run_of_fault step steps view fault = ap (λ fault. first_then fault view step (run_of steps ((rule_of step).view view))) fault

-- a run after no steps
after_none : {second : Outcome} (view : View) → second ≡ joined None (stayed None view) second
after_none {second} view = ap (λ n. record { taken = n; view = second.view; source = second.source; fault = second.fault })
    (let e : second.taken ≡ 0 + second.taken = omega arith in e)

-- three runs in turn are the first before the other two, or the first two before the third
joined_in_turn : (a b c : Outcome) (f g : Option ErrorKind) → a.fault ≡ f → b.fault ≡ g
    → joined f a (joined g b c) ≡ joined (joined f a b).fault (joined f a b) c
joined_in_turn a b c None None fine also =
    rw (also) (ap (λ n. record { taken = n; view = c.view; source = λ index. a.source (b.source (c.source index)); fault = c.fault })
    (let e : a.taken + (b.taken + c.taken) ≡ (a.taken + b.taken) + c.taken = omega arith in e))
joined_in_turn a b c None (Some kind) fine fault = rw (fault) refl
joined_in_turn a b c (Some kind) g fault also = rw (fault) refl

-- two lists of steps in turn are one list
pub run_of_append : (steps more : List StepValue) (view : View) → run_of (steps ++ more) view ≡ in_turn (run_of steps) (run_of more) view
run_of_append [] more view = after_none view
run_of_append (step ∷ steps) more view = by ((rule_of step).fault view) (run_of_append steps more ((rule_of step).view view))
  where
    by : (fault : Option ErrorKind)
        → run_of (steps ++ more) ((rule_of step).view view) ≡ in_turn (run_of steps) (run_of more) ((rule_of step).view view)
        → first_then fault view step (run_of (steps ++ more) ((rule_of step).view view))
        ≡ joined (first_then fault view step (run_of steps ((rule_of step).view view))).fault
        (first_then fault view step (run_of steps ((rule_of step).view view)))
        (run_of more (first_then fault view step (run_of steps ((rule_of step).view view))).view)
    by None rest =
        let after = (rule_of step).view view in
        ap (joined None (stepped view step)) rest ∙ joined_in_turn (stepped view step) (run_of steps after)
        (run_of more (run_of steps after).view) None (run_of steps after).fault refl refl
    by (Some kind) rest = refl

-- ---- what is left
-- the view that is left is one of the first one's data, and without a broadcast no two of its indices that were apart share a place
pub record IsSound (start : View) (apart : Type 0) (outcome : Outcome) : Type 0 where
  pub kept : IsViewOf outcome.source start outcome.view
  pub distinct : apart → HasDistinctPlaces start → HasDistinctPlaces outcome.view

stayed_sound : (fault : Option ErrorKind) {view : View} {apart : Type 0} → IsView view → IsSound view apart (stayed fault view)
stayed_sound fault v = record { kept = IsViewOf-stayed v; distinct = λ none distinct. distinct }

pub run_sound : (steps : List StepValue) (view : View) → IsView view → IsSound view (HasNoBroadcast steps) (run_of steps view)
run_sound [] view v = stayed_sound None v
run_sound (step ∷ steps) view v = by ((rule_of step).fault view) refl (run_sound steps ((rule_of step).view view))
  where
    by : (fault : Option ErrorKind) → (rule_of step).fault view ≡ fault
        → (IsView ((rule_of step).view view)
        → IsSound ((rule_of step).view view) (HasNoBroadcast steps) (run_of steps ((rule_of step).view view)))
        → IsSound view (HasNoBroadcast (step ∷ steps)) (first_then fault view step (run_of steps ((rule_of step).view view)))
    by (Some kind) e rest = stayed_sound (Some kind) v
    by None e rest =
        let law = lawful step v in
        let after = law.kept e in
        let sound = rest after.is_view in
        let apart = λ (one : StepValue). (rule_of one).is_broadcast ≡ false in
        record {
          kept = IsViewOf-in_turn after sound.kept;
          distinct = λ none distinct.
              let here = law.distinct e (All-head apart step steps none) distinct in
              sound.distinct (All-tail apart step steps none) here;
        }
