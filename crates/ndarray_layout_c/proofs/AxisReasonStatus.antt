-- The status of the reason of a split, and of a merge, is that of the call.
use Rattle.std.proofs.Common.{◌≡◌, ℕ, pos, Bool, true, false, not, cond, eqb, leb, ltb, Some, None, List, length, refl, sym, ap, ◌∙◌}
use Rattle.std.proofs.lemmas.Bool.{le-leb, lt-leb, ltb-false, ltb-true}
use Rattle.std.specs.Prelude.{◌&&◌, slice_index}
use Rattle.ndarray_layout.specs.declared.ErrorKind.TheVariants.{OutOfBounds, Unsupported}
use Rattle.ndarray_layout.specs.MergedView.{axes_fault}
use Rattle.ndarray_layout.specs.SplitView.{split_fault}
use Rattle.ndarray_layout_c.specs.declared.reasons.Reason.{Reason}
use Rattle.ndarray_layout_c.specs.AxisReasons.{axes_reason, no_axis, split_reason}
use Rattle.ndarray_layout_c.specs.Reasons.{no_reason, of_axis}
use Rattle.ndarray_layout_c.specs.Statuses.{number_of, status_of}

module _ (shape : List ℕ) (axis index : ℕ) (reason : Reason) where
  -- as a call writes it
  pub status_of_split : reason ≡ split_reason shape axis index → reason.status ≡ status_of (split_fault shape axis index)
  status_of_split same = ap Reason.status same ∙ by (ltb axis (length shape)) (ltb (slice_index shape axis) index) refl
    where
      by : (there past : Bool) → ltb (slice_index shape axis) index ≡ past
          → (cond there (cond past (of_axis (number_of OutOfBounds) (pos 21) axis (pos 0) (slice_index shape axis) index) no_reason)
          (no_axis shape axis)).status
          ≡ status_of (cond (there && leb index (slice_index shape axis)) None (Some OutOfBounds))
      by false past test = refl
      by true true test = ap (λ within. status_of (cond within None (Some OutOfBounds))) (sym (lt-leb _ _ (ltb-true _ _ test)))
      by true false test = ap (λ within. status_of (cond within None (Some OutOfBounds))) (sym (le-leb _ _ (ltb-false _ _ test)))

module _ (shape : List ℕ) (take into : ℕ) (reason : Reason) where
  pub status_of_merge : reason ≡ axes_reason shape take into → reason.status ≡ status_of (axes_fault shape take into)
  status_of_merge same = ap Reason.status same ∙ by (ltb take (length shape)) (ltb into (length shape)) (eqb take into)
    where
      by : (there other one : Bool)
          → (cond there (cond other (cond one (of_axis (number_of Unsupported) (pos 20) take (pos 0) 0 0) no_reason) (no_axis shape into))
          (no_axis shape take)).status
          ≡ status_of (cond (not (there && other)) (Some OutOfBounds) (cond one (Some Unsupported) None))
      by false other one = refl
      by true false one = refl
      by true true true = refl
      by true true false = refl
