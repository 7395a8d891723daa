-- The status of the reason of a common shape, and of one to be broadcast to, is that of the call.
use Rattle.std.proofs.Common.{◌≡◌, ◌⊎◌, ℕ, zero, suc, ◌+◌, ◌-◌, ◌<◌, ◌≤◌, pos, Bool, true, false, not, max, cond, eqb, ltb, is_some}
use Rattle.std.proofs.Common.{inl, inr, Option, Some, None, List, [], ◌∷◌, length, get_or, refl, sym, ap, ◌∙◌, arith}
use Rattle.std.specs.Option.{option_and_then, option_map, option_map_or}
use Rattle.std.specs.Prelude.{◌&&◌, ◌||◌}
use Rattle.std.proofs.lemmas.Bool.{and_from, and_left, and_right, cases_lt, eqb-false, eqb-true, ltb-false, ltb-true, or_parts}
use Rattle.ndarray_layout.specs.declared.ErrorKind.TheVariants.{IncompatibleShape, Overflow}
use Rattle.ndarray_layout.specs.BroadcastView.{broadcast_fault, takes_in}
use Rattle.ndarray_layout.specs.CommonShape.{common_length, common_lengths, common_shape, common_shape_fault, padded}
use Rattle.ndarray_layout.specs.Size.{limit, nonzero_size}
use Rattle.ndarray_layout.proofs.Laws.BroadcastView.{takes_in_by_axes, takes_in_no_fewer, takes_in_no_other}
use Rattle.ndarray_layout.proofs.Laws.CommonShape.{length-padded}
use Rattle.ndarray_layout_c.specs.declared.reasons.Reason.{Reason}
use Rattle.ndarray_layout_c.specs.BroadcastReasons.{broadcast_reason, co_broadcast_reason, first_apart, first_fixed, is_apart, is_fixed}
use Rattle.ndarray_layout_c.specs.BroadcastReasons.{padded_length}
use Rattle.ndarray_layout_c.specs.Reasons.{no_reason, of_axis, of_list}
use Rattle.ndarray_layout_c.specs.Statuses.{number_of, status_of}
use Rattle.ndarray_layout_c.proofs.FirstFound.{Found, found}
use Rattle.ndarray_layout_c.proofs.PaddedShapes.{after_front, in_front}

-- what a test that is turned round says
yes : (b : Bool) → not b ≡ false → b ≡ true
yes true h = refl
yes false h = absurd (cc)

no : (b : Bool) → not b ≡ true → b ≡ false
no true h = absurd (cc)
no false h = refl

-- ---- lengths in common
joined : (first : Option ℕ) (rest : Option (List ℕ))
    → is_some (option_and_then (λ common. option_map (λ rest. common ∷ rest) rest) first) ≡ (is_some first && is_some rest)
joined None rest = refl
joined (Some len) None = refl
joined (Some len) (Some lens) = refl

-- an axis of two lists of lengths has one
abbrev meets : List ℕ → List ℕ → ℕ → Bool
meets lens others k = is_some (common_length (get_or lens k 0) (get_or others k 0))

all_have : (lens others : List ℕ) → length lens ≡ length others → ((k : ℕ) → k < length lens → meets lens others k ≡ true)
    → is_some (common_lengths lens others) ≡ true
all_have [] others e h = refl
all_have (len ∷ lens) [] e h = absurd (omega (arith, e))
all_have (len ∷ lens) (other ∷ others) e h =
    joined (common_length len other) (common_lengths lens others)
    ∙ and_from _ _ (h 0 (omega arith)) (all_have lens others (omega (arith, e)) (λ k l. h (suc k) (omega (arith, l))))

one_has_none : (lens others : List ℕ) (k : ℕ) → length lens ≡ length others → k < length lens → meets lens others k ≡ false
    → is_some (common_lengths lens others) ≡ false
one_has_none [] others k e l h = absurd (omega (arith, l))
one_has_none (len ∷ lens) [] k e l h = absurd (omega (arith, e))
one_has_none (len ∷ lens) (other ∷ others) zero e l h =
    joined (common_length len other) (common_lengths lens others) ∙ and_left _ _ h
one_has_none (len ∷ lens) (other ∷ others) (suc k) e l h =
    joined (common_length len other) (common_lengths lens others)
    ∙ and_right _ _ (one_has_none lens others k (omega (arith, e)) (omega (arith, l)) h)

module _ (first second : List ℕ) where
  abbrev count : ℕ
  count = max (length first) (length second)

  by_shape : (fits : Bool) → is_some (common_shape first second) ≡ fits
      → status_of (common_shape_fault first second) ≡ status_of (cond fits None (Some IncompatibleShape))
  by_shape fits same = ap (λ fits. status_of (cond fits None (Some IncompatibleShape))) same

  co_broadcast_status : (co_broadcast_reason first second).status ≡ status_of (common_shape_fault first second)
  co_broadcast_status = by (first_apart count first second) (found (is_apart count first second) count)
    where
      one : length (padded count first) ≡ count
      one = length-padded count first (omega arith)

      two : length (padded count second) ≡ count
      two = length-padded count second (omega arith)

      by : (apart : Option ℕ) → Found (is_apart count first second) count apart
          → (option_map_or (λ axis. of_axis (number_of IncompatibleShape) (pos 16) axis (pos 0) (padded_length count first axis)
          (padded_length count second axis)) apart no_reason).status
          ≡ status_of (common_shape_fault first second)
      by None none =
          sym (by_shape true (all_have (padded count first) (padded count second) (one ∙ sym two)
          (λ k l. yes _ (none k (omega (arith, l, one))))))
      by (Some axis) apart =
          sym (by_shape false (one_has_none (padded count first) (padded count second) axis (one ∙ sym two)
          (omega (arith, apart.0, one)) (no _ apart.1)))

  -- as a call writes it
  pub status_of_co_broadcast : (reason : Reason) → reason ≡ co_broadcast_reason first second
      → reason.status ≡ status_of (common_shape_fault first second)
  status_of_co_broadcast reason same = ap Reason.status same ∙ co_broadcast_status

-- ---- a shape to be broadcast to
module _ (shape target : List ℕ) where
  abbrev here : ℕ → ℕ
  here axis = padded_length (length target) shape axis

  -- an axis that isn't at fault
  stretches : (k : ℕ) → is_fixed shape target (length target - length shape + k) ≡ false
      → (get_or shape k 0 ≡ get_or target (length target - length shape + k) 0) ⊎ (get_or shape k 0 ≡ 1)
  stretches k free =
      let axis = length target - length shape + k in
      let own = after_front (length target) shape k in
      by (eqb (here axis) 1) (eqb (here axis) (get_or target axis 0)) (eqb-true _ _) (eqb-true _ _) own (yes _ free)
    where
      by : {a b c : ℕ} (is_one is_wanted : Bool) → (is_one ≡ true → a ≡ 1) → (is_wanted ≡ true → a ≡ b) → a ≡ c
          → (is_one || is_wanted) ≡ true → (c ≡ b) ⊎ (c ≡ 1)
      by true is_wanted one wanted own h = inr (sym own ∙ one refl)
      by false true one wanted own h = inl (sym own ∙ wanted refl)
      by false false one wanted own h = absurd (cc)

  -- an axis at fault has another length than 1, and than the one beside it
  tests : (axis : ℕ) → is_fixed shape target axis ≡ true → (eqb (here axis) 1 ≡ false) × (eqb (here axis) (get_or target axis 0) ≡ false)
  tests axis fixed =
      let is_one = eqb (here axis) 1 in
      let is_wanted = eqb (here axis) (get_or target axis 0) in
      or_parts is_one is_wanted (no (is_one || is_wanted) fixed)

  -- so it is no new one
  not_new : (axis : ℕ) → is_fixed shape target axis ≡ true → length target - length shape ≤ axis
  not_new axis fixed = elim (cases_lt axis (length target - length shape)) [
    | inl new ↦
        let one : here axis ≡ 1 = in_front (length target) shape axis new in
        absurd (eqb-false (here axis) 1 (tests axis fixed).0 one)
    | inr old ↦ old
  ]

  not_taken_in : length shape ≤ length target → (axis : ℕ) → axis < length target → is_fixed shape target axis ≡ true
      → takes_in target shape ≡ false
  not_taken_in fewer axis below fixed =
      let k = axis - (length target - length shape) in
      let old = not_new axis fixed in
      let at : axis ≡ length target - length shape + k = omega (arith, old) in
      let own : here axis ≡ get_or shape k 0 = ap here at ∙ after_front (length target) shape k in
      takes_in_no_other target shape k (omega (arith, old, below, fewer))
      (λ same. eqb-false _ _ (tests axis fixed).1 (own ∙ same ∙ ap (λ i. get_or target i 0) (sym at)))
      (λ one. eqb-false _ _ (tests axis fixed).0 (own ∙ one))

  by_tests : (takes large : Bool) → takes_in target shape ≡ takes → ltb limit (nonzero_size target) ≡ large
      → status_of (broadcast_fault target shape)
      ≡ status_of (cond (not takes) (Some IncompatibleShape) (cond large (Some Overflow) None))
  by_tests takes large same size =
      ap (λ takes. status_of (cond (not takes) (Some IncompatibleShape) (cond (ltb limit (nonzero_size target)) (Some Overflow) None))) same
      ∙ ap (λ large. status_of (cond (not takes) (Some IncompatibleShape) (cond large (Some Overflow) None))) size

  broadcast_status : (broadcast_reason shape target).status ≡ status_of (broadcast_fault target shape)
  broadcast_status =
      by (ltb (length target) (length shape)) (ltb limit (nonzero_size target)) refl refl (first_fixed shape target)
      (found (is_fixed shape target) (length target))
    where
      by : (less large : Bool) → ltb (length target) (length shape) ≡ less → ltb limit (nonzero_size target) ≡ large
          → (one : Option ℕ) → Found (is_fixed shape target) (length target) one
          → (cond less (of_list (number_of IncompatibleShape) (pos 1) (pos 5) 0 (length target) (length shape))
          (option_map_or (λ axis. of_axis (number_of IncompatibleShape) (pos 17) axis (pos 0) (here axis) (get_or target axis 0)) one
          (cond large (of_axis (number_of Overflow) (pos 5) 0 (pos 0) 0 0) no_reason))).status
          ≡ status_of (broadcast_fault target shape)
      by true large less size one known = sym (by_tests false large (takes_in_no_fewer target shape (ltb-true _ _ less)) size)
      by false large less size (Some axis) fixed =
          sym (by_tests false large (not_taken_in (ltb-false _ _ less) axis fixed.0 fixed.1) size)
      by false true less size None none =
          sym (by_tests true true (takes_in_by_axes target shape (ltb-false _ _ less)
          (λ k l. stretches k (none _ (omega (arith, l, ltb-false _ _ less))))) size)
      by false false less size None none =
          sym (by_tests true false (takes_in_by_axes target shape (ltb-false _ _ less)
          (λ k l. stretches k (none _ (omega (arith, l, ltb-false _ _ less))))) size)

  -- as a call writes it
  pub status_of_broadcast : (reason : Reason) → reason ≡ broadcast_reason shape target
      → reason.status ≡ status_of (broadcast_fault target shape)
  status_of_broadcast reason same = ap Reason.status same ∙ broadcast_status
