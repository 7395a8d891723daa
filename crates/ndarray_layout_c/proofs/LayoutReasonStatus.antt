-- The status of the reason of a layout is that of the call.
use Rattle.std.proofs.Common.{◌≡◌, ℕ, ◌+◌, ◌-◌, ◌*◌, ◌≤◌, ℤ, pos, Bool, true, false, cond, Option, Some, None, List, [], ◌∷◌}
use Rattle.std.proofs.Common.{length, nat_eq, refl, ap, ◌∙◌, arith}
use Rattle.std.specs.Prelude.{nat_lt, not, ◌&&◌, ◌||◌}
use Rattle.std.specs.List.{find, list_all, range_with_len}
use Rattle.std.specs.Option.{option_map, option_or, unwrap_or}
use Rattle.ndarray_layout.specs.declared.CanIndexCheckMode.{CanIndexCheckMode}
use Rattle.ndarray_layout.specs.declared.CanIndexCheckMode.TheVariants.{OwnedMutable, ReadOnly}
use Rattle.ndarray_layout.specs.declared.ErrorKind.{ErrorKind}
use Rattle.ndarray_layout.specs.declared.ErrorKind.TheVariants.{IncompatibleLayout, OutOfBounds, Overflow, Unsupported}
use Rattle.ndarray_layout.specs.Acceptance.{acceptance, is_owned, may_share, size_fault}
use Rattle.ndarray_layout.specs.AcceptanceFrom.{acceptance_from, leaves_data_from}
use Rattle.ndarray_layout.specs.NoAlias.{satisfies_no_alias_rule, strides_over_others}
use Rattle.ndarray_layout.specs.Size.{is_empty, limit, nonzero_size}
use Rattle.ndarray_layout.specs.Span.{high_span, low_span, span}
use Rattle.ndarray_layout.proofs.Laws.AcceptanceFrom.{acceptance_from_lowest}
use Rattle.ndarray_layout.proofs.Laws.Span.{low_high_span}
use Rattle.ndarray_layout_c.specs.declared.reasons.Reason.{Reason}
use Rattle.ndarray_layout_c.specs.LayoutReasons.{alias_reason, buffer_reason, is_past, layout_reason, limits_reason}
use Rattle.ndarray_layout_c.specs.Reasons.{no_reason, of_axis, of_list}
use Rattle.ndarray_layout_c.specs.Statuses.{number_of, status_of}

-- what the span has above the start is what it has not below
pub high_of_span : (shape : List ℕ) (strides : List ℤ) → high_span shape strides ≡ span shape strides - low_span shape strides
high_of_span shape strides = omega (arith, low_high_span shape strides)

-- and so it has the part below
pub low_in_span : (shape : List ℕ) (strides : List ℤ) → low_span shape strides ≤ span shape strides
low_in_span shape strides = omega (arith, low_high_span shape strides)

-- the status of a reason that there may be
abbrev told : Option Reason → ℤ
told reason = (unwrap_or reason no_reason).status

-- ---- the rule on strides
-- the first number that fails a test, where not all pass
fails_somewhere : (p : ℕ → Bool) (f : ℕ → Reason) (others : List ℕ) → ((k : ℕ) → (f k).status ≡ pos 5)
    → told (option_map f (find (λ k. not (p k)) others)) ≡ status_of (cond (not (list_all p others)) (Some Unsupported) None)
fails_somewhere p f [] each = refl
fails_somewhere p f (k ∷ others) each = by (p k) (fails_somewhere p f others each)
  where
    by : (passes : Bool)
        → told (option_map f (find (λ k. not (p k)) others)) ≡ status_of (cond (not (list_all p others)) (Some Unsupported) None)
        → told (option_map f (cond (not passes) (Some k) (find (λ k. not (p k)) others)))
        ≡ status_of (cond (not (passes && list_all p others)) (Some Unsupported) None)
    by true rest = rest
    by false rest = each k

module _ (shape : List ℕ) (strides : List ℤ) where
  alias_status : told (alias_reason shape strides) ≡ status_of (cond (not (satisfies_no_alias_rule shape strides)) (Some Unsupported) None)
  alias_status = fails_somewhere (strides_over_others shape strides) _ (range_with_len 0 (length shape)) (λ k. refl)

  shared_status : (mode : CanIndexCheckMode) (none : Bool)
      → told (cond none None (cond (is_owned mode) (alias_reason shape strides) None))
      ≡ status_of (cond (not none && is_owned mode && not (satisfies_no_alias_rule shape strides)) (Some Unsupported) None)
  shared_status mode true = refl
  shared_status OwnedMutable false = alias_status
  shared_status ReadOnly false = refl

  -- ---- a layout within the limits
  abbrev of_bounds : ℤ → ℕ → ℕ → Reason
  of_bounds rule size other = of_axis (number_of OutOfBounds) rule 0 (pos 0) size other

  abbrev of_aliases : CanIndexCheckMode → Option Reason
  of_aliases mode = cond (is_empty shape) None (cond (is_owned mode) (alias_reason shape strides) None)

  buffer_status : (start len : ℕ) (mode : CanIndexCheckMode)
      → told (buffer_reason start len mode shape strides)
      ≡ status_of (cond (leaves_data_from start len shape strides) (Some OutOfBounds)
      (cond (may_share mode shape strides) (Some Unsupported) None))
  buffer_status start len mode =
      by (nat_lt start (low_span shape strides)) (nat_lt limit (start + high_span shape strides)) (is_past start len shape strides)
    where
      by : (low high past : Bool)
          → told (option_or (cond low (Some (of_bounds (pos 8) (low_span shape strides) start))
          (cond high (Some (of_bounds (pos 9) (high_span shape strides) start))
          (cond past (Some (of_bounds (pos 10) (start + high_span shape strides) len)) None))) (of_aliases mode))
          ≡ status_of (cond (low || (high || past)) (Some OutOfBounds) (cond (may_share mode shape strides) (Some Unsupported) None))
      by true high past = refl
      by false true past = refl
      by false false true = refl
      by false false false = shared_status mode (is_empty shape)

  -- ---- and any layout
  abbrev of_limits : ℤ → ℕ → ℕ → Reason
  of_limits rule size other = of_axis (number_of Overflow) rule 0 (pos 0) size other

  limits_status : (elem_size : ℕ) (rest : Option Reason) (fault : Option ErrorKind)
      → (size_fault elem_size shape strides ≡ None → told rest ≡ status_of fault)
      → told (option_or (limits_reason elem_size shape strides) rest) ≡ status_of (option_or (size_fault elem_size shape strides) fault)
  limits_status elem_size rest fault fits =
      by (not (nat_eq (length shape) (length strides))) (nat_lt limit (nonzero_size shape)) (nat_lt limit (span shape strides))
      (nat_lt limit (span shape strides * elem_size)) fits
    where
      by : (other size far bytes : Bool)
          → (cond other (Some IncompatibleLayout) (cond size (Some Overflow) (cond far (Some Overflow) (cond bytes (Some Overflow) None)))
          ≡ None → told rest ≡ status_of fault)
          → told (option_or (cond other (Some (of_list (number_of IncompatibleLayout) (pos 1) (pos 1) 0 (length strides) (length shape)))
          (cond size (Some (of_limits (pos 5) 0 0)) (cond far (Some (of_limits (pos 6) 0 0))
          (cond bytes (Some (of_limits (pos 7) (span shape strides) elem_size)) None)))) rest)
          ≡ status_of (option_or (cond other (Some IncompatibleLayout)
          (cond size (Some Overflow) (cond far (Some Overflow) (cond bytes (Some Overflow) None)))) fault)
      by true size far bytes fits = refl
      by false true far bytes fits = refl
      by false false true bytes fits = refl
      by false false false true fits = refl
      by false false false false fits = fits refl

  status_from : (start elem_size len : ℕ) (mode : CanIndexCheckMode)
      → (layout_reason (Some start) elem_size len mode shape strides).status
      ≡ status_of (acceptance_from start elem_size len mode shape strides)
  status_from start elem_size len mode =
      limits_status elem_size (buffer_reason start len mode shape strides) _ (λ fits. buffer_status start len mode)

  -- as a call writes it
  pub status_of_start : (start elem_size len : ℕ) (mode : CanIndexCheckMode) (reason : Reason)
      → reason ≡ layout_reason (Some start) elem_size len mode shape strides
      → reason.status ≡ status_of (acceptance_from start elem_size len mode shape strides)
  status_of_start start elem_size len mode reason same = ap Reason.status same ∙ status_from start elem_size len mode

  -- from the lowest start as well
  pub status_of_lowest : (elem_size len : ℕ) (mode : CanIndexCheckMode) (reason : Reason)
      → reason ≡ layout_reason None elem_size len mode shape strides
      → reason.status ≡ status_of (acceptance elem_size len mode shape strides)
  status_of_lowest elem_size len mode reason same =
      ap Reason.status same ∙ status_from (low_span shape strides) elem_size len mode
      ∙ ap status_of (acceptance_from_lowest elem_size len mode shape strides)
