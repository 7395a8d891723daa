-- Why a layout isn't accepted over a buffer: the first rule that it breaks.
use Rattle.std.specs.Prelude.{◌≡◌, ℕ, ◌+◌, ◌*◌, ℤ, pos, negsuc, Bool, not, ◌==◌, nat_le, nat_lt, Option, Some, None, if◌then◌else◌}
use Rattle.std.specs.Prelude.{List, [], ◌∷◌, length, slice_index_or, refl}
use Rattle.std.specs.List.{find, range_with_len}
use Rattle.std.specs.Option.{option_map, option_or, unwrap_or}
use Rattle.ndarray_layout.specs.declared.CanIndexCheckMode.{CanIndexCheckMode}
use Rattle.ndarray_layout.specs.declared.CanIndexCheckMode.TheVariants.{OwnedMutable, ReadOnly}
use Rattle.ndarray_layout.specs.declared.ErrorKind.TheVariants.{IncompatibleLayout, OutOfBounds, Overflow, Unsupported}
use Rattle.ndarray_layout.specs.Acceptance.{is_owned}
use Rattle.ndarray_layout.specs.NoAlias.{span_of_others, strides_over_others}
use Rattle.ndarray_layout.specs.Size.{is_empty, limit, nonzero_size}
use Rattle.ndarray_layout.specs.Span.{high_span, low_span, span}
use Rattle.ndarray_layout_c.specs.declared.reasons.Reason.{Reason}
use Rattle.ndarray_layout_c.specs.Reasons.{alias_rule, bytes_rule, count_rule, highest_rule, length_rule, lowest_rule, size_rule, span_rule}
use Rattle.ndarray_layout_c.specs.Reasons.{no_reason, of_axis, of_list, strides_list}
use Rattle.ndarray_layout_c.specs.Statuses.{number_of}

-- why a layout isn't within the limits
abbrev pub limits_reason : ℕ → List ℕ → List ℤ → Option Reason
limits_reason elem_size shape strides =
    if not (length shape == length strides)
    then Some (of_list (number_of IncompatibleLayout) count_rule strides_list 0 (length strides) (length shape))
    else if nat_lt limit (nonzero_size shape) then Some (of_axis (number_of Overflow) size_rule 0 (pos 0) 0 0)
    else if nat_lt limit (span shape strides) then Some (of_axis (number_of Overflow) span_rule 0 (pos 0) 0 0)
    else if nat_lt limit (span shape strides * elem_size)
    then Some (of_axis (number_of Overflow) bytes_rule 0 (pos 0) (span shape strides) elem_size)
    else None

-- the highest place of a layout from a start is past len elements; without an index it may be the one after them
abbrev pub is_past : ℕ → ℕ → List ℕ → List ℤ → Bool
is_past start len shape strides =
    (if is_empty shape then nat_lt len (start + high_span shape strides) else nat_le len (start + high_span shape strides))

-- why a layout within the limits leaves a buffer of len elements, from a start
abbrev pub bounds_reason : ℕ → ℕ → List ℕ → List ℤ → Option Reason
bounds_reason start len shape strides =
    if nat_lt start (low_span shape strides)
    then Some (of_axis (number_of OutOfBounds) lowest_rule 0 (pos 0) (low_span shape strides) start)
    else if nat_lt limit (start + high_span shape strides)
    then Some (of_axis (number_of OutOfBounds) highest_rule 0 (pos 0) (high_span shape strides) start)
    else if is_past start len shape strides
    then Some (of_axis (number_of OutOfBounds) length_rule 0 (pos 0) (start + high_span shape strides) len)
    else None

-- the first axis whose stride isn't past the reach of the others with no greater one
abbrev pub first_alias : List ℕ → List ℤ → Option ℕ
first_alias shape strides = find (λ axis. not (strides_over_others shape strides axis)) (range_with_len 0 (length shape))

-- why a layout breaks the no-alias rule: at that axis, its stride, and the reach of the others
abbrev pub alias_reason : List ℕ → List ℤ → Option Reason
alias_reason shape strides =
    option_map
    (λ axis. of_axis (number_of Unsupported) alias_rule axis (slice_index_or strides axis (pos 0)) (span_of_others shape strides axis) 0)
    (first_alias shape strides)

-- why a layout within the limits isn't accepted over a buffer of len elements, from a start
abbrev pub buffer_reason : ℕ → ℕ → CanIndexCheckMode → List ℕ → List ℤ → Option Reason
buffer_reason start len mode shape strides =
    option_or (bounds_reason start len shape strides)
    (if is_empty shape then None else if is_owned mode then alias_reason shape strides else None)

-- why a layout isn't accepted over a buffer of len elements of a size, from a start, or else from the lowest that it can have
abbrev pub layout_reason : Option ℕ → ℕ → ℕ → CanIndexCheckMode → List ℕ → List ℤ → Reason
layout_reason start elem_size len mode shape strides =
    unwrap_or
    (option_or (limits_reason elem_size shape strides)
    (buffer_reason (unwrap_or start (low_span shape strides)) len mode shape strides))
    no_reason

-- examples
one_stride_short : layout_reason None 1 6 OwnedMutable (2 ∷ 3 ∷ []) (pos 1 ∷ [])
    ≡ record { status = pos 2; rule = pos 1; list = pos 1; unit = pos 0; axis = 0; number = pos 0; size = 1; other = 2 }
one_stride_short = refl

too_large : layout_reason None 1 6 OwnedMutable (9223372036854775807 ∷ 2 ∷ []) (pos 0 ∷ pos 0 ∷ [])
    ≡ record { status = pos 6; rule = pos 5; list = pos 0; unit = pos 0; axis = 0; number = pos 0; size = 0; other = 0 }
too_large = refl

too_far : layout_reason None 1 6 OwnedMutable (3 ∷ []) (pos 9223372036854775807 ∷ [])
    ≡ record { status = pos 6; rule = pos 6; list = pos 0; unit = pos 0; axis = 0; number = pos 0; size = 0; other = 0 }
too_far = refl

too_many_bytes : layout_reason None 9223372036854775807 6 OwnedMutable (3 ∷ []) (pos 1 ∷ [])
    ≡ record { status = pos 6; rule = pos 7; list = pos 0; unit = pos 0; axis = 0; number = pos 0; size = 2; other = 9223372036854775807 }
too_many_bytes = refl

below_the_buffer : layout_reason (Some 1) 1 5 ReadOnly (3 ∷ []) (negsuc 0 ∷ [])
    ≡ record { status = pos 4; rule = pos 8; list = pos 0; unit = pos 0; axis = 0; number = pos 0; size = 2; other = 1 }
below_the_buffer = refl

past_the_limit : layout_reason (Some 9223372036854775807) 1 5 ReadOnly (3 ∷ []) (pos 1 ∷ [])
    ≡ record { status = pos 4; rule = pos 9; list = pos 0; unit = pos 0; axis = 0; number = pos 0; size = 2; other = 9223372036854775807 }
past_the_limit = refl

past_the_buffer : layout_reason (Some 4) 1 5 ReadOnly (3 ∷ []) (pos 1 ∷ [])
    ≡ record { status = pos 4; rule = pos 10; list = pos 0; unit = pos 0; axis = 0; number = pos 0; size = 6; other = 5 }
past_the_buffer = refl

crossed_owned : layout_reason None 1 10 OwnedMutable (1 ∷ 3 ∷ 2 ∷ []) (pos 0 ∷ pos 2 ∷ negsuc 2 ∷ [])
    ≡ record { status = pos 5; rule = pos 11; list = pos 0; unit = pos 0; axis = 2; number = negsuc 2; size = 4; other = 0 }
crossed_owned = refl

crossed_read : layout_reason None 1 10 ReadOnly (1 ∷ 3 ∷ 2 ∷ []) (pos 0 ∷ pos 2 ∷ negsuc 2 ∷ []) ≡ no_reason
crossed_read = refl
