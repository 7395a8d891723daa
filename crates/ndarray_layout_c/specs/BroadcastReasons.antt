-- Why two shapes have none in common, and why a layout of a shape can't be read as one of another: the first axis at fault. Both shapes are
-- padded with lengths of 1 in front, so that their last axes are side by side.
use Rattle.std.specs.Prelude.{◌≡◌, ℕ, pos, ◌==◌, ◌||◌, not, max, Bool, is_some, nat_lt, Option, if◌then◌else◌, List, [], ◌∷◌, length}
use Rattle.std.specs.Prelude.{slice_index, refl}
use Rattle.std.specs.List.{find, range_with_len}
use Rattle.std.specs.Option.{option_map_or}
use Rattle.ndarray_layout.specs.declared.ErrorKind.TheVariants.{IncompatibleShape, Overflow}
use Rattle.ndarray_layout.specs.CommonShape.{common_length, padded}
use Rattle.ndarray_layout.specs.Size.{limit, nonzero_size}
use Rattle.ndarray_layout_c.specs.declared.reasons.Reason.{Reason}
use Rattle.ndarray_layout_c.specs.Reasons.{common_rule, count_rule, no_reason, of_axis, of_list, size_rule, stretch_rule}
use Rattle.ndarray_layout_c.specs.Reasons.{target_list}
use Rattle.ndarray_layout_c.specs.Statuses.{number_of}

-- the length of an axis of a shape, padded up to so many axes
abbrev pub padded_length : ℕ → List ℕ → ℕ → ℕ
padded_length count shape axis = slice_index (padded count shape) axis

-- the lengths that two shapes have at an axis, of so many, have none in common
abbrev pub is_apart : ℕ → List ℕ → List ℕ → ℕ → Bool
is_apart count first second axis = not (is_some (common_length (padded_length count first axis) (padded_length count second axis)))

-- the first such axis of so many
abbrev pub first_apart : ℕ → List ℕ → List ℕ → Option ℕ
first_apart count first second = find (is_apart count first second) (range_with_len 0 count)

-- why two shapes have none in common
abbrev pub co_broadcast_reason : List ℕ → List ℕ → Reason
co_broadcast_reason first second =
    let count = max (length first) (length second) in
    option_map_or
    (λ axis. of_axis (number_of IncompatibleShape) common_rule axis (pos 0) (padded_length count first axis)
    (padded_length count second axis))
    (first_apart count first second)
    no_reason

-- the length that a shape has at an axis of another one is neither 1 nor that of the other
abbrev pub is_fixed : List ℕ → List ℕ → ℕ → Bool
is_fixed shape target axis =
    not (padded_length (length target) shape axis == 1 || padded_length (length target) shape axis == slice_index target axis)

-- the first such axis
abbrev pub first_fixed : List ℕ → List ℕ → Option ℕ
first_fixed shape target = find (is_fixed shape target) (range_with_len 0 (length target))

-- why a layout of a shape can't be read as one of another
abbrev pub broadcast_reason : List ℕ → List ℕ → Reason
broadcast_reason shape target =
    if nat_lt (length target) (length shape)
    then of_list (number_of IncompatibleShape) count_rule target_list 0 (length target) (length shape)
    else option_map_or
    (λ axis. of_axis (number_of IncompatibleShape) stretch_rule axis (pos 0) (padded_length (length target) shape axis)
    (slice_index target axis))
    (first_fixed shape target)
    (if nat_lt limit (nonzero_size target) then of_axis (number_of Overflow) size_rule 0 (pos 0) 0 0 else no_reason)

-- examples
two_and_three : co_broadcast_reason (4 ∷ 2 ∷ 5 ∷ []) (3 ∷ 1 ∷ [])
    ≡ record { status = pos 1; rule = pos 16; list = pos 0; unit = pos 0; axis = 1; number = pos 0; size = 2; other = 3 }
two_and_three = refl

in_common : co_broadcast_reason (4 ∷ 1 ∷ 5 ∷ []) (3 ∷ 1 ∷ []) ≡ no_reason
in_common = refl

four_to_three : broadcast_reason (1 ∷ 4 ∷ []) (2 ∷ 5 ∷ 3 ∷ [])
    ≡ record { status = pos 1; rule = pos 17; list = pos 0; unit = pos 0; axis = 2; number = pos 0; size = 4; other = 3 }
four_to_three = refl

two_to_one : broadcast_reason (2 ∷ 4 ∷ []) (1 ∷ 4 ∷ [])
    ≡ record { status = pos 1; rule = pos 17; list = pos 0; unit = pos 0; axis = 0; number = pos 0; size = 2; other = 1 }
two_to_one = refl

fewer_axes : broadcast_reason (1 ∷ 4 ∷ []) (4 ∷ [])
    ≡ record { status = pos 1; rule = pos 1; list = pos 5; unit = pos 0; axis = 0; number = pos 0; size = 1; other = 2 }
fewer_axes = refl

too_large : broadcast_reason (1 ∷ 2 ∷ []) (4611686018427387904 ∷ 2 ∷ [])
    ≡ record { status = pos 6; rule = pos 5; list = pos 0; unit = pos 0; axis = 0; number = pos 0; size = 0; other = 0 }
too_large = refl

two_new_axes : broadcast_reason (3 ∷ []) (2 ∷ 2 ∷ 3 ∷ []) ≡ no_reason
two_new_axes = refl
