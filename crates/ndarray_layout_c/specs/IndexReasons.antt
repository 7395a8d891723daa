-- Why a list is no index of a shape: it has another count, or else the first coordinate that is none of its axis.
use Rattle.std.specs.Prelude.{◌≡◌, ℕ, pos, ◌==◌, Bool, nat_le, Option, if◌then◌else◌, List, [], ◌∷◌, length, slice_index, refl}
use Rattle.std.specs.List.{find, range_with_len}
use Rattle.std.specs.Option.{option_map_or}
use Rattle.ndarray_layout.specs.declared.ErrorKind.TheVariants.{OutOfBounds}
use Rattle.ndarray_layout_c.specs.declared.reasons.Reason.{Reason}
use Rattle.ndarray_layout_c.specs.Reasons.{coordinate_rule, count_rule, index_list, no_reason, of_axis, of_list}
use Rattle.ndarray_layout_c.specs.Statuses.{number_of}

-- the coordinate of an axis is none of it
abbrev pub is_outside : List ℕ → List ℕ → ℕ → Bool
is_outside shape index axis = nat_le (slice_index shape axis) (slice_index index axis)

-- the first axis whose coordinate is none of it
abbrev pub first_outside : List ℕ → List ℕ → Option ℕ
first_outside shape index = find (is_outside shape index) (range_with_len 0 (length shape))

-- why a list is no index of a shape
abbrev pub index_reason : List ℕ → List ℕ → Reason
index_reason shape index =
    if length index == length shape
    then option_map_or
    (λ axis. of_axis (number_of OutOfBounds) coordinate_rule axis (pos 0) (slice_index index axis) (slice_index shape axis))
    (first_outside shape index)
    no_reason
    else of_list (number_of OutOfBounds) count_rule index_list 0 (length index) (length shape)

-- examples
second_of_three : index_reason (2 ∷ 3 ∷ 5 ∷ []) (1 ∷ 3 ∷ 9 ∷ [])
    ≡ record { status = pos 4; rule = pos 15; list = pos 0; unit = pos 0; axis = 1; number = pos 0; size = 3; other = 3 }
second_of_three = refl

count_first : index_reason (2 ∷ 3 ∷ []) (9 ∷ [])
    ≡ record { status = pos 4; rule = pos 1; list = pos 3; unit = pos 0; axis = 0; number = pos 0; size = 1; other = 2 }
count_first = refl

last : index_reason (2 ∷ 3 ∷ []) (1 ∷ 2 ∷ []) ≡ no_reason
last = refl
