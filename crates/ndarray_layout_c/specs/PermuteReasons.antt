-- Why a list of axes is no order of the axes of a shape: one is missing, or else it has another count.
use Rattle.std.specs.Prelude.{◌≡◌, ℕ, pos, ◌==◌, not, Bool, Option, if◌then◌else◌, List, [], ◌∷◌, length, refl}
use Rattle.std.specs.List.{find, list_any, range_with_len}
use Rattle.std.specs.Option.{option_map_or}
use Rattle.ndarray_layout.specs.declared.ErrorKind.TheVariants.{IncompatibleShape}
use Rattle.ndarray_layout_c.specs.declared.reasons.Reason.{Reason}
use Rattle.ndarray_layout_c.specs.Reasons.{axes_list, count_rule, missing_rule, no_reason, of_axis, of_list}
use Rattle.ndarray_layout_c.specs.Statuses.{number_of}

-- an axis is listed
abbrev pub is_listed : List ℕ → ℕ → Bool
is_listed axes axis = list_any (λ other. axis == other) axes

-- the first axis of a shape that isn't listed
abbrev pub first_missing : List ℕ → List ℕ → Option ℕ
first_missing shape axes = find (λ axis. not (is_listed axes axis)) (range_with_len 0 (length shape))

-- why a list is no order of the axes of a shape
abbrev pub permute_reason : List ℕ → List ℕ → Reason
permute_reason shape axes =
    option_map_or
    (λ axis. of_axis (number_of IncompatibleShape) missing_rule axis (pos 0) (length axes) (length shape))
    (first_missing shape axes)
    (if length axes == length shape then no_reason
    else of_list (number_of IncompatibleShape) count_rule axes_list 0 (length axes) (length shape))

-- examples
one_axis_twice : permute_reason (2 ∷ 3 ∷ 4 ∷ []) (0 ∷ 2 ∷ 2 ∷ [])
    ≡ record { status = pos 1; rule = pos 14; list = pos 0; unit = pos 0; axis = 1; number = pos 0; size = 3; other = 3 }
one_axis_twice = refl

one_axis_too_many : permute_reason (2 ∷ 3 ∷ []) (1 ∷ 0 ∷ 1 ∷ [])
    ≡ record { status = pos 1; rule = pos 1; list = pos 4; unit = pos 0; axis = 0; number = pos 0; size = 3; other = 2 }
one_axis_too_many = refl

columns_first : permute_reason (2 ∷ 3 ∷ []) (1 ∷ 0 ∷ []) ≡ no_reason
columns_first = refl
