-- Why a shape can't be split at a coordinate of an axis, and why an axis can't be merged into another one.
use Rattle.std.specs.Prelude.{◌≡◌, ℕ, pos, ◌==◌, nat_lt, if◌then◌else◌, List, [], ◌∷◌, length, slice_index, refl}
use Rattle.ndarray_layout.specs.declared.ErrorKind.TheVariants.{OutOfBounds, Unsupported}
use Rattle.ndarray_layout_c.specs.declared.reasons.Reason.{Reason}
use Rattle.ndarray_layout_c.specs.Reasons.{axis_rule, no_reason, of_axis, same_axis_rule, split_rule}
use Rattle.ndarray_layout_c.specs.Statuses.{number_of}

-- there is no such axis
abbrev pub no_axis : List ℕ → ℕ → Reason
no_axis shape axis = of_axis (number_of OutOfBounds) axis_rule axis (pos 0) (length shape) 0

-- why a shape can't be split at a coordinate of an axis
abbrev pub split_reason : List ℕ → ℕ → ℕ → Reason
split_reason shape axis index =
    if nat_lt axis (length shape)
    then (if nat_lt (slice_index shape axis) index
    then of_axis (number_of OutOfBounds) split_rule axis (pos 0) (slice_index shape axis) index
    else no_reason)
    else no_axis shape axis

-- why an axis can't be merged into another one: it isn't there, the other isn't, or they are one
abbrev pub axes_reason : List ℕ → ℕ → ℕ → Reason
axes_reason shape take into =
    if nat_lt take (length shape)
    then (if nat_lt into (length shape)
    then (if take == into then of_axis (number_of Unsupported) same_axis_rule take (pos 0) 0 0 else no_reason)
    else no_axis shape into)
    else no_axis shape take

-- examples
past_the_last : split_reason (2 ∷ 3 ∷ []) 1 4
    ≡ record { status = pos 4; rule = pos 21; list = pos 0; unit = pos 0; axis = 1; number = pos 0; size = 3; other = 4 }
past_the_last = refl

no_third_axis : split_reason (2 ∷ 3 ∷ []) 2 9
    ≡ record { status = pos 4; rule = pos 19; list = pos 0; unit = pos 0; axis = 2; number = pos 0; size = 2; other = 0 }
no_third_axis = refl

after_the_last : split_reason (2 ∷ 3 ∷ []) 1 3 ≡ no_reason
after_the_last = refl

no_axis_to_take : axes_reason (2 ∷ 3 ∷ []) 7 5
    ≡ record { status = pos 4; rule = pos 19; list = pos 0; unit = pos 0; axis = 7; number = pos 0; size = 2; other = 0 }
no_axis_to_take = refl

no_axis_to_merge_into : axes_reason (2 ∷ 3 ∷ []) 1 5
    ≡ record { status = pos 4; rule = pos 19; list = pos 0; unit = pos 0; axis = 5; number = pos 0; size = 2; other = 0 }
no_axis_to_merge_into = refl

one_axis_twice : axes_reason (2 ∷ 3 ∷ []) 1 1
    ≡ record { status = pos 5; rule = pos 20; list = pos 0; unit = pos 0; axis = 1; number = pos 0; size = 0; other = 0 }
one_axis_twice = refl

two_axes : axes_reason (2 ∷ 3 ∷ []) 1 0 ≡ no_reason
two_axes = refl
