-- Why a slice argument is none of a shape: the first element that doesn't fit, and by what.
use Rattle.std.specs.Prelude.{◌≡◌, ℕ, ℤ, pos, negsuc, Bool, not, ◌==◌, Option, Some, None, is_some, if◌then◌else◌}
use Rattle.std.specs.Prelude.{List, [], ◌∷◌, length, refl}
use Rattle.std.specs.List.{enumerate_from, find}
use Rattle.std.specs.Option.{option_and_then, option_map_or}
use Rattle.ndarray_layout.specs.declared.ErrorKind.TheVariants.{IncompatibleShape, OutOfBounds, Unsupported}
use Rattle.ndarray_layout.specs.declared.Fit.{Fit}
use Rattle.ndarray_layout.specs.declared.Fit.TheVariants.{Strict, Clamp}
use Rattle.ndarray_layout.specs.declared.SliceInfoElem.{SliceInfoElem}
use Rattle.ndarray_layout.specs.declared.SliceInfoElem.TheVariants as elem
use Rattle.ndarray_layout.specs.AxisElems.{axis_elems}
use Rattle.ndarray_layout.specs.SliceBounds.{bound_meaning, is_bound}
use Rattle.ndarray_layout.specs.SliceFault.{elem_fault, in_count}
use Rattle.ndarray_layout_c.specs.declared.reasons.Reason.{Reason}
use Rattle.ndarray_layout_c.specs.Reasons.{bound_rule, count_rule, index_rule, no_reason, of_axis, of_list, slice_list, step_rule}
use Rattle.ndarray_layout_c.specs.Statuses.{number_of}

-- a bound of a range means no number from 0 to the length of the axis
abbrev pub is_no_bound : Fit → ℕ → ℤ → Bool
is_no_bound fit len bound = not (is_bound len (bound_meaning fit len bound))

-- the first bound of a range that is none of the axis
abbrev pub bound_at_fault : Fit → ℕ → ℤ → Option ℤ → Option ℤ
bound_at_fault fit len start end =
    if is_no_bound fit len start then Some start
    else option_and_then (λ bound. if is_no_bound fit len bound then Some bound else None) end

-- why an element that doesn't fit an axis of length len doesn't: an index, a bound, or else the step 0
abbrev pub elem_reason : Fit → ℕ → ℕ → SliceInfoElem → Reason
elem_reason fit axis len (elem.Slice start end step) =
    option_map_or (λ bound. of_axis (number_of OutOfBounds) bound_rule axis bound len 0)
    (bound_at_fault fit len start end)
    (of_axis (number_of Unsupported) step_rule axis (pos 0) len 0)
elem_reason fit axis len (elem.Index index) = of_axis (number_of OutOfBounds) index_rule axis index len 0
elem_reason fit axis len elem.NewAxis = no_reason

-- an axis, with its length and its element, that the element doesn't fit
abbrev pub is_at_fault : Fit → ℕ × (ℕ × SliceInfoElem) → Bool
is_at_fault fit one = is_some (elem_fault fit one.1.0 one.1.1)

-- why an argument is none of a shape: it is for more axes or fewer, or the first element at fault
abbrev pub argument_reason : Fit → List ℕ → List SliceInfoElem → Reason
argument_reason fit shape elems =
    if in_count elems == length shape
    then option_map_or (λ one. elem_reason fit one.0 one.1.0 one.1.1)
    (find (is_at_fault fit) (enumerate_from 0 (axis_elems shape elems)))
    no_reason
    else of_list (number_of IncompatibleShape) count_rule slice_list 0 (in_count elems) (length shape)

-- examples
third_axis : argument_reason Strict (2 ∷ 3 ∷ 5 ∷ [])
    (elem.Index (pos 0) ∷ elem.NewAxis ∷ elem.Slice (pos 0) None (pos 1) ∷ elem.Index (pos 9) ∷ [])
    ≡ record { status = pos 4; rule = pos 2; list = pos 0; unit = pos 0; axis = 2; number = pos 9; size = 5; other = 0 }
third_axis = refl

start_first : argument_reason Strict (4 ∷ []) (elem.Slice (pos 5) (Some (negsuc 8)) (pos 0) ∷ [])
    ≡ record { status = pos 4; rule = pos 3; list = pos 0; unit = pos 0; axis = 0; number = pos 5; size = 4; other = 0 }
start_first = refl

end_of_a_range : argument_reason Strict (4 ∷ []) (elem.Slice (pos 4) (Some (negsuc 8)) (pos 0) ∷ [])
    ≡ record { status = pos 4; rule = pos 3; list = pos 0; unit = pos 0; axis = 0; number = negsuc 8; size = 4; other = 0 }
end_of_a_range = refl

step_of_a_clamped_range : argument_reason Clamp (3 ∷ 4 ∷ [])
    (elem.Slice (pos 9) None (pos 1) ∷ elem.Slice (pos 5) (Some (negsuc 8)) (pos 0) ∷ [])
    ≡ record { status = pos 5; rule = pos 4; list = pos 0; unit = pos 0; axis = 1; number = pos 0; size = 4; other = 0 }
step_of_a_clamped_range = refl

one_of_two_axes : argument_reason Strict (4 ∷ 5 ∷ []) (elem.Index (pos 9) ∷ [])
    ≡ record { status = pos 1; rule = pos 1; list = pos 2; unit = pos 0; axis = 0; number = pos 0; size = 1; other = 2 }
one_of_two_axes = refl

all_fit : argument_reason Strict (4 ∷ []) (elem.Index (negsuc 3) ∷ []) ≡ no_reason
all_fit = refl
