-- The status of a reason is that of the call.
use Rattle.std.proofs.Common.{◌≡◌, ℕ, ℤ, pos, Bool, true, false, cond, Option, Some, None, List, [], ◌∷◌, ◌+◌, ◌≤◌, length, nat_eq}
use Rattle.std.proofs.Common.{refl, ap, ◌∙◌, arith}
use Rattle.std.specs.Prelude.{is_some, nat_le, not, ◌&&◌}
use Rattle.std.specs.List.{enumerate_from, find}
use Rattle.std.specs.Option.{option_map_or, option_or}
use Rattle.std.proofs.lemmas.Bool.{le-leb}
use Rattle.ndarray_layout.specs.declared.ErrorKind.{ErrorKind}
use Rattle.ndarray_layout.specs.declared.ErrorKind.TheVariants.{IncompatibleShape, OutOfBounds, Unsupported}
use Rattle.ndarray_layout.specs.declared.Fit.{Fit}
use Rattle.ndarray_layout.specs.declared.SliceInfoElem.{SliceInfoElem}
use Rattle.ndarray_layout.specs.declared.SliceInfoElem.TheVariants as elem
use Rattle.ndarray_layout.specs.AxisElems.{axis_elems}
use Rattle.ndarray_layout.specs.AxisFault.{slice_fault}
use Rattle.ndarray_layout.specs.Signed.{magnitude}
use Rattle.ndarray_layout.specs.SliceBounds.{bound_meaning, is_bound, is_coordinate, meaning, slice_with}
use Rattle.ndarray_layout.specs.SliceFault.{argument_fault, elem_fault, fault_of_each, in_count}
use Rattle.ndarray_layout_c.specs.declared.reasons.Reason.{Reason}
use Rattle.ndarray_layout_c.specs.Reasons.{bound_rule, no_reason, of_axis, of_list, step_rule}
use Rattle.ndarray_layout_c.specs.SliceReasons.{argument_reason, elem_reason, is_at_fault}
use Rattle.ndarray_layout_c.specs.Statuses.{number_of, status_of}

-- the length of an axis is a bound of it
length_is_bound : (len : ℕ) → nat_le len len ≡ true
length_is_bound len = le-leb len len (omega arith)

-- a range from a bound to the end of the axis has the fault of the bound
pub fault_of_bound : (fit : Fit) (len : ℕ) (bound : ℤ)
    → slice_fault fit len (slice_with bound None (pos 1)) ≡ cond (is_bound len (bound_meaning fit len bound)) None (Some OutOfBounds)
fault_of_bound fit len bound = by (is_bound len (bound_meaning fit len bound)) (nat_le len len) (length_is_bound len)
  where
    by : (start end : Bool) → end ≡ true
        → cond (not (start && end)) (Some OutOfBounds) None ≡ cond start None (Some OutOfBounds)
    by true true whole = refl
    by true false whole = absurd (cc)
    by false end whole = refl

-- ---- an element that doesn't fit
index_status : (fits : Bool) (kind : ErrorKind) → cond fits None (Some OutOfBounds) ≡ Some kind → pos 4 ≡ number_of kind
index_status true kind fault = absurd (cc)
index_status false kind fault = cc

module _ (axis len : ℕ) (start : ℤ) where
  abbrev told : Option ℤ → Reason
  told found =
      option_map_or (λ bound. of_axis (number_of OutOfBounds) bound_rule axis bound len 0) found
      (of_axis (number_of Unsupported) step_rule axis (pos 0) len 0)

  to_the_end : (s e z : Bool) (kind : ErrorKind) → e ≡ true
      → cond (not (s && e)) (Some OutOfBounds) (cond z (Some Unsupported) None) ≡ Some kind
      → (told (cond (not s) (Some start) None)).status ≡ number_of kind
  to_the_end false e z kind whole fault = cc
  to_the_end true true true kind whole fault = cc
  to_the_end true true false kind whole fault = absurd (cc)
  to_the_end true false z kind whole fault = absurd (cc)

  with_end : (s e z : Bool) (end : ℤ) (kind : ErrorKind)
      → cond (not (s && e)) (Some OutOfBounds) (cond z (Some Unsupported) None) ≡ Some kind
      → (told (cond (not s) (Some start) (cond (not e) (Some end) None))).status ≡ number_of kind
  with_end false e z end kind fault = cc
  with_end true false z end kind fault = cc
  with_end true true true end kind fault = cc
  with_end true true false end kind fault = absurd (cc)

elem_status : (fit : Fit) (axis len : ℕ) (one : SliceInfoElem) (kind : ErrorKind) → elem_fault fit len one ≡ Some kind
    → (elem_reason fit axis len one).status ≡ number_of kind
elem_status fit axis len (elem.Slice start None step) kind fault =
    to_the_end axis len start (is_bound len (bound_meaning fit len start)) (nat_le len len) (nat_eq (magnitude step) 0) kind
    (length_is_bound len) fault
elem_status fit axis len (elem.Slice start (Some end) step) kind fault =
    with_end axis len start (is_bound len (bound_meaning fit len start)) (is_bound len (bound_meaning fit len end))
    (nat_eq (magnitude step) 0) end kind fault
elem_status fit axis len (elem.Index index) kind fault = index_status (is_coordinate len (meaning len index)) kind fault
elem_status fit axis len elem.NewAxis kind fault = absurd (cc)

-- ---- the first of them
abbrev first_reason : Fit → ℕ → List (ℕ × SliceInfoElem) → Reason
first_reason fit axis pairs =
    option_map_or (λ one. elem_reason fit one.0 one.1.0 one.1.1) (find (is_at_fault fit) (enumerate_from axis pairs)) no_reason

first_status : (fit : Fit) (axis : ℕ) (pairs : List (ℕ × SliceInfoElem))
    → (first_reason fit axis pairs).status ≡ status_of (fault_of_each fit pairs)
first_status fit axis [] = refl
first_status fit axis (one ∷ others) = by (elem_fault fit one.0 one.1) refl (first_status fit (axis + 1) others)
  where
    by : (fault : Option ErrorKind) → elem_fault fit one.0 one.1 ≡ fault
        → (first_reason fit (axis + 1) others).status ≡ status_of (fault_of_each fit others)
        → (option_map_or (λ one. elem_reason fit one.0 one.1.0 one.1.1)
        (cond (is_some fault) (Some (axis, one)) (find (is_at_fault fit) (enumerate_from (axis + 1) others))) no_reason).status
        ≡ status_of (option_or fault (fault_of_each fit others))
    by None fits rest = rest
    by (Some kind) fault rest = elem_status fit axis one.0 one.1 kind fault

-- the status of the reason of an argument is that of its fault
argument_status : (fit : Fit) (shape : List ℕ) (elems : List SliceInfoElem)
    → (argument_reason fit shape elems).status ≡ status_of (argument_fault fit shape elems)
argument_status fit shape elems = by (nat_eq (in_count elems) (length shape))
  where
    by : (same : Bool)
        → (cond same (option_map_or (λ one. elem_reason fit one.0 one.1.0 one.1.1)
        (find (is_at_fault fit) (enumerate_from 0 (axis_elems shape elems))) no_reason)
        (of_list (number_of IncompatibleShape) (pos 1) (pos 2) 0 (in_count elems) (length shape))).status
        ≡ status_of (cond same (fault_of_each fit (axis_elems shape elems)) (Some IncompatibleShape))
    by true = first_status fit 0 (axis_elems shape elems)
    by false = refl

-- as a call writes it
pub status_of_argument : (fit : Fit) (shape : List ℕ) (elems : List SliceInfoElem) (reason : Reason)
    → reason ≡ argument_reason fit shape elems → reason.status ≡ status_of (argument_fault fit shape elems)
status_of_argument fit shape elems reason same = ap Reason.status same ∙ argument_status fit shape elems

-- at most as many elements are for axes as there are axes
pub axis_elems_few : (shape : List ℕ) (elems : List SliceInfoElem) → length (axis_elems shape elems) ≤ length shape
axis_elems_few shape [] = omega arith
axis_elems_few shape (elem.NewAxis ∷ elems) = axis_elems_few shape elems
axis_elems_few [] (elem.Slice start end step ∷ elems) = omega arith
axis_elems_few [] (elem.Index index ∷ elems) = omega arith
axis_elems_few (len ∷ shape) (elem.Slice start end step ∷ elems) = omega (arith, axis_elems_few shape elems)
axis_elems_few (len ∷ shape) (elem.Index index ∷ elems) = omega (arith, axis_elems_few shape elems)
