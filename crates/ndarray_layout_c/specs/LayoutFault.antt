-- The fault of a layout, or of a shape, over data of as many elements as there can be.
use Rattle.std.specs.Prelude.{◌≡◌, ℕ, ℤ, pos, negsuc, Option, Some, None, List, [], ◌∷◌, refl}
use Rattle.ndarray_layout.specs.declared.CanIndexCheckMode.TheVariants.{ReadOnly}
use Rattle.ndarray_layout.specs.declared.ErrorKind.{ErrorKind}
use Rattle.ndarray_layout.specs.declared.ErrorKind.TheVariants.{IncompatibleLayout, OutOfBounds, Overflow}
use Rattle.ndarray_layout.specs.Acceptance.{acceptance}
use Rattle.ndarray_layout.specs.AcceptanceByStrides.{acceptance_of_standard}
use Rattle.ndarray_layout.specs.AcceptanceFrom.{acceptance_from}
use Rattle.ndarray_layout.specs.Signed.{all_signed}
use Rattle.ndarray_layout.specs.Span.{low_span}
use Rattle.ndarray_layout.specs.View.{View, view_of}

-- how many elements there can be: the greatest `usize`
abbrev pub most_elements : ℕ
most_elements = 18446744073709551615

-- the fault of a layout, from wherever it fits, over as many elements as there can be
abbrev pub layout_fault : List ℕ → List ℤ → Option ErrorKind
layout_fault shape strides = acceptance 1 most_elements ReadOnly shape strides

-- the fault of a layout from a start
abbrev pub layout_fault_from : ℕ → List ℕ → List ℤ → Option ErrorKind
layout_fault_from start shape strides = acceptance_from start 1 most_elements ReadOnly shape strides

-- the fault of a shape by its own strides
abbrev pub own_layout_fault : List ℕ → Option ErrorKind
own_layout_fault shape = acceptance_of_standard most_elements shape

-- the view of a layout from the lowest start that it can have
abbrev pub lowest_view : List ℕ → List ℕ → View
lowest_view shape strides = view_of (low_span shape (all_signed strides)) shape strides

-- examples
backwards : layout_fault (3 ∷ []) (negsuc 0 ∷ []) ≡ None
backwards = refl

a_stride_short : layout_fault (2 ∷ 3 ∷ []) (pos 1 ∷ []) ≡ Some IncompatibleLayout
a_stride_short = refl

too_far : layout_fault (3 ∷ []) (pos 9223372036854775807 ∷ []) ≡ Some Overflow
too_far = refl

backwards_from_two : layout_fault_from 2 (3 ∷ []) (negsuc 0 ∷ []) ≡ None
backwards_from_two = refl

backwards_from_one : layout_fault_from 1 (3 ∷ []) (negsuc 0 ∷ []) ≡ Some OutOfBounds
backwards_from_one = refl

too_large : own_layout_fault (9223372036854775807 ∷ 2 ∷ []) ≡ Some Overflow
too_large = refl

lowest : lowest_view (3 ∷ []) (18446744073709551615 ∷ []) ≡ record { start = 2; shape = 3 ∷ []; strides = negsuc 0 ∷ [] }
lowest = refl
