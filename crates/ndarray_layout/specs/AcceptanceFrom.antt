-- Which layouts are accepted over data from a start that is given, and which fault any other has.
use Rattle.std.specs.Prelude.{◌≡◌, ℕ, ◌+◌, ℤ, pos, negsuc, Bool, ◌||◌, nat_le, nat_lt, Option, Some, None}
use Rattle.std.specs.Prelude.{if◌then◌else◌, List, [], ◌∷◌, refl}
use Rattle.std.specs.Option.{option_or}
use Rattle.nd_base.specs.declared.error.ErrorKind.{ErrorKind}
use Rattle.nd_base.specs.declared.error.ErrorKind.TheVariants.{IncompatibleLayout, OutOfBounds, Unsupported, Overflow}
use Rattle.nd_base.specs.Size.{is_empty, limit}
use Rattle.nd_base.specs.Span.{low_span, high_span}
use Rattle.nd_shape.specs.declared.acceptance.CanIndexCheckMode.{CanIndexCheckMode}
use Rattle.nd_shape.specs.declared.acceptance.CanIndexCheckMode.TheVariants.{OwnedMutable, ReadOnly}
use Rattle.nd_shape.specs.Acceptance.{size_fault, may_share}

-- with its first index at start, a layout reaches below data of len elements, past the greatest place or past the data; one without
-- an index may reach as far as there are elements
abbrev pub leaves_data_from : ℕ → ℕ → List ℕ → List ℤ → Bool
leaves_data_from start len shape strides =
    nat_lt start (low_span shape strides)
    || (nat_lt limit (start + high_span shape strides)
    || (if is_empty shape then nat_lt len (start + high_span shape strides) else nat_le len (start + high_span shape strides)))

-- whether a layout is accepted from a start over len elements of a size, or else its fault: the first that holds
abbrev pub acceptance_from : ℕ → ℕ → ℕ → CanIndexCheckMode → List ℕ → List ℤ → Option ErrorKind
acceptance_from start elem_size len mode shape strides =
    option_or (size_fault elem_size shape strides)
    (if leaves_data_from start len shape strides then Some OutOfBounds
    else if may_share mode shape strides then Some Unsupported
    else None)

-- examples
backwards_from_the_last : acceptance_from 4 4 5 OwnedMutable (3 ∷ []) (negsuc 0 ∷ []) ≡ None
backwards_from_the_last = refl

from_too_low : acceptance_from 1 4 5 ReadOnly (3 ∷ []) (negsuc 0 ∷ []) ≡ Some OutOfBounds
from_too_low = refl

from_too_high : acceptance_from 3 4 5 ReadOnly (3 ∷ []) (pos 1 ∷ []) ≡ Some OutOfBounds
from_too_high = refl

one_index_at_the_end : acceptance_from 5 4 5 ReadOnly [] [] ≡ Some OutOfBounds
one_index_at_the_end = refl

no_index_at_the_end : acceptance_from 5 4 5 OwnedMutable (0 ∷ []) (pos 1 ∷ []) ≡ None
no_index_at_the_end = refl

no_index_after_the_end : acceptance_from 6 4 5 OwnedMutable (0 ∷ []) (pos 1 ∷ []) ≡ Some OutOfBounds
no_index_after_the_end = refl

past_the_greatest_place : acceptance_from 9223372036854775808 0 18446744073709551615 ReadOnly [] [] ≡ Some OutOfBounds
past_the_greatest_place = refl

too_far_from_any_start : acceptance_from 6 2 9 ReadOnly (9223372036854775807 ∷ []) (pos 1 ∷ []) ≡ Some Overflow
too_far_from_any_start = refl

one_stride_short : acceptance_from 9 4 5 ReadOnly (2 ∷ 3 ∷ []) (pos 1 ∷ []) ≡ Some IncompatibleLayout
one_stride_short = refl

crossed_owned : acceptance_from 2 1 10 OwnedMutable (3 ∷ 2 ∷ []) (pos 2 ∷ pos 3 ∷ []) ≡ Some Unsupported
crossed_owned = refl

crossed_read : acceptance_from 2 1 10 ReadOnly (3 ∷ 2 ∷ []) (pos 2 ∷ pos 3 ∷ []) ≡ None
crossed_read = refl
