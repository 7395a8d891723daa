-- Which layouts are accepted over data, and which fault any other has.
use Rattle.std.specs.Prelude.{◌≡◌, ℕ, ◌*◌, ℤ, pos, Bool, true, false, not, ◌&&◌, ◌==◌, nat_le, nat_lt, Option, Some, None}
use Rattle.std.specs.Prelude.{if◌then◌else◌, List, [], ◌∷◌, length, refl}
use Rattle.std.specs.Option.{option_or}
use Rattle.nd_base.specs.declared.error.ErrorKind.{ErrorKind}
use Rattle.nd_base.specs.declared.error.ErrorKind.TheVariants.{IncompatibleLayout, OutOfBounds, Unsupported, Overflow}
use Rattle.nd_base.specs.Size.{nonzero_size, is_empty, limit}
use Rattle.nd_base.specs.Span.{span}
use Rattle.nd_shape.specs.declared.acceptance.CanIndexCheckMode.{CanIndexCheckMode}
use Rattle.nd_shape.specs.declared.acceptance.CanIndexCheckMode.TheVariants.{OwnedMutable, ReadOnly}
use Rattle.nd_shape.specs.NoAlias.{satisfies_no_alias_rule}

-- elements are owned or written, and not only read
abbrev pub is_owned : CanIndexCheckMode → Bool
is_owned OwnedMutable = true
is_owned ReadOnly = false

-- the fault of a layout apart from any data: no stride for each length, or past the limit the product of the lengths that are not
-- 0, or the span, in elements or in bytes
abbrev pub size_fault : ℕ → List ℕ → List ℤ → Option ErrorKind
size_fault elem_size shape strides =
    if not (length shape == length strides) then Some IncompatibleLayout
    else if nat_lt limit (nonzero_size shape) then Some Overflow
    else if nat_lt limit (span shape strides) then Some Overflow
    else if nat_lt limit (span shape strides * elem_size) then Some Overflow
    else None

-- the layout spans more than data of len elements holds; one without an index may span as many as there are
abbrev pub leaves_data : ℕ → List ℕ → List ℤ → Bool
leaves_data len shape strides =
    (if is_empty shape then nat_lt len (span shape strides) else nat_le len (span shape strides))

-- elements are owned or written, and two indices of the layout may share one
abbrev pub may_share : CanIndexCheckMode → List ℕ → List ℤ → Bool
may_share mode shape strides = not (is_empty shape) && is_owned mode && not (satisfies_no_alias_rule shape strides)

-- whether a layout is accepted over len elements of a size, or else its fault: the first that holds
abbrev pub acceptance : ℕ → ℕ → CanIndexCheckMode → List ℕ → List ℤ → Option ErrorKind
acceptance elem_size len mode shape strides =
    option_or (size_fault elem_size shape strides)
    (if leaves_data len shape strides then Some OutOfBounds
    else if may_share mode shape strides then Some Unsupported
    else None)

-- examples
two_rows_in_four : acceptance 4 4 OwnedMutable (2 ∷ 2 ∷ []) (pos 3 ∷ pos 1 ∷ []) ≡ Some OutOfBounds
two_rows_in_four = refl

two_rows_in_five : acceptance 4 5 OwnedMutable (2 ∷ 2 ∷ []) (pos 3 ∷ pos 1 ∷ []) ≡ None
two_rows_in_five = refl

crossed_owned : acceptance 1 8 OwnedMutable (3 ∷ 2 ∷ []) (pos 2 ∷ pos 3 ∷ []) ≡ Some Unsupported
crossed_owned = refl

crossed_read : acceptance 1 8 ReadOnly (3 ∷ 2 ∷ []) (pos 2 ∷ pos 3 ∷ []) ≡ None
crossed_read = refl

no_index_at_the_end : acceptance 1 1 OwnedMutable (0 ∷ 2 ∷ []) (pos 2 ∷ pos 1 ∷ []) ≡ None
no_index_at_the_end = refl

no_index_past_the_end : acceptance 1 0 OwnedMutable (0 ∷ 2 ∷ []) (pos 2 ∷ pos 1 ∷ []) ≡ Some OutOfBounds
no_index_past_the_end = refl

fewer_strides : acceptance 1 6 OwnedMutable (2 ∷ 3 ∷ []) (pos 1 ∷ []) ≡ Some IncompatibleLayout
fewer_strides = refl

bytes_overflow : acceptance 2 9223372036854775807 OwnedMutable (9223372036854775807 ∷ []) (pos 1 ∷ []) ≡ Some Overflow
bytes_overflow = refl
