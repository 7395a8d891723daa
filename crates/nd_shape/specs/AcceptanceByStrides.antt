-- Which shapes by their own strides or by given ones are accepted over data, and which signs strides may have.
use Rattle.std.specs.Int.{is_negative}
use Rattle.std.specs.List.{list_any}
use Rattle.std.specs.Prelude.{◌≡◌, ℕ, ℤ, pos, negsuc, nat_lt, Option, Some, None, if◌then◌else◌, List, [], ◌∷◌, refl}
use Rattle.nd_base.specs.declared.error.ErrorKind.{ErrorKind}
use Rattle.nd_base.specs.declared.error.ErrorKind.TheVariants.{OutOfBounds, Unsupported, Overflow}
use Rattle.nd_base.specs.Signed.{all_signed}
use Rattle.nd_base.specs.Size.{size, nonzero_size, limit}
use Rattle.nd_shape.specs.Acceptance.{acceptance}
use Rattle.nd_shape.specs.declared.acceptance.CanIndexCheckMode.{CanIndexCheckMode}
use Rattle.nd_shape.specs.declared.acceptance.CanIndexCheckMode.TheVariants.{OwnedMutable}
use Rattle.nd_shape.specs.declared.shape_builder.Strides.{Strides}
use Rattle.nd_shape.specs.declared.shape_builder.Strides.TheVariants.{C, F, Custom}

-- whether a shape by its own strides, row-major or column-major, is accepted over len elements, or else its fault
abbrev pub acceptance_of_standard : ℕ → List ℕ → Option ErrorKind
acceptance_of_standard len shape =
    if nat_lt limit (nonzero_size shape) then Some Overflow
    else if nat_lt len (size shape) then Some OutOfBounds
    else None

-- whether a shape by its own strides, or by given ones that stand for a list, is accepted, or else its fault
abbrev pub acceptance_by_strides :
    {D : Type 0} → (D → List ℕ) → ℕ → ℕ → CanIndexCheckMode → List ℕ → Strides D → Option ErrorKind
acceptance_by_strides list elem_size len mode shape C = acceptance_of_standard len shape
acceptance_by_strides list elem_size len mode shape F = acceptance_of_standard len shape
acceptance_by_strides list elem_size len mode shape (Custom strides) =
    acceptance elem_size len mode shape (all_signed (list strides))

-- the fault of strides of which some are negative
abbrev pub sign_fault : List ℤ → Option ErrorKind
sign_fault strides = (if list_any is_negative strides then Some Unsupported else None)

-- examples
all_in_six : acceptance_of_standard 6 (2 ∷ 3 ∷ []) ≡ None
all_in_six = refl

all_in_five : acceptance_of_standard 5 (2 ∷ 3 ∷ []) ≡ Some OutOfBounds
all_in_five = refl

none_in_nothing : acceptance_of_standard 0 (2 ∷ 0 ∷ []) ≡ None
none_in_nothing = refl

none_but_too_long : acceptance_of_standard 0 (0 ∷ 9223372036854775808 ∷ []) ≡ Some Overflow
none_but_too_long = refl

one_negative : sign_fault (pos 3 ∷ negsuc 0 ∷ []) ≡ Some Unsupported
one_negative = refl

none_negative : sign_fault (pos 3 ∷ pos 0 ∷ []) ≡ None
none_negative = refl

by_columns_in_six : acceptance_by_strides {D = List ℕ} (λ strides. strides) 1 6 OwnedMutable (2 ∷ 3 ∷ []) F ≡ None
by_columns_in_six = refl

as_given_in_six : acceptance_by_strides (λ strides. strides) 1 6 OwnedMutable (2 ∷ 3 ∷ []) (Custom (1 ∷ 1 ∷ [])) ≡ Some Unsupported
as_given_in_six = refl
