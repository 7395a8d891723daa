-- The fault of several layouts of one shape, of which C gives the strides one after another.
use Rattle.std.specs.Prelude.{◌≡◌, ℕ, ◌*◌, ◌==◌, Bool, Option, Some, None, if◌then◌else◌, List, [], ◌∷◌, length, refl}
use Rattle.std.specs.List.{find, range_with_len}
use Rattle.std.specs.Option.{is_some, option_map_or}
use Rattle.ndarray_layout.specs.declared.ErrorKind.{ErrorKind}
use Rattle.ndarray_layout.specs.declared.ErrorKind.TheVariants.{IncompatibleLayout, Overflow}
use Rattle.ndarray_layout.specs.Acceptance.{size_fault}
use Rattle.ndarray_layout.specs.JoinedInAll.{strides_of}
use Rattle.ndarray_layout.specs.Signed.{all_signed}

-- the fault of the layout of a number, from wherever it fits
abbrev pub fault_of_layout : List ℕ → List ℕ → ℕ → Option ErrorKind
fault_of_layout shape strides number = size_fault 1 shape (all_signed (strides_of (length shape) number strides))

-- it has one
abbrev pub is_at_fault : List ℕ → List ℕ → ℕ → Bool
is_at_fault shape strides number = is_some (fault_of_layout shape strides number)

-- the first number whose layout has one
abbrev pub first_at_fault : List ℕ → List ℕ → ℕ → Option ℕ
first_at_fault shape strides layouts = find (is_at_fault shape strides) (range_with_len 0 layouts)

-- the fault of so many layouts: another count of strides than one for each length of each, or else that of the first with one
abbrev pub layouts_fault : List ℕ → List ℕ → ℕ → Option ErrorKind
layouts_fault shape strides layouts =
    if length strides == length shape * layouts
    then option_map_or (fault_of_layout shape strides) (first_at_fault shape strides layouts) None
    else Some IncompatibleLayout

-- examples
two_pictures : layouts_fault (4 ∷ 2 ∷ 3 ∷ []) (12 ∷ 3 ∷ 1 ∷ 6 ∷ 3 ∷ 1 ∷ []) 2 ≡ None
two_pictures = refl

a_stride_short : layouts_fault (4 ∷ 2 ∷ []) (2 ∷ 1 ∷ 2 ∷ []) 2 ≡ Some IncompatibleLayout
a_stride_short = refl

second_too_far : layouts_fault (3 ∷ []) (1 ∷ 9223372036854775807 ∷ []) 2 ≡ Some Overflow
second_too_far = refl

second_first : first_at_fault (3 ∷ []) (1 ∷ 9223372036854775807 ∷ []) 2 ≡ Some 1
second_first = refl
