-- The two parts of a view that is split along an axis, and where that fails.
use Rattle.std.specs.Prelude.{◌≡◌, ℕ, ◌+◌, ◌-◌, ℤ, pos, negsuc, ◌+ℤ◌, ◌*ℤ◌, ◌&&◌, nat_lt, nat_le, Option, Some, None, if◌then◌else◌}
use Rattle.std.specs.Prelude.{List, [], ◌∷◌, length, slice_index, slice_index_or, slice_set, refl}
use Rattle.nd_base.specs.declared.error.ErrorKind.{ErrorKind}
use Rattle.nd_base.specs.declared.error.ErrorKind.TheVariants.{OutOfBounds}
use Rattle.nd_base.specs.Signed.{magnitude}
use Rattle.ndarray_layout.specs.View.{View}

-- the fault of a split: there is such an axis, and the first part has no more coordinates than it
abbrev pub split_fault : List ℕ → ℕ → ℕ → Option ErrorKind
split_fault shape axis index = if nat_lt axis (length shape) && nat_le index (slice_index shape axis) then None else Some OutOfBounds

-- the part of the coordinates below one
abbrev pub first_part_of : ℕ → ℕ → View → View
first_part_of axis index view = record { start = view.start; shape = slice_set view.shape axis index; strides = view.strides }

-- the place of the first index of the part from a coordinate on; that of the view where there is no such coordinate
abbrev pub second_start : ℕ → ℕ → View → ℤ
second_start axis index view =
    pos view.start
    +ℤ (pos (if nat_lt index (slice_index view.shape axis) then index else 0) *ℤ slice_index_or view.strides axis (pos 0))

-- the part of the coordinates from one on
abbrev pub second_part_of : ℕ → ℕ → View → View
second_part_of axis index view = record {
  start = magnitude (second_start axis index view);
  shape = slice_set view.shape axis (slice_index view.shape axis - index);
  strides = view.strides;
}

-- which index of the view an index of the second part stands for: its coordinate on the axis lies that much further on. An index of the
-- first part stands for itself
abbrev pub second_source : ℕ → ℕ → List ℕ → List ℕ
second_source axis index coordinates = slice_set coordinates axis (index + slice_index coordinates axis)

-- examples
abbrev two_by_three : View
two_by_three = record { start = 4; shape = 2 ∷ 3 ∷ []; strides = pos 3 ∷ negsuc 1 ∷ [] }

first_column : first_part_of 1 1 two_by_three ≡ record { start = 4; shape = 2 ∷ 1 ∷ []; strides = pos 3 ∷ negsuc 1 ∷ [] }
first_column = refl

other_columns : second_part_of 1 1 two_by_three ≡ record { start = 2; shape = 2 ∷ 2 ∷ []; strides = pos 3 ∷ negsuc 1 ∷ [] }
other_columns = refl

all_columns : first_part_of 1 3 two_by_three ≡ two_by_three
all_columns = refl

no_other_column : second_part_of 1 3 two_by_three ≡ record { start = 4; shape = 2 ∷ 0 ∷ []; strides = pos 3 ∷ negsuc 1 ∷ [] }
no_other_column = refl

no_first_column : first_part_of 1 0 two_by_three ≡ record { start = 4; shape = 2 ∷ 0 ∷ []; strides = pos 3 ∷ negsuc 1 ∷ [] }
no_first_column = refl

all_other_columns : second_part_of 1 0 two_by_three ≡ two_by_three
all_other_columns = refl

source_in_other_columns : second_source 1 1 (1 ∷ 0 ∷ []) ≡ 1 ∷ 1 ∷ []
source_in_other_columns = refl

after_the_last : split_fault (2 ∷ 3 ∷ []) 1 3 ≡ None
after_the_last = refl

past_the_last : split_fault (2 ∷ 3 ∷ []) 1 4 ≡ Some OutOfBounds
past_the_last = refl

no_such_axis : split_fault (2 ∷ 3 ∷ []) 2 0 ≡ Some OutOfBounds
no_such_axis = refl
