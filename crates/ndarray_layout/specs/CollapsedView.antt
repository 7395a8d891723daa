-- What taking one coordinate of an axis makes of a view, and where that fails.
use Rattle.std.specs.Prelude.{◌≡◌, ℕ, ℤ, pos, negsuc, ◌+ℤ◌, ◌*ℤ◌, ◌&&◌, nat_lt, Option, Some, None, if◌then◌else◌}
use Rattle.std.specs.Prelude.{List, [], ◌∷◌, length, slice_index, slice_index_or, slice_set, refl}
use Rattle.nd_base.specs.declared.error.ErrorKind.{ErrorKind}
use Rattle.nd_base.specs.declared.error.ErrorKind.TheVariants.{OutOfBounds}
use Rattle.nd_base.specs.Signed.{magnitude}
use Rattle.ndarray_layout.specs.View.{View}

-- the fault of taking a coordinate: there is such an axis, and the index is below its length
abbrev pub collapse_fault : List ℕ → ℕ → ℕ → Option ErrorKind
collapse_fault shape axis index = if nat_lt axis (length shape) && nat_lt index (slice_index shape axis) then None else Some OutOfBounds

-- the place of the first index that is left by one coordinate of an axis
abbrev pub collapsed_start : ℕ → ℕ → View → ℤ
collapsed_start axis index view = pos view.start +ℤ (pos index *ℤ slice_index_or view.strides axis (pos 0))

-- a view with one coordinate of an axis taken: the axis has that coordinate alone, the strides stay
abbrev pub collapse_of : ℕ → ℕ → View → View
collapse_of axis index view = record {
  start = magnitude (collapsed_start axis index view);
  shape = slice_set view.shape axis 1;
  strides = view.strides;
}

-- which index of the view an index that is left stands for: the axis gets the coordinate that was taken, the others stay
abbrev pub collapse_source : ℕ → ℕ → List ℕ → List ℕ
collapse_source axis index coordinates = slice_set coordinates axis index

-- examples
second_row : collapse_of 0 1 (record { start = 0; shape = 2 ∷ 3 ∷ []; strides = pos 3 ∷ pos 1 ∷ [] })
    ≡ record { start = 3; shape = 1 ∷ 3 ∷ []; strides = pos 3 ∷ pos 1 ∷ [] }
second_row = refl

last_of_backward_columns : collapse_of 1 2 (record { start = 2; shape = 2 ∷ 3 ∷ []; strides = pos 3 ∷ negsuc 0 ∷ [] })
    ≡ record { start = 0; shape = 2 ∷ 1 ∷ []; strides = pos 3 ∷ negsuc 0 ∷ [] }
last_of_backward_columns = refl

source_in_second_row : collapse_source 0 1 (0 ∷ 2 ∷ []) ≡ 1 ∷ 2 ∷ []
source_in_second_row = refl

third_row : collapse_fault (2 ∷ 3 ∷ []) 0 2 ≡ Some OutOfBounds
third_row = refl

no_such_axis : collapse_fault (2 ∷ 3 ∷ []) 2 0 ≡ Some OutOfBounds
no_such_axis = refl

last_column : collapse_fault (2 ∷ 3 ∷ []) 1 2 ≡ None
last_column = refl
