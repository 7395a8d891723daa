-- What running along an axis backwards makes of a view, and where that fails.
use Rattle.std.specs.Prelude.{◌≡◌, ℕ, ◌-◌, ℤ, pos, negsuc, neg_ℤ, ◌+ℤ◌, ◌*ℤ◌, nat_lt, Option, Some, None, if◌then◌else◌}
use Rattle.std.specs.Prelude.{List, [], ◌∷◌, length, slice_index, slice_index_or, slice_set, refl}
use Rattle.std.specs.Ordering.{int_eq}
use Rattle.nd_base.specs.declared.error.ErrorKind.{ErrorKind}
use Rattle.nd_base.specs.declared.error.ErrorKind.TheVariants.{OutOfBounds}
use Rattle.nd_base.specs.Signed.{magnitude}
use Rattle.ndarray_layout.specs.View.{View}

-- the fault of naming an axis: there is no such axis
abbrev pub invert_fault : List ℕ → ℕ → Option ErrorKind
invert_fault shape axis = if nat_lt axis (length shape) then None else Some OutOfBounds

-- the stride with the other sign; -2^63 stays, since 2^63 is no stride
abbrev pub opposite_stride : ℤ → ℤ
opposite_stride stride = if int_eq stride (negsuc 9223372036854775807) then stride else neg_ℤ stride

-- the place of the last coordinate of an axis, whose other coordinates are 0; that of the first index where the axis is empty
abbrev pub inverted_start : ℕ → View → ℤ
inverted_start axis view = pos view.start +ℤ (pos (slice_index view.shape axis - 1) *ℤ slice_index_or view.strides axis (pos 0))

-- a view with one axis backwards: the last coordinate of the axis comes first, and its stride has the other sign
abbrev pub inverted_of : ℕ → View → View
inverted_of axis view = record {
  start = magnitude (inverted_start axis view);
  shape = view.shape;
  strides = slice_set view.strides axis (opposite_stride (slice_index_or view.strides axis (pos 0)));
}

-- which index of the view an index stands for: the coordinate on the axis counts from the last one, the others stay
abbrev pub invert_source : ℕ → List ℕ → List ℕ → List ℕ
invert_source axis shape coordinates = slice_set coordinates axis (slice_index shape axis - 1 - slice_index coordinates axis)

-- examples
line_backwards : inverted_of 0 (record { start = 1; shape = 3 ∷ []; strides = pos 2 ∷ [] })
    ≡ record { start = 5; shape = 3 ∷ []; strides = negsuc 1 ∷ [] }
line_backwards = refl

rows_forwards : inverted_of 0 (record { start = 3; shape = 2 ∷ 3 ∷ []; strides = negsuc 2 ∷ pos 1 ∷ [] })
    ≡ record { start = 0; shape = 2 ∷ 3 ∷ []; strides = pos 3 ∷ pos 1 ∷ [] }
rows_forwards = refl

no_coordinate : inverted_of 1 (record { start = 4; shape = 2 ∷ 0 ∷ []; strides = pos 3 ∷ pos 9 ∷ [] })
    ≡ record { start = 4; shape = 2 ∷ 0 ∷ []; strides = pos 3 ∷ negsuc 8 ∷ [] }
no_coordinate = refl

stride_that_has_no_opposite : opposite_stride (negsuc 9223372036854775807) ≡ negsuc 9223372036854775807
stride_that_has_no_opposite = refl

greatest_stride : opposite_stride (pos 9223372036854775807) ≡ negsuc 9223372036854775806
greatest_stride = refl

stride_of_zero : opposite_stride (pos 0) ≡ pos 0
stride_of_zero = refl

source_of_the_first_column : invert_source 1 (2 ∷ 3 ∷ []) (1 ∷ 0 ∷ []) ≡ 1 ∷ 2 ∷ []
source_of_the_first_column = refl

last_axis : invert_fault (2 ∷ 3 ∷ []) 1 ≡ None
last_axis = refl

no_such_axis : invert_fault (2 ∷ 3 ∷ []) 2 ≡ Some OutOfBounds
no_such_axis = refl
