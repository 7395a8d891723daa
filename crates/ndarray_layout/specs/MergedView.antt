-- What merging an axis into another makes of a view, and where that fails.
use Rattle.std.specs.Prelude.{◌≡◌, ℕ, ◌/◌, ◌%◌, ◌==◌, pos, negsuc, Bool, not, ◌&&◌, nat_lt, nat_le, Option, Some, None, if◌then◌else◌}
use Rattle.std.specs.Prelude.{List, [], ◌∷◌, length, slice_index, slice_index_or, slice_set, refl}
use Rattle.std.specs.Option.{option_or}
use Rattle.nd_base.specs.declared.error.ErrorKind.{ErrorKind}
use Rattle.nd_base.specs.declared.error.ErrorKind.TheVariants.{IncompatibleLayout, OutOfBounds, Unsupported}
use Rattle.nd_shape.specs.Merge.{MergeFits, merge_fits, merged_shape}
use Rattle.ndarray_layout.specs.View.{View}

-- the fault of the axes that are named: both are there, and they are two
abbrev pub axes_fault : List ℕ → ℕ → ℕ → Option ErrorKind
axes_fault shape take into =
    if not (nat_lt take (length shape) && nat_lt into (length shape)) then Some OutOfBounds
    else if take == into then Some Unsupported else None

-- some stride has every coordinate of both axes
abbrev pub HasMergedStride : ℕ → ℕ → View → Type 0
HasMergedStride take into view =
    MergeFits
    (slice_index view.shape take)
    (slice_index_or view.strides take (pos 0))
    (slice_index view.shape into)
    (slice_index_or view.strides into (pos 0))

-- whether some stride has every coordinate of both axes
abbrev pub has_merged_stride : ℕ → ℕ → View → Bool
has_merged_stride take into view =
    merge_fits
    (slice_index view.shape take)
    (slice_index_or view.strides take (pos 0))
    (slice_index view.shape into)
    (slice_index_or view.strides into (pos 0))

-- the fault where the axes have to be merged: that of the axes, and then that no stride has the coordinates of both
abbrev pub merge_fault : ℕ → ℕ → View → Option ErrorKind
merge_fault take into view =
    option_or (axes_fault view.shape take into) (if has_merged_stride take into view then None else Some IncompatibleLayout)

-- the axis whose stride has the coordinates of both: the one merged into, or the one taken where only that has more than one coordinate
abbrev pub lasting_axis : ℕ → ℕ → List ℕ → ℕ
lasting_axis take into shape = if nat_lt 1 (slice_index shape take) && nat_le (slice_index shape into) 1 then take else into

-- a view with the axis `take` merged into the axis `into`: `into` has all coordinates and the stride that has them, `take` keeps one
-- coordinate, or none where there are none; the start stays
abbrev pub merge_of : ℕ → ℕ → View → View
merge_of take into view = record {
  start = view.start;
  shape = merged_shape take into view.shape;
  strides = slice_set view.strides into (slice_index_or view.strides (lasting_axis take into view.shape) (pos 0));
}

-- which index of the view an index that is left stands for: the coordinate on the axis merged into is divided by the length of that axis;
-- the axis taken gets the quotient, the axis merged into the rest, and the others stay
abbrev pub merge_source : ℕ → ℕ → List ℕ → List ℕ → List ℕ
merge_source take into shape coordinates =
    slice_set
    (slice_set coordinates take (slice_index coordinates into / slice_index shape into))
    into
    (slice_index coordinates into % slice_index shape into)

-- examples
rows_into_columns : merge_of 0 1 (record { start = 4; shape = 3 ∷ 2 ∷ []; strides = pos 2 ∷ pos 1 ∷ [] })
    ≡ record { start = 4; shape = 1 ∷ 6 ∷ []; strides = pos 2 ∷ pos 1 ∷ [] }
rows_into_columns = refl

backward_rows_into_one_column : merge_of 0 1 (record { start = 4; shape = 3 ∷ 1 ∷ []; strides = negsuc 1 ∷ pos 7 ∷ [] })
    ≡ record { start = 4; shape = 1 ∷ 3 ∷ []; strides = negsuc 1 ∷ negsuc 1 ∷ [] }
backward_rows_into_one_column = refl

one_row_into_no_column : merge_of 0 1 (record { start = 0; shape = 1 ∷ 0 ∷ []; strides = pos 5 ∷ pos 3 ∷ [] })
    ≡ record { start = 0; shape = 0 ∷ 0 ∷ []; strides = pos 5 ∷ pos 3 ∷ [] }
one_row_into_no_column = refl

source_of_coordinate_five : merge_source 0 1 (3 ∷ 2 ∷ []) (0 ∷ 5 ∷ []) ≡ 2 ∷ 1 ∷ []
source_of_coordinate_five = refl

source_of_the_first_axis : merge_source 2 0 (2 ∷ 4 ∷ 3 ∷ []) (5 ∷ 3 ∷ 0 ∷ []) ≡ 1 ∷ 3 ∷ 2 ∷ []
source_of_the_first_axis = refl

columns_into_rows : merge_fault 1 0 (record { start = 0; shape = 2 ∷ 3 ∷ []; strides = pos 3 ∷ pos 1 ∷ [] }) ≡ Some IncompatibleLayout
columns_into_rows = refl

rows_fit_columns : merge_fault 0 1 (record { start = 0; shape = 2 ∷ 3 ∷ []; strides = pos 3 ∷ pos 1 ∷ [] }) ≡ None
rows_fit_columns = refl

one_row_fits : merge_fault 0 1 (record { start = 0; shape = 1 ∷ 3 ∷ []; strides = pos 9 ∷ pos 1 ∷ [] }) ≡ None
one_row_fits = refl

no_such_axis : axes_fault (2 ∷ 3 ∷ []) 0 5 ≡ Some OutOfBounds
no_such_axis = refl

no_such_axis_to_take : axes_fault (2 ∷ 3 ∷ []) 2 0 ≡ Some OutOfBounds
no_such_axis_to_take = refl

one_axis_twice : axes_fault (2 ∷ 3 ∷ []) 0 0 ≡ Some Unsupported
one_axis_twice = refl

no_axis_twice : axes_fault (2 ∷ 3 ∷ []) 5 5 ≡ Some OutOfBounds
no_axis_twice = refl
