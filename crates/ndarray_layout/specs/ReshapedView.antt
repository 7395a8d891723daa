-- What reading a view's places along another shape makes of a view, and where that fails.
use Rattle.std.specs.Prelude.{◌≡◌, ℕ, ◌≤◌, ℤ, pos, negsuc, ◌&&◌, ◌||◌, nat_lt, Option, Some, None, if◌then◌else◌, List, [], ◌∷◌}
use Rattle.std.specs.Prelude.{length, replicate, refl}
use Rattle.std.proofs.Math.Arith.{le→nltb}
use Rattle.std.proofs.Math.Dec.{lit≤}
use Rattle.nd_base.specs.declared.error.ErrorKind.{ErrorKind}
use Rattle.nd_base.specs.declared.error.ErrorKind.TheVariants.{IncompatibleLayout, IncompatibleShape, Overflow}
use Rattle.nd_base.specs.declared.error.LayoutError.{LayoutError}
use Rattle.nd_base.specs.declared.error.LayoutError.TheVariants.{Shape, Memory}
use Rattle.nd_base.specs.declared.order.Order.{Order}
use Rattle.nd_base.specs.declared.order.Order.TheVariants.{RowMajor, ColumnMajor}
use Rattle.nd_base.specs.Memory.{NeedsNoMemory}
use Rattle.nd_base.specs.FlatIndex.{index_of_flat_in, flat_index_in}
use Rattle.nd_base.specs.Size.{is_empty, nonzero_size, limit}
use Rattle.ndarray_layout.specs.reshape.ForcedStrides.{forced_strides}
use Rattle.ndarray_layout.specs.reshape.SamePlaces.{Keeps}
use Rattle.ndarray_layout.specs.reshape.ReshapeFault.{reshape_fault}
use Rattle.ndarray_layout.specs.View.{View}

-- a view can be read in an order as one of a shape: the product of its lengths that are not 0 is within the limit, and some
-- strides, any whole numbers, keep the list of places
abbrev pub ReshapeFits : Order → List ℕ → View → Type 0
ReshapeFits order shape view = (nonzero_size shape ≤ limit) × ((strides : List ℤ) × Keeps order view.shape view.strides shape strides)

-- the fault of reading a view as one of a shape: the product of its lengths that are not 0 first; then one of the two shapes
-- alone has no index; then that of the strides. Where neither shape has an index, any strides do
abbrev pub view_reshape_fault : Order → List ℕ → View → Option ErrorKind
view_reshape_fault order shape view =
    if nat_lt limit (nonzero_size shape) then Some Overflow
    else if is_empty view.shape && is_empty shape then None
    else if is_empty view.shape || is_empty shape then Some IncompatibleShape
    else reshape_fault order view.shape view.strides shape

-- memory may be asked for: the product of the lengths that are not 0 is within the limit, and both shapes or neither have an index
abbrev pub MayAskForMemory : List ℕ → View → Type 0
MayAskForMemory shape view = (nonzero_size shape ≤ limit) × (is_empty shape ≡ is_empty view.shape)

-- why a view isn't read as one of a shape, whose type fixes such a count of axes, if any: its fault, or that memory is lacking,
-- where the count wants any
abbrev pub IsReshapeError : Option ℕ → Order → List ℕ → View → LayoutError → Type 0
IsReshapeError fixed order shape view (Shape kind) = view_reshape_fault order shape view ≡ Some kind
IsReshapeError fixed order shape view (Memory e) = MayAskForMemory shape view × ¬ NeedsNoMemory fixed (length shape)

-- the strides of a view that is read as one of a shape: 0 where there is no index
abbrev pub reshaped_strides : Order → List ℕ → View → List ℤ
reshaped_strides order shape view =
    if is_empty shape then replicate (length shape) (pos 0) else forced_strides order view.shape view.strides shape

-- a view read as one of a shape: its start stays
abbrev pub reshape_of : Order → List ℕ → View → View
reshape_of order shape view = record {
  start = view.start;
  shape = shape;
  strides = reshaped_strides order shape view;
}

-- which index of a view of a shape an index of another shape stands for: the one before which as many come in the order
abbrev pub reshape_source : Order → List ℕ → List ℕ → List ℕ → List ℕ
reshape_source order view_shape shape index = index_of_flat_in order view_shape (flat_index_in order shape index)

-- examples
abbrev two_by_three : View
two_by_three = record { start = 0; shape = 2 ∷ 3 ∷ []; strides = pos 3 ∷ pos 1 ∷ [] }

three_rows : reshape_of RowMajor (3 ∷ 2 ∷ []) two_by_three ≡ record { start = 0; shape = 3 ∷ 2 ∷ []; strides = pos 2 ∷ pos 1 ∷ [] }
three_rows = refl

no_three_rows_by_columns : view_reshape_fault ColumnMajor (3 ∷ 2 ∷ []) two_by_three ≡ Some IncompatibleLayout
no_three_rows_by_columns = refl

back_in_pairs : reshape_of ColumnMajor (2 ∷ 2 ∷ []) (record { start = 3; shape = 4 ∷ []; strides = negsuc 0 ∷ [] })
    ≡ record { start = 3; shape = 2 ∷ 2 ∷ []; strides = negsuc 0 ∷ negsuc 1 ∷ [] }
back_in_pairs = refl

third_of_three_rows : reshape_source RowMajor (2 ∷ 3 ∷ []) (3 ∷ 2 ∷ []) (2 ∷ 0 ∷ []) ≡ 1 ∷ 1 ∷ []
third_of_three_rows = refl

too_large : view_reshape_fault RowMajor (9223372036854775807 ∷ 2 ∷ []) two_by_three ≡ Some Overflow
too_large = refl

too_large_without_an_index : view_reshape_fault RowMajor (9223372036854775807 ∷ 0 ∷ 2 ∷ []) two_by_three ≡ Some Overflow
too_large_without_an_index = refl

no_index_of_six : view_reshape_fault RowMajor (0 ∷ 6 ∷ []) two_by_three ≡ Some IncompatibleShape
no_index_of_six = refl

four_of_six : view_reshape_fault RowMajor (4 ∷ []) two_by_three ≡ Some IncompatibleShape
four_of_six = refl

abbrev none_by_two : View
none_by_two = record { start = 0; shape = 0 ∷ 2 ∷ []; strides = pos 7 ∷ pos 1 ∷ [] }

another_without_an_index : reshape_of RowMajor (5 ∷ 0 ∷ []) none_by_two
    ≡ record { start = 0; shape = 5 ∷ 0 ∷ []; strides = pos 0 ∷ pos 0 ∷ [] }
another_without_an_index = refl

is_no_error : view_reshape_fault RowMajor (5 ∷ 0 ∷ []) none_by_two ≡ None
is_no_error = refl

one_of_none : view_reshape_fault RowMajor (1 ∷ []) none_by_two ≡ Some IncompatibleShape
one_of_none = refl

size_past_the_limit : ReshapeFits RowMajor (9223372036854775807 ∷ 2 ∷ []) two_by_three → ⊥
size_past_the_limit fits = le→nltb limit 18446744073709551614 fits.0

error_by_columns : IsReshapeError (Some 2) ColumnMajor (3 ∷ 2 ∷ []) two_by_three (Shape IncompatibleLayout)
error_by_columns = refl

no_memory_for_too_many : MayAskForMemory (9223372036854775807 ∷ 2 ∷ []) two_by_three → ⊥
no_memory_for_too_many asks = le→nltb limit 18446744073709551614 asks.0

memory_for_other_sizes : MayAskForMemory (4 ∷ []) two_by_three
memory_for_other_sizes = (lit≤ tt, refl)
