-- The chunks of an array along an axis, one after another, and where asking for them fails.
use Rattle.std.specs.Int.{div_ceil}
use Rattle.std.specs.List.{range_with_len}
use Rattle.std.specs.Prelude.{◌≡◌, ℕ, ◌-◌, ◌*◌, pos, nat_eq, nat_lt, min, Option, Some, None, if◌then◌else◌, List, [], ◌∷◌, length, map}
use Rattle.std.specs.Prelude.{slice_index, refl}
use Rattle.ndarray_layout.specs.declared.ErrorKind.{ErrorKind}
use Rattle.ndarray_layout.specs.declared.ErrorKind.TheVariants.{OutOfBounds, Unsupported}
use Rattle.ndarray_layout.specs.SplitView.{first_part_of, second_part_of}
use Rattle.ndarray_layout.specs.View.{View}
use Rattle.nd_access.specs.Items.{ArrayValue}
use Rattle.nd_lent.specs.Blocks.{arrays_of}

-- there is such an axis, and a chunk has a coordinate
abbrev pub axis_chunks_fault : List ℕ → ℕ → ℕ → Option ErrorKind
axis_chunks_fault shape axis size =
    (if nat_lt axis (length shape) then (if nat_eq size 0 then Some Unsupported else None) else Some OutOfBounds)

-- the view of the chunk of a number: so many coordinates of the axis, or as many as are left, after those of the chunks before it
abbrev pub chunk_view : (axis size number : ℕ) → View → View
chunk_view axis size number view =
    let start = number * size in
    first_part_of axis (min size (slice_index view.shape axis - start)) (second_part_of axis start view)

-- how many chunks there are: the last one may have fewer coordinates
abbrev pub chunk_count : (shape : List ℕ) (axis size : ℕ) → ℕ
chunk_count shape axis size = div_ceil (slice_index shape axis) size

-- the views of all chunks, from the first on
abbrev pub chunk_views_along : (axis size : ℕ) → View → List View
chunk_views_along axis size view = map (λ number. chunk_view axis size number view) (range_with_len 0 (chunk_count view.shape axis size))

-- the chunks: the same items
abbrev pub chunks_along : {T : Type 0} → (axis size : ℕ) → ArrayValue T → List (ArrayValue T)
chunks_along axis size array = arrays_of array.items (chunk_views_along axis size array.view)

-- examples
abbrev three_rows : ArrayValue ℕ
three_rows = record { items = 1 ∷ 2 ∷ 3 ∷ 4 ∷ 5 ∷ 6 ∷ []; view = record { start = 0; shape = 3 ∷ 2 ∷ []; strides = pos 2 ∷ pos 1 ∷ [] } }

two_rows_and_one : map (λ array. array.view) (chunks_along 0 2 three_rows)
    ≡ record { start = 0; shape = 2 ∷ 2 ∷ []; strides = pos 2 ∷ pos 1 ∷ [] }
    ∷ record { start = 4; shape = 1 ∷ 2 ∷ []; strides = pos 2 ∷ pos 1 ∷ [] } ∷ []
two_rows_and_one = refl

all_columns_at_once : chunks_along 1 5 three_rows ≡ three_rows ∷ []
all_columns_at_once = refl

three_chunks_of_one : chunk_count (3 ∷ 2 ∷ []) 0 1 ≡ 3
three_chunks_of_one = refl

no_chunk_of_none : chunk_count (0 ∷ 2 ∷ []) 0 4 ≡ 0
no_chunk_of_none = refl

of_no_coordinates : axis_chunks_fault (3 ∷ 2 ∷ []) 1 0 ≡ Some Unsupported
of_no_coordinates = refl

axis_comes_first : axis_chunks_fault (3 ∷ 2 ∷ []) 2 0 ≡ Some OutOfBounds
axis_comes_first = refl
