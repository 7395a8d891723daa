-- What the exact chunks of a view are: blocks of one shape side by side, as many as fit.
use Rattle.std.specs.Prelude.{◌≡◌, ℕ, ◌/◌, ℤ, pos, negsuc, ◌*ℤ◌, nat_lt, Option, Some, None, if◌then◌else◌, List, [], ◌∷◌, map, refl}
use Rattle.nd_base.specs.declared.error.ErrorKind.{ErrorKind}
use Rattle.nd_base.specs.declared.error.ErrorKind.TheVariants.{IncompatibleShape, Overflow, Unsupported}
use Rattle.nd_base.specs.declared.order.Order.TheVariants.{RowMajor}
use Rattle.nd_base.specs.Elementwise.{elementwise}
use Rattle.ndarray_layout.specs.BlocksView.{block_at, block_source, block_starts, blocks_fault, blocks_of, strides_along}
use Rattle.ndarray_layout.specs.View.{View, view_places}

-- how many chunks of a length fit an axis: what is left over at its end is left out
abbrev pub chunk_count : ℕ → ℕ → ℕ
chunk_count len chunk = len / chunk

-- how many chunks of a shape lie along each axis
abbrev pub chunk_counts : List ℕ → List ℕ → List ℕ
chunk_counts shape chunk = elementwise chunk_count shape chunk

-- from one chunk of an axis to the next; 0 where there is no next one
abbrev pub chunk_stride : ℕ → ℕ → ℤ → ℤ
chunk_stride len chunk stride = if nat_lt (chunk_count len chunk) 2 then pos 0 else pos chunk *ℤ stride

-- along each axis
abbrev pub chunk_strides : List ℕ → List ℕ → List ℤ → List ℤ
chunk_strides shape chunk strides = strides_along chunk_stride shape chunk strides

-- the view of all chunks of a shape: first the number of the chunk along each axis, then the index in it
abbrev pub chunks_of : List ℕ → View → View
chunks_of chunk view = blocks_of (chunk_counts view.shape chunk) (chunk_strides view.shape chunk view.strides) chunk view

-- the view of the first index of each chunk
abbrev pub chunk_starts_of : List ℕ → View → View
chunk_starts_of chunk view = block_starts (chunk_counts view.shape chunk) (chunk_strides view.shape chunk view.strides) view

-- the chunks, one from the place of each chunk's first index, in row-major order of the chunks' numbers
abbrev pub chunk_views : List ℕ → View → List View
chunk_views chunk view = map (block_at chunk view) (view_places RowMajor (chunk_starts_of chunk view))

-- which index of the view an index in a chunk stands for: the number of the chunk times its length, and the index in it
abbrev pub chunk_source : List ℕ → List ℕ → List ℕ
chunk_source chunk index = block_source chunk index

-- the fault of the chunks of a shape, into a type that may fix a count of axes
abbrev pub chunks_fault : Option ℕ → List ℕ → List ℕ → Option ErrorKind
chunks_fault fixed shape chunk = blocks_fault fixed shape (chunk_counts shape chunk) chunk

-- examples
pairs_of_five : chunks_of (2 ∷ []) (record { start = 0; shape = 5 ∷ []; strides = pos 1 ∷ [] })
    ≡ record { start = 0; shape = 2 ∷ 2 ∷ []; strides = pos 2 ∷ pos 1 ∷ [] }
pairs_of_five = refl

rows_backwards : chunks_of (2 ∷ 3 ∷ []) (record { start = 12; shape = 4 ∷ 3 ∷ []; strides = negsuc 2 ∷ pos 1 ∷ [] })
    ≡ record { start = 12; shape = 2 ∷ 1 ∷ 2 ∷ 3 ∷ []; strides = negsuc 5 ∷ pos 0 ∷ negsuc 2 ∷ pos 1 ∷ [] }
rows_backwards = refl

starts_of_pairs_of_five : chunk_starts_of (2 ∷ []) (record { start = 0; shape = 5 ∷ []; strides = pos 1 ∷ [] })
    ≡ record { start = 0; shape = 2 ∷ []; strides = pos 2 ∷ [] }
starts_of_pairs_of_five = refl

longer_than_the_axis : chunks_of (2 ∷ 5 ∷ []) (record { start = 0; shape = 4 ∷ 3 ∷ []; strides = pos 3 ∷ pos 1 ∷ [] })
    ≡ record { start = 0; shape = 2 ∷ 0 ∷ 2 ∷ 5 ∷ []; strides = pos 0 ∷ pos 0 ∷ pos 0 ∷ pos 0 ∷ [] }
longer_than_the_axis = refl

second_of_third_pair : chunk_source (2 ∷ []) (2 ∷ 1 ∷ []) ≡ 5 ∷ []
second_of_third_pair = refl

last_of_the_lower_half : chunk_source (2 ∷ 3 ∷ []) (1 ∷ 0 ∷ 1 ∷ 2 ∷ []) ≡ 3 ∷ 2 ∷ []
last_of_the_lower_half = refl

both_pairs_of_five : chunk_views (2 ∷ []) (record { start = 0; shape = 5 ∷ []; strides = pos 1 ∷ [] })
    ≡ record { start = 0; shape = 2 ∷ []; strides = pos 1 ∷ [] } ∷ record { start = 2; shape = 2 ∷ []; strides = pos 1 ∷ [] } ∷ []
both_pairs_of_five = refl

none_of_a_longer_shape : chunk_views (3 ∷ 1 ∷ []) (record { start = 0; shape = 2 ∷ 5 ∷ []; strides = pos 5 ∷ pos 1 ∷ [] }) ≡ []
none_of_a_longer_shape = refl

chunk_of_length_zero : chunks_fault None (4 ∷ 4 ∷ []) (2 ∷ 0 ∷ []) ≡ Some Unsupported
chunk_of_length_zero = refl

into_three_axes : chunks_fault (Some 3) (4 ∷ 4 ∷ []) (2 ∷ 0 ∷ []) ≡ Some IncompatibleShape
into_three_axes = refl

too_many : chunks_fault None (1 ∷ 1 ∷ []) (4611686018427387904 ∷ 2 ∷ []) ≡ Some Overflow
too_many = refl

longer_is_no_fault : chunks_fault (Some 2) (4 ∷ []) (5 ∷ []) ≡ None
longer_is_no_fault = refl
