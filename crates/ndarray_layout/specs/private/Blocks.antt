-- The two ways to take blocks of a shape, as one.
use Rattle.std.specs.Prelude.{ℕ, ℤ, List}
use Rattle.ndarray_layout.specs.declared.strided.blocks.Blocks.{Blocks}
use Rattle.ndarray_layout.specs.declared.strided.blocks.Blocks.TheVariants.{Windows, Chunks}
use Rattle.ndarray_layout.specs.ChunksView.{chunk_count, chunk_counts, chunk_stride, chunk_strides}
use Rattle.ndarray_layout.specs.WindowsView.{window_count, window_counts}

-- how many blocks of a length an axis has
abbrev pub block_count : Blocks → ℕ → ℕ → ℕ
block_count Windows len size = window_count len size
block_count Chunks len size = chunk_count len size

-- how many there are along each axis
abbrev pub block_counts : Blocks → List ℕ → List ℕ → List ℕ
block_counts Windows shape block = window_counts shape block
block_counts Chunks shape block = chunk_counts shape block

-- from one block of an axis to the next
abbrev pub block_stride : Blocks → ℕ → ℕ → ℤ → ℤ
block_stride Windows len size stride = stride
block_stride Chunks len size stride = chunk_stride len size stride

-- along each axis
abbrev pub block_strides : Blocks → List ℕ → List ℕ → List ℤ → List ℤ
block_strides Windows shape block strides = strides
block_strides Chunks shape block strides = chunk_strides shape block strides
