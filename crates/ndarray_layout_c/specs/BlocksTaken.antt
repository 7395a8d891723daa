-- The blocks that are taken of a layout, and their fault.
use Rattle.std.specs.Prelude.{◌≡◌, ℕ, pos, Option, Some, None, List, [], ◌∷◌, refl}
use Rattle.ndarray_layout.specs.declared.ErrorKind.{ErrorKind}
use Rattle.ndarray_layout.specs.declared.ErrorKind.TheVariants.{Unsupported}
use Rattle.ndarray_layout.specs.ChunksView.{chunks_fault, chunks_of}
use Rattle.ndarray_layout.specs.View.{View}
use Rattle.ndarray_layout.specs.WindowsView.{windows_fault, windows_of}
use Rattle.ndarray_layout_c.specs.declared.blocks.Blocks.{Blocks}
use Rattle.ndarray_layout_c.specs.declared.blocks.Blocks.TheVariants.{Windows, Chunks}

-- the fault of the blocks of a shape
abbrev pub taken_fault : Blocks → List ℕ → List ℕ → Option ErrorKind
taken_fault Windows shape block = windows_fault None shape block
taken_fault Chunks shape block = chunks_fault None shape block

-- the view of all blocks of a shape
abbrev pub taken_of : Blocks → List ℕ → View → View
taken_of Windows block view = windows_of block view
taken_of Chunks block view = chunks_of block view

-- examples
pairs_of_four : taken_of Windows (2 ∷ []) (record { start = 0; shape = 4 ∷ []; strides = pos 1 ∷ [] })
    ≡ record { start = 0; shape = 3 ∷ 2 ∷ []; strides = pos 1 ∷ pos 1 ∷ [] }
pairs_of_four = refl

halves_of_four : taken_of Chunks (2 ∷ []) (record { start = 0; shape = 4 ∷ []; strides = pos 1 ∷ [] })
    ≡ record { start = 0; shape = 2 ∷ 2 ∷ []; strides = pos 2 ∷ pos 1 ∷ [] }
halves_of_four = refl

block_of_length_zero : taken_fault Chunks (4 ∷ []) (0 ∷ []) ≡ Some Unsupported
block_of_length_zero = refl
