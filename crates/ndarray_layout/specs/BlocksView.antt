-- Blocks of a view that have one shape and lie at steps: which views of them there are, and which fail.
use Rattle.std.specs.Prelude.{◌≡◌, ℕ, ◌+◌, ◌==◌, ◌&&◌, not, ℤ, pos, true, nat_lt, Option, Some, None, if◌then◌else◌, List, [], ◌∷◌, ◌++◌}
use Rattle.std.specs.Prelude.{length, replicate, take, drop, refl}
use Rattle.std.specs.Option.{option_map_or}
use Rattle.nd_base.specs.declared.error.ErrorKind.{ErrorKind}
use Rattle.nd_base.specs.declared.error.ErrorKind.TheVariants.{IncompatibleShape, Overflow, Unsupported}
use Rattle.nd_base.specs.Elementwise.{products, sums}
use Rattle.nd_base.specs.Signed.{magnitude}
use Rattle.nd_base.specs.Size.{is_empty, limit, nonzero_size}
use Rattle.ndarray_layout.specs.View.{View}

-- from one block of each axis to the next, where the length of the axis, that of the block and the stride say how far that is
abbrev pub strides_along : (ℕ → ℕ → ℤ → ℤ) → List ℕ → List ℕ → List ℤ → List ℤ
strides_along along [] block strides = []
strides_along along (len ∷ lens) [] strides = []
strides_along along (len ∷ lens) (size ∷ block) [] = []
strides_along along (len ∷ lens) (size ∷ block) (stride ∷ strides) = along len size stride ∷ strides_along along lens block strides

-- strides of a shape, or 0 for each axis where it has no index
abbrev pub strides_of_blocks : List ℕ → List ℤ → List ℤ
strides_of_blocks shape strides = if is_empty shape then replicate (length shape) (pos 0) else strides

-- the view of all indices of all blocks, first the number of the block along each axis and then the index in the block. `counts` says
-- how many blocks there are along each axis, `along` the stride from one to the next. Without an index all strides are 0
abbrev pub blocks_of : List ℕ → List ℤ → List ℕ → View → View
blocks_of counts along block view = record {
  start = view.start;
  shape = counts ++ block;
  strides = strides_of_blocks (counts ++ block) (along ++ view.strides);
}

-- the view of the first index of each block: its indices are the numbers of the blocks. Without a block all strides are 0
abbrev pub block_starts : List ℕ → List ℤ → View → View
block_starts counts along view = record { start = view.start; shape = counts; strides = strides_of_blocks counts along }

-- the block that begins at a place
abbrev pub block_at : List ℕ → View → ℤ → View
block_at block view place = record { start = magnitude place; shape = block; strides = view.strides }

-- which index of the view an index in a block stands for, where the blocks lie at these steps: the number of the block times the step,
-- and the index in it
abbrev pub block_source : List ℕ → List ℕ → List ℕ
block_source steps index = sums (products (take (length steps) index) steps) (drop (length steps) index)

-- the fault of taking so many blocks of a shape into a type that may fix a count of axes: the block has more or fewer axes than the
-- shape, or the type another count than twice as many; then that a block has no index; then that the product of the lengths that are
-- not 0 passes the limit
abbrev pub blocks_fault : Option ℕ → List ℕ → List ℕ → List ℕ → Option ErrorKind
blocks_fault fixed shape counts block =
    if not (length block == length shape && option_map_or (λ count. count == length shape + length shape) fixed true)
    then Some IncompatibleShape
    else if is_empty block then Some Unsupported
    else if nat_lt limit (nonzero_size (counts ++ block)) then Some Overflow else None

-- examples
pairs_of_four : blocks_of (3 ∷ []) (pos 1 ∷ []) (2 ∷ []) (record { start = 5; shape = 4 ∷ []; strides = pos 1 ∷ [] })
    ≡ record { start = 5; shape = 3 ∷ 2 ∷ []; strides = pos 1 ∷ pos 1 ∷ [] }
pairs_of_four = refl

no_block : blocks_of (0 ∷ []) (pos 1 ∷ []) (9 ∷ []) (record { start = 5; shape = 4 ∷ []; strides = pos 1 ∷ [] })
    ≡ record { start = 5; shape = 0 ∷ 9 ∷ []; strides = pos 0 ∷ pos 0 ∷ [] }
no_block = refl

starts_of_pairs : block_starts (3 ∷ []) (pos 1 ∷ []) (record { start = 5; shape = 4 ∷ []; strides = pos 1 ∷ [] })
    ≡ record { start = 5; shape = 3 ∷ []; strides = pos 1 ∷ [] }
starts_of_pairs = refl

last_pair : block_at (2 ∷ []) (record { start = 5; shape = 4 ∷ []; strides = pos 1 ∷ [] }) (pos 7)
    ≡ record { start = 7; shape = 2 ∷ []; strides = pos 1 ∷ [] }
last_pair = refl

second_of_third_pair : block_source (2 ∷ []) (2 ∷ 1 ∷ []) ≡ 5 ∷ []
second_of_third_pair = refl

block_of_another_count : blocks_fault None (4 ∷ []) [] (2 ∷ 2 ∷ []) ≡ Some IncompatibleShape
block_of_another_count = refl

type_of_another_count : blocks_fault (Some 3) (4 ∷ []) (5 ∷ []) (0 ∷ []) ≡ Some IncompatibleShape
type_of_another_count = refl

block_without_an_index : blocks_fault (Some 2) (4 ∷ []) (5 ∷ []) (0 ∷ []) ≡ Some Unsupported
block_without_an_index = refl

too_many : blocks_fault None (1 ∷ 1 ∷ []) (0 ∷ 0 ∷ []) (4611686018427387904 ∷ 2 ∷ []) ≡ Some Overflow
too_many = refl

pairs_of_a_row : blocks_fault (Some 2) (4 ∷ []) (3 ∷ []) (2 ∷ []) ≡ None
pairs_of_a_row = refl
