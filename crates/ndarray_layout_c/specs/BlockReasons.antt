-- Why blocks of a shape can't be taken: they have another count of axes, one without an index, or too many indices.
use Rattle.std.specs.Prelude.{◌≡◌, ℕ, ℤ, pos, ◌==◌, Bool, nat_lt, Option, if◌then◌else◌, List, [], ◌∷◌, ◌++◌, length, slice_index, refl}
use Rattle.std.specs.List.{find, range_with_len}
use Rattle.std.specs.Option.{option_map_or}
use Rattle.ndarray_layout.specs.declared.ErrorKind.TheVariants.{IncompatibleShape, Overflow, Unsupported}
use Rattle.ndarray_layout.specs.ChunksView.{chunk_count}
use Rattle.ndarray_layout.specs.Elementwise.{elementwise}
use Rattle.ndarray_layout.specs.Size.{limit, nonzero_size}
use Rattle.ndarray_layout.specs.WindowsView.{window_count}
use Rattle.ndarray_layout_c.specs.declared.blocks.Blocks.{Blocks}
use Rattle.ndarray_layout_c.specs.declared.blocks.Blocks.TheVariants.{Windows, Chunks}
use Rattle.ndarray_layout_c.specs.declared.reasons.Reason.{Reason}
use Rattle.ndarray_layout_c.specs.Reasons.{chunk_list, count_rule, empty_rule, no_reason, of_axis, of_list, size_rule, window_list}
use Rattle.ndarray_layout_c.specs.Statuses.{number_of}

-- how many blocks of a length an axis has
abbrev pub taken_count : Blocks → ℕ → ℕ → ℕ
taken_count Windows len size = window_count len size
taken_count Chunks len size = chunk_count len size

-- along each axis
abbrev pub taken_counts : Blocks → List ℕ → List ℕ → List ℕ
taken_counts blocks shape block = elementwise (taken_count blocks) shape block

-- a block has no coordinate along an axis
abbrev pub is_none : List ℕ → ℕ → Bool
is_none block axis = slice_index block axis == 0

-- the first such axis
abbrev pub first_none : List ℕ → Option ℕ
first_none block = find (is_none block) (range_with_len 0 (length block))

-- the number of the list of the lengths of a block
abbrev pub list_of : Blocks → ℤ
list_of Windows = window_list
list_of Chunks = chunk_list

-- why blocks of a shape can't be taken
abbrev pub blocks_reason : Blocks → List ℕ → List ℕ → Reason
blocks_reason blocks shape block =
    if length block == length shape
    then option_map_or (λ axis. of_list (number_of Unsupported) empty_rule (list_of blocks) axis 0 0) (first_none block)
    (if nat_lt limit (nonzero_size (taken_counts blocks shape block ++ block)) then of_axis (number_of Overflow) size_rule 0 (pos 0) 0 0
    else no_reason)
    else of_list (number_of IncompatibleShape) count_rule (list_of blocks) 0 (length block) (length shape)

-- examples
second_length : blocks_reason Chunks (4 ∷ 4 ∷ []) (2 ∷ 0 ∷ [])
    ≡ record { status = pos 5; rule = pos 18; list = pos 7; unit = pos 0; axis = 1; number = pos 0; size = 0; other = 0 }
second_length = refl

count_first : blocks_reason Windows (4 ∷ 4 ∷ []) (0 ∷ [])
    ≡ record { status = pos 1; rule = pos 1; list = pos 6; unit = pos 0; axis = 0; number = pos 0; size = 1; other = 2 }
count_first = refl

too_many : blocks_reason Windows (8589934592 ∷ []) (4294967296 ∷ [])
    ≡ record { status = pos 6; rule = pos 5; list = pos 0; unit = pos 0; axis = 0; number = pos 0; size = 0; other = 0 }
too_many = refl

as_many_side_by_side : blocks_reason Chunks (8589934592 ∷ []) (4294967296 ∷ []) ≡ no_reason
as_many_side_by_side = refl
