-- The strides that a reshape gives the axes of the new shape.
use Rattle.std.specs.Prelude.{◌≡◌, ℕ, zero, suc, ◌==◌, ◌&&◌, Bool, nat_lt, ℤ, pos, negsuc, if◌then◌else◌, List, [], ◌∷◌, length, map}
use Rattle.std.specs.Prelude.{slice_index, slice_index_or, refl}
use Rattle.std.specs.List.{filter, list_any}
use Rattle.nd_base.specs.declared.order.Order.{Order}
use Rattle.nd_base.specs.declared.order.Order.TheVariants.{RowMajor, ColumnMajor}
use Rattle.nd_base.specs.Indices.{below}
use Rattle.nd_base.specs.Offset.{offset_of}
use Rattle.nd_base.specs.FlatIndex.{index_of_flat}
use Rattle.nd_base.specs.AsRead.{as_read}
use Rattle.nd_dim.specs.Strides.{size_after, size_until}
use Rattle.ndarray_layout.specs.reshape.Joints.{cumulative_products}

-- how far the index of a flat index lies from the first one
abbrev pub offset_at_flat_index : List ℕ → List ℤ → ℕ → ℤ
offset_at_flat_index lens strides r = offset_of strides (index_of_flat lens r)

-- an axis of length 1 with this product of lengths read before it
abbrev pub is_one_at : List ℕ → ℕ → ℕ → Bool
is_one_at lens product axis = slice_index lens axis == 1 && size_until lens axis == product

-- the strides of all such axes
abbrev pub strides_of_ones : List ℕ → List ℤ → ℕ → List ℤ
strides_of_ones lens strides product =
    map (λ axis. slice_index_or strides axis (pos 0)) (filter (is_one_at lens product) (below (length lens)))

-- how many such axes are read before an axis
abbrev pub ones_before : List ℕ → ℕ → ℕ → ℕ
ones_before lens product axis = length (filter (is_one_at lens product) (below axis))

-- the stride of an axis of length 1: where the old shape reaches the same product, that of its axis of length 1 in the
-- same position among those there, or 1 where it has fewer; elsewhere that of the axis read just before
abbrev pub stride_of_one : List ℕ → List ℤ → List ℕ → ℕ → ℤ → ℤ
stride_of_one from strides to axis previous =
    (if list_any (λ product. product == size_until to axis) (cumulative_products from)
    then slice_index_or (strides_of_ones from strides (size_until to axis)) (ones_before to (size_until to axis) axis) (pos 1)
    else previous)

-- the stride of an axis longer than 1 is as far as the old layout goes over as many indices as the axes read after it have
abbrev pub stride_of_axis : List ℕ → List ℤ → List ℕ → ℕ → ℤ → ℤ
stride_of_axis from strides to axis previous =
    (if nat_lt 1 (slice_index to axis)
    then offset_at_flat_index from strides (size_after to axis)
    else stride_of_one from strides to axis previous)

-- the stride of the axis of a number of the new shape
abbrev pub stride_at : List ℕ → List ℤ → List ℕ → ℕ → ℤ
stride_at from strides to zero = stride_of_axis from strides to 0 (pos 1)
stride_at from strides to (suc axis) = stride_of_axis from strides to (suc axis) (stride_at from strides to axis)

-- the strides of all axes of the new shape, as it is read in the order
abbrev pub forced_strides : Order → List ℕ → List ℤ → List ℕ → List ℤ
forced_strides order from strides to =
    as_read order (map (stride_at (as_read order from) (as_read order strides) (as_read order to)) (below (length to)))

-- examples
through_a_gap : forced_strides RowMajor (6 ∷ 2 ∷ []) (pos 2 ∷ pos 1 ∷ []) (4 ∷ 1 ∷ 3 ∷ []) ≡ pos 3 ∷ pos 3 ∷ pos 1 ∷ []
through_a_gap = refl

rows_in_halves : forced_strides RowMajor (4 ∷ 4 ∷ []) (pos 8 ∷ pos 1 ∷ []) (2 ∷ 2 ∷ 2 ∷ 2 ∷ []) ≡ pos 16 ∷ pos 8 ∷ pos 2 ∷ pos 1 ∷ []
rows_in_halves = refl

back_by_columns : forced_strides ColumnMajor (16 ∷ []) (negsuc 3 ∷ []) (2 ∷ 2 ∷ 4 ∷ []) ≡ negsuc 3 ∷ negsuc 7 ∷ negsuc 15 ∷ []
back_by_columns = refl

axes_of_one : forced_strides RowMajor (1 ∷ 10 ∷ []) (pos 10 ∷ pos 1 ∷ []) (1 ∷ 10 ∷ 1 ∷ 1 ∷ 1 ∷ [])
    ≡ pos 10 ∷ pos 1 ∷ pos 1 ∷ pos 1 ∷ pos 1 ∷ []
axes_of_one = refl

large : forced_strides RowMajor (4 ∷ []) (pos 3074457345618258602 ∷ []) (2 ∷ 2 ∷ [])
    ≡ pos 6148914691236517204 ∷ pos 3074457345618258602 ∷ []
large = refl
