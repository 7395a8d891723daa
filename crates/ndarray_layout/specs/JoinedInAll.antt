-- The axes that move fastest, joined in several layouts of one shape at once.
use Rattle.std.specs.Prelude.{◌≡◌, ℕ, ◌-◌, ◌*◌, ◌<◌, ◌==◌, List, [], ◌∷◌, if◌then◌else◌, drop, length, replicate, slice_index, take, refl}
use Rattle.nd_base.specs.declared.order.Order.{Order}
use Rattle.nd_base.specs.declared.order.Order.TheVariants.{RowMajor, ColumnMajor}
use Rattle.nd_base.specs.Signed.{signed}
use Rattle.nd_base.specs.Size.{size}
use Rattle.nd_shape.specs.Merge.{MergeFits}
use Rattle.ndarray_layout.specs.RowsLeft.{with_item}
use Rattle.ndarray_layout.specs.View.{View, IsView, view_of, view_places}

-- the strides of the layout of a number, in a list of those of one layout after another
abbrev pub strides_of : ℕ → ℕ → List ℕ → List ℕ
strides_of ndim number strides = take ndim (drop (number * ndim) strides)

-- the axis that moves fastest after so many others
abbrev pub axis_after : Order → ℕ → ℕ → ℕ
axis_after RowMajor ndim count = ndim - 1 - count
axis_after ColumnMajor ndim count = count

-- a list with an item for each axis, without those of so many axes that move fastest
abbrev pub slower_than : Order → ℕ → List ℕ → List ℕ
slower_than RowMajor count items = take (length items - count) items
slower_than ColumnMajor count items = drop count items

-- a layout from a place on, with so many of its fastest axes as one of this length and stride
abbrev pub joined_view : Order → ℕ → List ℕ → List ℕ → ℕ → ℕ → ℕ → View
joined_view order start lens strides count len stride =
    view_of start (with_item order (slower_than order count lens) len) (with_item order (slower_than order count strides) stride)

-- the lengths of the rows along the `count` fastest axes, joined into one of this length: each row begins at a place of the slower axes
abbrev pub row_lens : Order → List ℕ → ℕ → ℕ → List ℕ
row_lens order lens count len = replicate (if len == 0 then 0 else size (slower_than order count lens)) len

-- so many axes are one: wherever the layout starts, this view has its places
pub record IsJoined (order : Order) (lens strides : List ℕ) (count len stride : ℕ) : Type 0 where
  pub is_view : (start : ℕ) → IsView (view_of start lens strides) → IsView (joined_view order start lens strides count len stride)
  pub places : (start : ℕ) → IsView (view_of start lens strides)
      → view_places order (joined_view order start lens strides count len stride) ≡ view_places order (view_of start lens strides)

-- so many axes are one in each layout, along the stride of its number
abbrev pub AreJoinedBy : Order → List ℕ → (ℕ → List ℕ) → ℕ → ℕ → List ℕ → Type 0
AreJoinedBy order lens strides count len joined =
    (number : ℕ) → number < length joined → IsJoined order lens (strides number) count len (slice_index joined number)

-- and the next one, if there is one, doesn't go on in all
abbrev pub NoMoreJoinBy : Order → List ℕ → (ℕ → List ℕ) → ℕ → ℕ → List ℕ → Type 0
NoMoreJoinBy order lens strides count len joined = count < length lens
    → ((number : ℕ) → number < length joined
    → MergeFits (slice_index lens (axis_after order (length lens) count))
    (signed (slice_index (strides number) (axis_after order (length lens) count))) len (signed (slice_index joined number)))
    → ⊥

-- the first, where the strides stand in one list
abbrev pub AreJoined : Order → List ℕ → List ℕ → ℕ → ℕ → List ℕ → Type 0
AreJoined order lens strides = AreJoinedBy order lens (λ number. strides_of (length lens) number strides)

-- the second, where they do
abbrev pub NoMoreJoin : Order → List ℕ → List ℕ → ℕ → ℕ → List ℕ → Type 0
NoMoreJoin order lens strides = NoMoreJoinBy order lens (λ number. strides_of (length lens) number strides)

-- examples
second_of_two : strides_of 2 1 (3 ∷ 1 ∷ 5 ∷ 2 ∷ []) ≡ 5 ∷ 2 ∷ []
second_of_two = refl

last_but_one : axis_after RowMajor 3 1 ≡ 1
last_but_one = refl

all_but_the_last : slower_than RowMajor 1 (2 ∷ 3 ∷ 4 ∷ []) ≡ 2 ∷ 3 ∷ []
all_but_the_last = refl

all_but_the_first : slower_than ColumnMajor 1 (2 ∷ 3 ∷ 4 ∷ []) ≡ 3 ∷ 4 ∷ []
all_but_the_first = refl

rows_of_pixels : row_lens RowMajor (4 ∷ 2 ∷ 3 ∷ []) 2 6 ≡ 6 ∷ 6 ∷ 6 ∷ 6 ∷ []
rows_of_pixels = refl

no_rows_of_none : row_lens RowMajor (4 ∷ 0 ∷ []) 1 0 ≡ []
no_rows_of_none = refl

pixels_as_rows : joined_view RowMajor 7 (4 ∷ 2 ∷ 3 ∷ []) (12 ∷ 3 ∷ 1 ∷ []) 2 6 1 ≡ view_of 7 (4 ∷ 6 ∷ []) (12 ∷ 1 ∷ [])
pixels_as_rows = refl
