-- Laws of lists with an item for each axis, in the order in which the axes are read: what holds by rows is read for both.
use Rattle.std.proofs.Common.{◌≡◌, ℕ, ℤ, List, [], length, map, replicate, refl}
use Rattle.std.proofs.lemmas.List.{reverse-reverse, length-reverse}
use Rattle.nd_base.specs.declared.order.Order.{Order}
use Rattle.nd_base.specs.declared.order.Order.TheVariants.{RowMajor, ColumnMajor}
use Rattle.nd_base.proofs.Laws.Definitions.{is_index, offset_of, as_read, is_empty, nonzero_size, size, sum_over_axes}
use Rattle.nd_base.proofs.Laws.IsIndex.{is_index-reverse}
use Rattle.nd_base.proofs.Laws.Lists.{map-reverse, reverse-replicate}
use Rattle.nd_base.proofs.Laws.NonzeroSize.{nonzero_size-reverse}
use Rattle.nd_base.proofs.Laws.Offset.{offset_of-reverse}
use Rattle.nd_base.proofs.Laws.Size.{is_empty-reverse, size-reverse}
use Rattle.nd_base.proofs.Laws.Span.{sum_over_axes-reverse}

-- ---- any items
-- as many
pub length-as_read : {A : Type 0} (order : Order) (items : List A) → length (as_read order items) ≡ length items
length-as_read RowMajor items = refl
length-as_read ColumnMajor items = length-reverse items

-- read twice, the list itself
pub as_read-as_read : {A : Type 0} (order : Order) (items : List A) → as_read order (as_read order items) ≡ items
as_read-as_read RowMajor items = refl
as_read-as_read ColumnMajor items = reverse-reverse items

pub as_read-nil : {A : Type 0} (order : Order) → as_read {A = A} order [] ≡ []
as_read-nil RowMajor = refl
as_read-nil ColumnMajor = refl

pub as_read-replicate : {A : Type 0} (order : Order) (n : ℕ) (x : A) → as_read order (replicate n x) ≡ replicate n x
as_read-replicate RowMajor n x = refl
as_read-replicate ColumnMajor n x = reverse-replicate n x

-- a function of each item, before or after
pub map-as_read : {A B : Type 0} (order : Order) (f : A → B) (items : List A)
    → map f (as_read order items) ≡ as_read order (map f items)
map-as_read RowMajor f items = refl
map-as_read ColumnMajor f items = map-reverse f items

-- ---- a shape
pub size-as_read : (order : Order) (shape : List ℕ) → size (as_read order shape) ≡ size shape
size-as_read RowMajor shape = refl
size-as_read ColumnMajor shape = size-reverse shape

pub nonzero_size-as_read : (order : Order) (shape : List ℕ) → nonzero_size (as_read order shape) ≡ nonzero_size shape
nonzero_size-as_read RowMajor shape = refl
nonzero_size-as_read ColumnMajor shape = nonzero_size-reverse shape

-- and whether a length of it is 0
pub is_empty-as_read : (order : Order) (shape : List ℕ) → is_empty (as_read order shape) ≡ is_empty shape
is_empty-as_read RowMajor shape = refl
is_empty-as_read ColumnMajor shape = is_empty-reverse shape

-- ---- a shape with an index or with strides
pub is_index-as_read : (order : Order) (shape index : List ℕ)
    → is_index (as_read order shape) (as_read order index) ≡ is_index shape index
is_index-as_read RowMajor shape index = refl
is_index-as_read ColumnMajor shape index = is_index-reverse shape index

pub offset_of-as_read : (order : Order) (strides : List ℤ) (index : List ℕ) → length strides ≡ length index
    → offset_of (as_read order strides) (as_read order index) ≡ offset_of strides index
offset_of-as_read RowMajor strides index count = refl
offset_of-as_read ColumnMajor strides index count = offset_of-reverse strides index count

-- a sum over the axes, such as a span
pub sum_over_axes-as_read : (order : Order) (f : ℕ → ℤ → ℕ) (shape : List ℕ) (strides : List ℤ) → length shape ≡ length strides
    → sum_over_axes f (as_read order shape) (as_read order strides) ≡ sum_over_axes f shape strides
sum_over_axes-as_read RowMajor f shape strides count = refl
sum_over_axes-as_read ColumnMajor f shape strides count = sum_over_axes-reverse f shape strides count
