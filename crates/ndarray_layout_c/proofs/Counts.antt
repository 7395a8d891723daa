-- How long lists are, and the strides of views that are one.
use Rattle.std.proofs.Common.{◌≡◌, ◌+◌, ◌≤◌, ℕ, Bool, true, false, cond, Some, None, List, [], ◌∷◌, ◌++◌, length, refl, ap, ◌∙◌, arith}
use Rattle.std.specs.Prelude.{slice_index_or}
use Rattle.std.proofs.lemmas.List.{length-map}
use Rattle.ndarray_layout.specs.declared.ErrorKind.TheVariants.{IncompatibleShape}
use Rattle.ndarray_layout.specs.declared.Order.{Order}
use Rattle.ndarray_layout.specs.declared.Order.TheVariants.{RowMajor, ColumnMajor}
use Rattle.ndarray_layout.specs.AxesInOrder.{is_axis_order}
use Rattle.ndarray_layout.specs.ChunksView.{chunk_count, chunk_counts, chunks_fault, chunks_of}
use Rattle.ndarray_layout.specs.Elementwise.{elementwise}
use Rattle.ndarray_layout.specs.PermutedView.{permute_fault, permuted_of}
use Rattle.ndarray_layout.specs.Signed.{signed, all_signed}
use Rattle.ndarray_layout.specs.Size.{nonzero_size, size}
use Rattle.ndarray_layout.specs.View.{View}
use Rattle.ndarray_layout.specs.WindowsView.{window_count, window_counts, windows_fault, windows_of}
use Rattle.ndarray_layout.proofs.Laws.AxesInOrder.{length_of_order}
use Rattle.ndarray_layout.proofs.Laws.BlocksView.{can_take_blocks}
use Rattle.ndarray_layout.proofs.Laws.NonzeroSize.{size_le_nonzero_size}
use Rattle.ndarray_layout.proofs.Laws.Strides.{default_count, fortran_count}
use Rattle.ndarray_layout_c.specs.OwnStrides.{own_strides}

-- strides that are kept as numbers of the same bits are as many as the signed ones
pub length_all_signed : (strides : List ℕ) → length (all_signed strides) ≡ length strides
length_all_signed strides = length-map strides signed

-- a shape has as many strides of its own as axes
pub length_own_strides : (order : Order) (shape : List ℕ) → length (own_strides order shape) ≡ length shape
length_own_strides RowMajor shape = default_count shape
length_own_strides ColumnMajor shape = fortran_count shape

-- the size of a shape is at most the product of its lengths that are not 0
pub size_le : (shape : List ℕ) → size shape ≤ nonzero_size shape
size_le shape = size_le_nonzero_size shape

-- views that are one have the same strides
pub strides_of_view : (v w : View) → v ≡ w → v.strides ≡ w.strides
strides_of_view v w same = ap View.strides same

-- a view with its axes in another order has as many axes
pub length_permuted : (axes : List ℕ) (view : View) → permute_fault view.shape axes ≡ None
    → length (permuted_of axes view).shape ≡ length view.shape
length_permuted axes view none =
    length-map axes (λ axis. slice_index_or view.shape axis 0)
    ∙ length_of_order (length view.shape) axes (order_of (is_axis_order (length view.shape) axes) none)
  where
    order_of : (fits : Bool) → cond fits None (Some IncompatibleShape) ≡ None → fits ≡ true
    order_of true none = refl
    order_of false none = absurd (cc)

-- with a number for each axis before them, lists have so many more
length-with_counts : (count : ℕ → ℕ → ℕ) (shape block others : List ℕ) → length block ≡ length shape
    → length (elementwise count shape block ++ others) ≡ length shape + length others
length-with_counts count [] block others same = omega arith
length-with_counts count (len ∷ shape) [] others same = absurd (omega arith)
length-with_counts count (len ∷ shape) (first ∷ block) others same =
    omega (arith, length-with_counts count shape block others (omega arith))

length-blocks : (count : ℕ → ℕ → ℕ) (shape block : List ℕ) → length block ≡ length shape
    → length (elementwise count shape block ++ block) ≡ length shape + length shape
length-blocks count shape block same = length-with_counts count shape block block same ∙ ap (λ n. length shape + n) same

-- windows and chunks have two axes for each axis of the view
pub length_windows : (window : List ℕ) (view : View) → windows_fault None view.shape window ≡ None
    → length (windows_of window view).shape ≡ length view.shape + length view.shape
length_windows window view none =
    let can = can_take_blocks None view.shape (window_counts view.shape window) window none in
    length-blocks window_count view.shape window can.same_count

pub length_chunks : (chunk : List ℕ) (view : View) → chunks_fault None view.shape chunk ≡ None
    → length (chunks_of chunk view).shape ≡ length view.shape + length view.shape
length_chunks chunk view none =
    let can = can_take_blocks None view.shape (chunk_counts view.shape chunk) chunk none in
    length-blocks chunk_count view.shape chunk can.same_count
