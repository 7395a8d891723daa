-- What the windows of a view are: all blocks of one shape, each a step of 1 after the one before.
use Rattle.std.specs.Prelude.{◌≡◌, ℕ, ◌+◌, ◌-◌, pos, negsuc, Option, Some, None, List, [], ◌∷◌, map, take, drop, refl}
use Rattle.nd_base.specs.declared.error.ErrorKind.{ErrorKind}
use Rattle.nd_base.specs.declared.error.ErrorKind.TheVariants.{IncompatibleShape, Overflow, Unsupported}
use Rattle.nd_base.specs.declared.order.Order.TheVariants.{RowMajor}
use Rattle.nd_base.specs.Elementwise.{elementwise, sums}
use Rattle.ndarray_layout.specs.BlocksView.{block_at, block_starts, blocks_fault, blocks_of}
use Rattle.ndarray_layout.specs.View.{View, view_places}

-- how many windows of a length an axis has: none where the window is longer
abbrev pub window_count : ℕ → ℕ → ℕ
window_count len window = len + 1 - window

-- how many windows of a shape lie along each axis
abbrev pub window_counts : List ℕ → List ℕ → List ℕ
window_counts shape window = elementwise window_count shape window

-- the view of all windows of a shape: first the index of the window, then the index in it, both along the strides of the view
abbrev pub windows_of : List ℕ → View → View
windows_of window view = blocks_of (window_counts view.shape window) view.strides window view

-- the view of the first index of each window, along the strides of the view
abbrev pub window_starts_of : List ℕ → View → View
window_starts_of window view = block_starts (window_counts view.shape window) view.strides view

-- the windows, one from the place of each window's first index, in row-major order of these
abbrev pub window_views : List ℕ → View → List View
window_views window view = map (block_at window view) (view_places RowMajor (window_starts_of window view))

-- which index of a view of so many axes an index in a window stands for: the index of the window and the index in it, added
abbrev pub window_source : ℕ → List ℕ → List ℕ
window_source ndim index = sums (take ndim index) (drop ndim index)

-- the fault of the windows of a shape, into a type that may fix a count of axes
abbrev pub windows_fault : Option ℕ → List ℕ → List ℕ → Option ErrorKind
windows_fault fixed shape window = blocks_fault fixed shape (window_counts shape window) window

-- examples
pairs_of_four : windows_of (2 ∷ []) (record { start = 0; shape = 4 ∷ []; strides = pos 1 ∷ [] })
    ≡ record { start = 0; shape = 3 ∷ 2 ∷ []; strides = pos 1 ∷ pos 1 ∷ [] }
pairs_of_four = refl

squares_of_a_flipped_picture : windows_of (2 ∷ 2 ∷ []) (record { start = 12; shape = 4 ∷ 3 ∷ []; strides = negsuc 3 ∷ pos 1 ∷ [] })
    ≡ record { start = 12; shape = 3 ∷ 2 ∷ 2 ∷ 2 ∷ []; strides = negsuc 3 ∷ pos 1 ∷ negsuc 3 ∷ pos 1 ∷ [] }
squares_of_a_flipped_picture = refl

starts_of_squares : window_starts_of (2 ∷ 2 ∷ []) (record { start = 12; shape = 4 ∷ 3 ∷ []; strides = negsuc 3 ∷ pos 1 ∷ [] })
    ≡ record { start = 12; shape = 3 ∷ 2 ∷ []; strides = negsuc 3 ∷ pos 1 ∷ [] }
starts_of_squares = refl

whole : windows_of (4 ∷ []) (record { start = 0; shape = 4 ∷ []; strides = pos 1 ∷ [] })
    ≡ record { start = 0; shape = 1 ∷ 4 ∷ []; strides = pos 1 ∷ pos 1 ∷ [] }
whole = refl

each_pair_of_three : window_views (2 ∷ []) (record { start = 5; shape = 3 ∷ []; strides = negsuc 0 ∷ [] })
    ≡ record { start = 5; shape = 2 ∷ []; strides = negsuc 0 ∷ [] } ∷ record { start = 4; shape = 2 ∷ []; strides = negsuc 0 ∷ [] } ∷ []
each_pair_of_three = refl

longer_than_the_axis : windows_of (2 ∷ 5 ∷ []) (record { start = 0; shape = 4 ∷ 3 ∷ []; strides = pos 3 ∷ pos 1 ∷ [] })
    ≡ record { start = 0; shape = 3 ∷ 0 ∷ 2 ∷ 5 ∷ []; strides = pos 0 ∷ pos 0 ∷ pos 0 ∷ pos 0 ∷ [] }
longer_than_the_axis = refl

of_no_axes : windows_of [] (record { start = 7; shape = []; strides = [] }) ≡ record { start = 7; shape = []; strides = [] }
of_no_axes = refl

second_of_third_window : window_source 1 (2 ∷ 1 ∷ []) ≡ 3 ∷ []
second_of_third_window = refl

corner_of_a_square : window_source 2 (1 ∷ 0 ∷ 1 ∷ 1 ∷ []) ≡ 2 ∷ 1 ∷ []
corner_of_a_square = refl

window_of_length_zero : windows_fault None (4 ∷ 4 ∷ []) (2 ∷ 0 ∷ []) ≡ Some Unsupported
window_of_length_zero = refl

window_of_one_axis : windows_fault None (4 ∷ 4 ∷ []) (0 ∷ []) ≡ Some IncompatibleShape
window_of_one_axis = refl

too_many : windows_fault None (8589934592 ∷ []) (4294967296 ∷ []) ≡ Some Overflow
too_many = refl

longer_is_no_fault : windows_fault (Some 2) (4 ∷ []) (5 ∷ []) ≡ None
longer_is_no_fault = refl
