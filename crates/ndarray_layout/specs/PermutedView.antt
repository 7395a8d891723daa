-- What taking the axes in another order makes of a view, and where that fails.
use Rattle.std.specs.List.{swap}
use Rattle.std.specs.Prelude.{◌≡◌, ℕ, pos, negsuc, ◌&&◌, nat_lt, Option, Some, None, if◌then◌else◌, List, [], ◌∷◌, length, reverse, refl}
use Rattle.nd_base.specs.declared.error.ErrorKind.{ErrorKind}
use Rattle.nd_base.specs.declared.error.ErrorKind.TheVariants.{IncompatibleShape, OutOfBounds}
use Rattle.nd_dim.specs.AxesInOrder.{reordered, is_axis_order, inverse_order}
use Rattle.ndarray_layout.specs.View.{View}

-- ---- all axes in an order
-- the fault of an order: it doesn't have each axis of the shape once
abbrev pub permute_fault : List ℕ → List ℕ → Option ErrorKind
permute_fault shape axes = (if is_axis_order (length shape) axes then None else Some IncompatibleShape)

-- a view with its axes in an order: axis k is axis `axes[k]` of the view, the start stays
abbrev pub permuted_of : List ℕ → View → View
permuted_of axes view = record {
  start = view.start;
  shape = reordered 0 axes view.shape;
  strides = reordered (pos 0) axes view.strides;
}

-- which index of the view an index of the permuted one stands for: each axis takes the coordinate of where it stands now
abbrev pub permute_source : List ℕ → List ℕ → List ℕ
permute_source axes index = reordered 0 (inverse_order axes) index

-- ---- two axes
-- the fault of exchanging two axes: one of them isn't there
abbrev pub swap_fault : List ℕ → ℕ → ℕ → Option ErrorKind
swap_fault shape axis other = (if nat_lt axis (length shape) && nat_lt other (length shape) then None else Some OutOfBounds)

-- a view with two axes exchanged
abbrev pub swapped_of : ℕ → ℕ → View → View
swapped_of axis other view = record {
  start = view.start;
  shape = swap view.shape axis other;
  strides = swap view.strides axis other;
}

-- ---- the transpose
-- a view with its axes in the opposite order
abbrev pub reversed_of : View → View
reversed_of view = record { start = view.start; shape = reverse view.shape; strides = reverse view.strides }

-- examples
abbrev two_by_three : View
two_by_three = record { start = 4; shape = 2 ∷ 3 ∷ []; strides = pos 3 ∷ negsuc 0 ∷ [] }

last_axis_first : permuted_of (2 ∷ 0 ∷ 1 ∷ []) (record { start = 0; shape = 2 ∷ 3 ∷ 4 ∷ []; strides = pos 12 ∷ pos 4 ∷ pos 1 ∷ [] })
    ≡ record { start = 0; shape = 4 ∷ 2 ∷ 3 ∷ []; strides = pos 1 ∷ pos 12 ∷ pos 4 ∷ [] }
last_axis_first = refl

source_of_last_axis_first : permute_source (2 ∷ 0 ∷ 1 ∷ []) (3 ∷ 1 ∷ 2 ∷ []) ≡ 1 ∷ 2 ∷ 3 ∷ []
source_of_last_axis_first = refl

one_axis_twice : permute_fault (2 ∷ 3 ∷ []) (1 ∷ 1 ∷ []) ≡ Some IncompatibleShape
one_axis_twice = refl

one_axis_too_few : permute_fault (2 ∷ 3 ∷ []) (0 ∷ []) ≡ Some IncompatibleShape
one_axis_too_few = refl

one_axis_too_many : permute_fault (2 ∷ 3 ∷ []) (0 ∷ 1 ∷ 0 ∷ []) ≡ Some IncompatibleShape
one_axis_too_many = refl

axis_that_is_not_there : permute_fault (2 ∷ 3 ∷ []) (0 ∷ 2 ∷ []) ≡ Some IncompatibleShape
axis_that_is_not_there = refl

no_axes : permute_fault [] [] ≡ None
no_axes = refl

columns_first : permute_fault (2 ∷ 3 ∷ []) (1 ∷ 0 ∷ []) ≡ None
columns_first = refl

swapped : swapped_of 0 1 two_by_three ≡ record { start = 4; shape = 3 ∷ 2 ∷ []; strides = negsuc 0 ∷ pos 3 ∷ [] }
swapped = refl

swapped_with_itself : swapped_of 1 1 two_by_three ≡ two_by_three
swapped_with_itself = refl

no_third_axis : swap_fault (2 ∷ 3 ∷ []) 0 2 ≡ Some OutOfBounds
no_third_axis = refl

transposed : reversed_of two_by_three ≡ record { start = 4; shape = 3 ∷ 2 ∷ []; strides = negsuc 0 ∷ pos 3 ∷ [] }
transposed = refl
