-- A view with one of its axes after all others, which keep their order.
use Rattle.std.specs.Prelude.{◌≡◌, ℕ, pos, negsuc, List, [], ◌∷◌, ◌++◌, remove, length, refl}
use Rattle.ndarray_layout.specs.Indices.{below}
use Rattle.ndarray_layout.specs.PermutedView.{permuted_of, permute_source}
use Rattle.ndarray_layout.specs.View.{View}

-- all axes but one in their order, and then that one
abbrev pub axes_with_last : ℕ → ℕ → List ℕ
axes_with_last ndim axis = remove (below ndim) axis ++ axis ∷ []

-- a view with its axes so, the start stays
abbrev pub axis_last_of : ℕ → View → View
axis_last_of axis view = permuted_of (axes_with_last (length view.shape) axis) view

-- which index of the view an index stands for: its last coordinate is that on the axis, the others are the others' in their order
abbrev pub axis_last_source : ℕ → ℕ → List ℕ → List ℕ
axis_last_source ndim axis index = permute_source (axes_with_last ndim axis) index

-- examples
abbrev of_three_axes : View
of_three_axes = record { start = 5; shape = 2 ∷ 3 ∷ 4 ∷ []; strides = pos 12 ∷ pos 4 ∷ negsuc 0 ∷ [] }

first_axis_last : axes_with_last 3 0 ≡ 1 ∷ 2 ∷ 0 ∷ []
first_axis_last = refl

last_axis_stays : axes_with_last 3 2 ≡ 0 ∷ 1 ∷ 2 ∷ []
last_axis_stays = refl

along_the_first : axis_last_of 0 of_three_axes
    ≡ record { start = 5; shape = 3 ∷ 4 ∷ 2 ∷ []; strides = pos 4 ∷ negsuc 0 ∷ pos 12 ∷ [] }
along_the_first = refl

along_the_middle : axis_last_of 1 of_three_axes
    ≡ record { start = 5; shape = 2 ∷ 4 ∷ 3 ∷ []; strides = pos 12 ∷ negsuc 0 ∷ pos 4 ∷ [] }
along_the_middle = refl

along_the_last : axis_last_of 2 of_three_axes ≡ of_three_axes
along_the_last = refl

source_along_the_middle : axis_last_source 3 1 (1 ∷ 3 ∷ 2 ∷ []) ≡ 1 ∷ 2 ∷ 3 ∷ []
source_along_the_middle = refl
