-- What broadcasting to a shape makes of a view, and which shapes fail.
use Rattle.std.specs.Prelude.{◌≡◌, ℕ, ◌-◌, ◌≤◌, ◌==◌, ℤ, pos, negsuc, Bool, false, not, nat_lt, nat_eq, Option, Some, None, if◌then◌else◌}
use Rattle.std.specs.Prelude.{List, [], ◌∷◌, ◌++◌, length, drop, replicate, is_some, refl}
use Rattle.std.proofs.Common.{ap}
use Rattle.std.proofs.lemmas.Bool.{both_ways}
use Rattle.std.specs.Option.{option_map_or}
use Rattle.std.specs.Cmp.Lexicographic.{pointwise}
use Rattle.nd_base.specs.declared.error.ErrorKind.{ErrorKind}
use Rattle.nd_base.specs.declared.error.ErrorKind.TheVariants.{IncompatibleShape, Overflow}
use Rattle.nd_base.specs.Size.{nonzero_size, limit}
use Rattle.nd_shape.specs.CommonShape.{common_shape}
use Rattle.ndarray_layout.specs.View.{View}

-- a shape is the one that it and another have in common, so that views of the other can be read as views of it
abbrev pub takes_in : List ℕ → List ℕ → Bool
takes_in shape other = option_map_or (λ common. pointwise nat_eq common shape) (common_shape other shape) false

-- a view of a shape can be read as one of another: that is the one that both have in common, and the product of its lengths that
-- are not 0 is within the limit
abbrev pub BroadcastFits : List ℕ → List ℕ → Type 0
BroadcastFits shape view_shape = (common_shape view_shape shape ≡ Some shape) × (nonzero_size shape ≤ limit)

-- the fault of broadcasting a view of a shape to another one that is reported: of the shapes first, and then of the product of the
-- lengths that are not 0
abbrev pub broadcast_fault : List ℕ → List ℕ → Option ErrorKind
broadcast_fault shape view_shape =
    if not (takes_in shape view_shape) then Some IncompatibleShape else if nat_lt limit (nonzero_size shape) then Some Overflow else None

-- the strides of axes that the view has already: 0 where the length is another one now, so that all coordinates are the one of the view
abbrev pub stretched_strides : List ℕ → List ℕ → List ℤ → List ℤ
stretched_strides lens others [] = []
stretched_strides [] others (stride ∷ strides) = []
stretched_strides (len ∷ lens) [] (stride ∷ strides) = []
stretched_strides (len ∷ lens) (other ∷ others) (stride ∷ strides) =
    (if len == other then stride else pos 0) ∷ stretched_strides lens others strides

-- how many axes of a shape are new where another one has only so many
abbrev pub new_axes : List ℕ → List ℕ → ℕ
new_axes shape view_shape = length shape - length view_shape

-- the strides of all axes of a view read as one of a shape: new axes come first, with a stride of 0
abbrev pub broadcast_strides : List ℕ → List ℕ → List ℤ → List ℤ
broadcast_strides shape view_shape strides =
    replicate (new_axes shape view_shape) (pos 0) ++ stretched_strides (drop (new_axes shape view_shape) shape) view_shape strides

-- a view read as one of a shape that takes it in: its start stays
abbrev pub broadcast_of : List ℕ → View → View
broadcast_of shape view = record {
  start = view.start;
  shape = shape;
  strides = broadcast_strides shape view.shape view.strides;
}

-- the coordinates on axes that the view has already: an axis of length 1 has only the first
abbrev pub coordinates_within : List ℕ → List ℕ → List ℕ
coordinates_within [] coordinates = []
coordinates_within (len ∷ lens) [] = []
coordinates_within (len ∷ lens) (coordinate ∷ coordinates) = (if len == 1 then 0 else coordinate) ∷ coordinates_within lens coordinates

-- which index of a view of a shape an index of the broadcast view stands for: the coordinates of new axes, which come first, are dropped
abbrev pub broadcast_source : List ℕ → List ℕ → List ℕ
broadcast_source view_shape coordinates = coordinates_within view_shape (drop (new_axes coordinates view_shape) coordinates)

-- examples
one_row_three_times : broadcast_of (2 ∷ 3 ∷ 4 ∷ []) (record { start = 5; shape = 1 ∷ 4 ∷ []; strides = pos 9 ∷ negsuc 0 ∷ [] })
    ≡ record { start = 5; shape = 2 ∷ 3 ∷ 4 ∷ []; strides = pos 0 ∷ pos 0 ∷ negsuc 0 ∷ [] }
one_row_three_times = refl

axis_that_stays_keeps_its_stride : broadcast_strides (1 ∷ 3 ∷ []) (1 ∷ 1 ∷ []) (pos 9 ∷ pos 7 ∷ []) ≡ pos 9 ∷ pos 0 ∷ []
axis_that_stays_keeps_its_stride = refl

to_no_coordinate : broadcast_strides (0 ∷ 3 ∷ []) (1 ∷ 3 ∷ []) (pos 3 ∷ pos 1 ∷ []) ≡ pos 0 ∷ pos 1 ∷ []
to_no_coordinate = refl

source_in_one_row : broadcast_source (1 ∷ 4 ∷ []) (1 ∷ 2 ∷ 3 ∷ []) ≡ 0 ∷ 3 ∷ []
source_in_one_row = refl

source_of_no_axes : broadcast_source [] (1 ∷ 2 ∷ []) ≡ []
source_of_no_axes = refl

two_rows_to_three : broadcast_fault (3 ∷ 4 ∷ []) (2 ∷ 4 ∷ []) ≡ Some IncompatibleShape
two_rows_to_three = refl

common_shape_is_larger : broadcast_fault (1 ∷ 4 ∷ []) (2 ∷ 4 ∷ []) ≡ Some IncompatibleShape
common_shape_is_larger = refl

fewer_axes : broadcast_fault (4 ∷ []) (1 ∷ 4 ∷ []) ≡ Some IncompatibleShape
fewer_axes = refl

too_many : broadcast_fault (4611686018427387904 ∷ 2 ∷ []) (1 ∷ 2 ∷ []) ≡ Some Overflow
too_many = refl

too_many_of_a_shape_that_does_not_fit : broadcast_fault (4611686018427387904 ∷ 2 ∷ []) (3 ∷ []) ≡ Some IncompatibleShape
too_many_of_a_shape_that_does_not_fit = refl

too_many_beside_none : broadcast_fault (0 ∷ 9223372036854775808 ∷ []) (1 ∷ 1 ∷ []) ≡ Some Overflow
too_many_beside_none = refl

one_coordinate_to_none : broadcast_fault (0 ∷ 3 ∷ []) (1 ∷ 3 ∷ []) ≡ None
one_coordinate_to_none = refl

two_new_axes : broadcast_fault (2 ∷ 2 ∷ 3 ∷ []) (3 ∷ []) ≡ None
two_new_axes = refl

rows_of_no_common_shape : BroadcastFits (3 ∷ 4 ∷ []) (2 ∷ 4 ∷ []) → ⊥
rows_of_no_common_shape fits = both_ways false refl (ap is_some fits.0)
