-- A slice that is moved along the axes of a shape: by how many coordinates, and the slice that it is then.
use Rattle.std.specs.Prelude.{◌≡◌, ℕ, ◌+◌, ◌-◌, ◌==◌, pos, negsuc, Option, Some, None, if◌then◌else◌, List, [], ◌∷◌, map, refl}
use Rattle.ndarray_layout.specs.declared.ErrorKind.{ErrorKind}
use Rattle.ndarray_layout.specs.declared.ErrorKind.TheVariants.{IncompatibleShape, OutOfBounds}
use Rattle.ndarray_layout.specs.declared.Fit.TheVariants.{Strict}
use Rattle.ndarray_layout.specs.declared.SliceInfoElem.{SliceInfoElem}
use Rattle.ndarray_layout.specs.declared.SliceInfoElem.TheVariants as elem
use Rattle.ndarray_layout.specs.AxisElems.{axis_elems}
use Rattle.ndarray_layout.specs.ElemRange.{elem_range}
use Rattle.ndarray_layout.specs.Indices.{is_index}
use Rattle.ndarray_layout.specs.Size.{size}
use Rattle.ndarray_layout.specs.SlicedLayout.{sliced_shape}
use Rattle.ndarray_layout.specs.View.{View}
use Rattle.std.specs.Option.{option_or}

-- a slice that was checked on the shape of a layout
pub record Ready : Type 0 where
  pub view : View
  pub elems : List SliceInfoElem

-- along an axis of length len, by how many coordinates an element that fits can be moved, 0 among them: until its range ends where the
-- axis does
abbrev pub moves_along : ℕ × SliceInfoElem → ℕ
moves_along axis = axis.0 - (elem_range Strict axis.0 axis.1).1 + 1

-- the same of each axis of a shape
abbrev pub moves : List SliceInfoElem → List ℕ → List ℕ
moves elems shape = map moves_along (axis_elems shape elems)

-- an element of an axis of length len, moved: its bounds, counted from the front, and so many more
abbrev pub moved_elem : ℕ → ℕ → SliceInfoElem → SliceInfoElem
moved_elem len by (elem.Slice start end step) =
    let range = elem_range Strict len (elem.Slice start end step) in
    elem.Slice (pos (range.0 + by)) (Some (pos (range.1 + by))) step
moved_elem len by (elem.Index index) = elem.Index (pos ((elem_range Strict len (elem.Index index)).0 + by))
moved_elem len by elem.NewAxis = elem.NewAxis

-- a slice argument moved by an index: along each axis by its coordinate
abbrev pub moved : List ℕ → List ℕ → List SliceInfoElem → List SliceInfoElem
moved shape index [] = []
moved shape index (elem.NewAxis ∷ elems) = elem.NewAxis ∷ moved shape index elems
moved (len ∷ shape) (by ∷ index) (elem.Slice start end step ∷ elems) =
    moved_elem len by (elem.Slice start end step) ∷ moved shape index elems
moved (len ∷ shape) (by ∷ index) (elem.Index i ∷ elems) = moved_elem len by (elem.Index i) ∷ moved shape index elems
moved shape index (elem.Slice start end step ∷ elems) = []
moved shape index (elem.Index i ∷ elems) = []

-- the slice that one is once it was moved by an index
abbrev pub ready_at : Ready → List ℕ → List SliceInfoElem
ready_at ready index = moved ready.view.shape index ready.elems

-- the error of an index by which a slice can't be moved
abbrev pub move_fault : Ready → List ℕ → Option ErrorKind
move_fault ready index = if is_index (moves ready.elems ready.view.shape) index then None else Some OutOfBounds

-- the error of items that are written at a slice once it was moved: that of the move, then that of another count of items than it picks
abbrev pub set_fault : Ready → List ℕ → ℕ → Option ErrorKind
set_fault ready index count = option_or (move_fault ready index)
    (if count == size (sliced_shape Strict ready.elems ready.view.shape) then None else Some IncompatibleShape)

-- examples
abbrev tile : Ready
tile = record {
  view = record { start = 0; shape = 4 ∷ 5 ∷ []; strides = pos 5 ∷ pos 1 ∷ [] };
  elems = elem.Slice (pos 0) (Some (pos 3)) (pos 1) ∷ elem.Slice (negsuc 4) (Some (pos 3)) (negsuc 0) ∷ [];
}

two_by_three_moves : moves tile.elems tile.view.shape ≡ 2 ∷ 3 ∷ []
two_by_three_moves = refl

of_no_coordinates : moves (elem.Slice (pos 0) None (pos 1) ∷ []) (0 ∷ []) ≡ 1 ∷ []
of_no_coordinates = refl

of_empty_ranges : moves (elem.Slice (pos 2) (Some (pos 2)) (pos 1) ∷ elem.Slice (pos 0) (Some (pos 0)) (negsuc 0) ∷ []) (5 ∷ 5 ∷ [])
    ≡ 4 ∷ 6 ∷ []
of_empty_ranges = refl

of_index : moves (elem.NewAxis ∷ elem.Index (negsuc 3) ∷ elem.Index (negsuc 0) ∷ []) (4 ∷ 4 ∷ []) ≡ 4 ∷ 1 ∷ []
of_index = refl

last_move : ready_at tile (1 ∷ 2 ∷ []) ≡ elem.Slice (pos 1) (Some (pos 4)) (pos 1) ∷ elem.Slice (pos 2) (Some (pos 5)) (negsuc 0) ∷ []
last_move = refl

empty_range_at_the_end : moved (5 ∷ []) (5 ∷ []) (elem.Slice (pos 0) (Some (pos 0)) (pos 1) ∷ [])
    ≡ elem.Slice (pos 5) (Some (pos 5)) (pos 1) ∷ []
empty_range_at_the_end = refl

past_the_last_move : move_fault tile (2 ∷ 0 ∷ []) ≡ Some OutOfBounds
past_the_last_move = refl

move_before_count : set_fault tile (2 ∷ 0 ∷ []) 5 ≡ Some OutOfBounds
move_before_count = refl

five_for_nine : set_fault tile (1 ∷ 2 ∷ []) 5 ≡ Some IncompatibleShape
five_for_nine = refl

of_another_count : move_fault tile (1 ∷ []) ≡ Some OutOfBounds
of_another_count = refl

index_moved : moved (4 ∷ []) (1 ∷ []) (elem.NewAxis ∷ elem.Index (negsuc 1) ∷ []) ≡ elem.NewAxis ∷ elem.Index (pos 3) ∷ []
index_moved = refl
