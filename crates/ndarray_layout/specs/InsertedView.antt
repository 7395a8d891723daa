-- What a new axis of length 1 makes of a view, and where that fails.
use Rattle.std.specs.Prelude.{◌≡◌, ℕ, pos, nat_le, Option, Some, None, if◌then◌else◌, List, [], ◌∷◌, length, insert, remove, refl}
use Rattle.nd_base.specs.declared.error.ErrorKind.{ErrorKind}
use Rattle.nd_base.specs.declared.error.ErrorKind.TheVariants.{OutOfBounds}
use Rattle.ndarray_layout.specs.View.{View}

-- the fault of a new axis: it would come after more axes than there are
abbrev pub insert_fault : List ℕ → ℕ → Option ErrorKind
insert_fault shape axis = if nat_le axis (length shape) then None else Some OutOfBounds

-- a view with a new axis before the axis of that number, or after all of them: it has one coordinate, and the stride 1
abbrev pub inserted_of : ℕ → View → View
inserted_of axis view = record {
  start = view.start;
  shape = insert view.shape axis 1;
  strides = insert view.strides axis (pos 1);
}

-- which index of the view an index stands for: the one without the coordinate on the new axis
abbrev pub insert_source : ℕ → List ℕ → List ℕ
insert_source axis coordinates = remove coordinates axis

-- examples
between_rows_and_columns : inserted_of 1 (record { start = 4; shape = 2 ∷ 3 ∷ []; strides = pos 9 ∷ pos 2 ∷ [] })
    ≡ record { start = 4; shape = 2 ∷ 1 ∷ 3 ∷ []; strides = pos 9 ∷ pos 1 ∷ pos 2 ∷ [] }
between_rows_and_columns = refl

of_one_item : inserted_of 0 (record { start = 4; shape = []; strides = [] }) ≡ record { start = 4; shape = 1 ∷ []; strides = pos 1 ∷ [] }
of_one_item = refl

source_between : insert_source 1 (1 ∷ 0 ∷ 2 ∷ []) ≡ 1 ∷ 2 ∷ []
source_between = refl

after_all : insert_fault (2 ∷ 3 ∷ []) 2 ≡ None
after_all = refl

past_all : insert_fault (2 ∷ 3 ∷ []) 3 ≡ Some OutOfBounds
past_all = refl
