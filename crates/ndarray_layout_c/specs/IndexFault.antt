-- The fault of a list that has to be an index.
use Rattle.std.specs.Prelude.{◌≡◌, ℕ, Option, Some, None, if◌then◌else◌, List, [], ◌∷◌, refl}
use Rattle.ndarray_layout.specs.declared.ErrorKind.{ErrorKind}
use Rattle.ndarray_layout.specs.declared.ErrorKind.TheVariants.{OutOfBounds}
use Rattle.ndarray_layout.specs.Indices.{is_index}

-- the fault of a list that has to be an index of the shape
abbrev pub index_fault : List ℕ → List ℕ → Option ErrorKind
index_fault shape index = if is_index shape index then None else Some OutOfBounds

-- examples
last : index_fault (2 ∷ 3 ∷ []) (1 ∷ 2 ∷ []) ≡ None
last = refl

past : index_fault (2 ∷ 3 ∷ []) (2 ∷ 0 ∷ []) ≡ Some OutOfBounds
past = refl

one_coordinate_short : index_fault (2 ∷ 3 ∷ []) (1 ∷ []) ≡ Some OutOfBounds
one_coordinate_short = refl
