-- What a layout that a call writes keeps of the one that it was given, wherever that one starts.
use Rattle.std.specs.Prelude.{ℕ, List, refl}
use Rattle.ndarray_layout.specs.Descends.{Descends, IsViewOf}
use Rattle.ndarray_layout.specs.View.{IsView, view_of}

-- from a start from which the given layout fits, each index of the new one lies where its source does; so it lies within whatever data the
-- given one lies within
abbrev pub IsLayoutOf : (List ℕ → List ℕ) → List ℕ → List ℕ → List ℕ → List ℕ → Type 0
IsLayoutOf source shape strides new_shape new_strides =
    (start : ℕ) → IsView (view_of start shape strides) → IsViewOf source (view_of start shape strides) (view_of start new_shape new_strides)

-- and no two indices of the new one alias where no two of the given one do
abbrev pub DescendsInPlace : (List ℕ → List ℕ) → List ℕ → List ℕ → List ℕ → List ℕ → Type 0
DescendsInPlace source shape strides new_shape new_strides =
    (start : ℕ) → IsView (view_of start shape strides) → Descends source (view_of start shape strides) (view_of start new_shape new_strides)

-- examples
itself : (shape strides : List ℕ) → DescendsInPlace (λ index. index) shape strides shape strides
itself shape strides start v =
    record { is_view = v; places = λ index here. (here, refl); in_bounds = λ len within. within; distinct = λ distinct. distinct }
