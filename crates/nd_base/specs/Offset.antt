-- How far an index lies from the first one.
use Rattle.std.specs.Prelude.{◌≡◌, ℕ, ℤ, pos, negsuc, ◌+ℤ◌, ◌*ℤ◌, Option, Some, None, if◌then◌else◌, List, [], ◌∷◌, refl}
use Rattle.nd_base.specs.Indices.{is_index}

-- an index's distance from the first index, with its sign: the sum of each coordinate times its stride
abbrev pub offset_of : List ℤ → List ℕ → ℤ
offset_of strides [] = pos 0
offset_of [] (i ∷ index) = pos 0
offset_of (stride ∷ strides) (i ∷ index) = (pos i *ℤ stride) +ℤ offset_of strides index

-- the offset of a list where it is an index of the shape
abbrev pub checked_offset : List ℕ → List ℤ → List ℕ → Option ℤ
checked_offset shape strides index = (if is_index shape index then Some (offset_of strides index) else None)

-- examples
of_an_index : offset_of (negsuc 2 ∷ pos 1 ∷ []) (1 ∷ 2 ∷ []) ≡ negsuc 0
of_an_index = refl

outside : checked_offset (2 ∷ 3 ∷ []) (negsuc 2 ∷ pos 1 ∷ []) (1 ∷ 3 ∷ []) ≡ None
outside = refl
