-- The shape that two shapes have in common, by NumPy's rule: they are set side by side at their last axes.
use Rattle.std.specs.Prelude.{◌≡◌, ℕ, ◌-◌, ◌==◌, max, if◌then◌else◌, Option, Some, None, is_some, List, [], ◌∷◌, ◌++◌}
use Rattle.std.specs.Prelude.{length, replicate, refl}
use Rattle.std.specs.Option.{option_map, option_and_then}
use Rattle.nd_base.specs.declared.error.ErrorKind.{ErrorKind}
use Rattle.nd_base.specs.declared.error.ErrorKind.TheVariants.{IncompatibleShape}

-- the length that two axes have in common: equal lengths stay, a length of 1 gives way to the other; two others have none
abbrev pub common_length : ℕ → ℕ → Option ℕ
common_length len other =
    (if len == other then Some len
    else if len == 1 then Some other
    else if other == 1 then Some len
    else None)

-- the lengths in common of two lists of one count, if every two axes have one
abbrev pub common_lengths : List ℕ → List ℕ → Option (List ℕ)
common_lengths [] others = Some []
common_lengths (len ∷ lens) [] = Some []
common_lengths (len ∷ lens) (other ∷ others) =
    option_and_then
    (λ common. option_map (λ rest. common ∷ rest) (common_lengths lens others))
    (common_length len other)

-- a shape with lengths of 1 in front of it, up to a count
abbrev pub padded : ℕ → List ℕ → List ℕ
padded count shape = replicate (count - length shape) 1 ++ shape

-- the shape, of the greater count of axes, that two shapes have in common, if there is one
abbrev pub common_shape : List ℕ → List ℕ → Option (List ℕ)
common_shape shape other =
    common_lengths
    (padded (max (length shape) (length other)) shape)
    (padded (max (length shape) (length other)) other)

-- the fault of two shapes: that they have none in common
abbrev pub common_shape_fault : List ℕ → List ℕ → Option ErrorKind
common_shape_fault shape other = (if is_some (common_shape shape other) then None else Some IncompatibleShape)

-- examples
stretched : common_shape (2 ∷ 3 ∷ []) (4 ∷ 1 ∷ 3 ∷ []) ≡ Some (4 ∷ 2 ∷ 3 ∷ [])
stretched = refl

one_gives_way_to_zero : common_shape (2 ∷ 1 ∷ 1 ∷ []) (0 ∷ 0 ∷ 1 ∷ 3 ∷ 4 ∷ []) ≡ Some (0 ∷ 0 ∷ 2 ∷ 3 ∷ 4 ∷ [])
one_gives_way_to_zero = refl

none_for_two_and_three : common_shape (1 ∷ 2 ∷ 2 ∷ []) (1 ∷ 3 ∷ 4 ∷ []) ≡ None
none_for_two_and_three = refl

none_for_two_and_zero : common_shape (2 ∷ 1 ∷ 2 ∷ []) (0 ∷ []) ≡ None
none_for_two_and_zero = refl

no_axes_give_way : common_shape (3 ∷ 4 ∷ 5 ∷ []) [] ≡ Some (3 ∷ 4 ∷ 5 ∷ [])
no_axes_give_way = refl
