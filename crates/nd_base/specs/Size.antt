-- How many indices a shape has, and the limit on sizes and spans.
use Rattle.std.specs.Prelude.{◌≡◌, ℕ, ◌*◌, Bool, true, ◌==◌, if◌then◌else◌, List, [], ◌∷◌, refl}
use Rattle.std.specs.List.{list_any}

-- the greatest `isize`, which no size and no span may pass
abbrev pub limit : ℕ
limit = 9223372036854775807

-- the product of all lengths
abbrev pub size : List ℕ → ℕ
size [] = 1
size (len ∷ lens) = len * size lens

-- the product of the lengths that are not 0
abbrev pub nonzero_size : List ℕ → ℕ
nonzero_size [] = 1
nonzero_size (len ∷ lens) = (if len == 0 then nonzero_size lens else len * nonzero_size lens)

-- some length is 0, so there is no index
abbrev pub is_empty : List ℕ → Bool
is_empty shape = list_any (λ len. len == 0) shape

-- examples
size_of_two_by_three : size (2 ∷ 3 ∷ []) ≡ 6
size_of_two_by_three = refl

size_with_zero : size (2 ∷ 0 ∷ 3 ∷ []) ≡ 0
size_with_zero = refl

nonzero_size_with_zero : nonzero_size (2 ∷ 0 ∷ 3 ∷ []) ≡ 6
nonzero_size_with_zero = refl

size_of_no_axes : size [] ≡ 1
size_of_no_axes = refl

empty_with_zero : is_empty (2 ∷ 0 ∷ 3 ∷ []) ≡ true
empty_with_zero = refl
