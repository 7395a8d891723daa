-- How far an index can lie from the first one, whatever the signs of the strides.
use Rattle.std.specs.Prelude.{◌≡◌, ℕ, ◌*◌, ℤ, pos, negsuc, List, [], ◌∷◌, refl}
use Rattle.nd_base.specs.Signed.{magnitude}
use Rattle.nd_base.specs.Span.{sum_over_axes}

-- the sum of each coordinate times the magnitude of its stride
abbrev pub farthest_offset : List ℤ → List ℕ → ℕ
farthest_offset strides index = sum_over_axes (λ coordinate stride. coordinate * magnitude stride) index strides

-- example
steps_back_and_forth : farthest_offset (negsuc 2 ∷ pos 1 ∷ []) (1 ∷ 2 ∷ []) ≡ 5
steps_back_and_forth = refl
