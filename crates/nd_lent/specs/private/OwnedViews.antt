-- Views whose places a right has to itself, each of them its own.
use Rattle.std.specs.List.{All}
use Rattle.std.specs.Prelude.{Bool, false, List, [], ◌∷◌, refl}
use Rattle.std.proofs.lemmas.Bool.{both_ways, ltb-true}
use Rattle.ndarray_layout.specs.View.{View}
use Rattle.nd_lent.specs.Blocks.{AreApart}
use Rattle.nd_access.specs.Part.{IsPart}

-- each is a part, and no two have a place in common
pub record OwnsEach (marks : List Bool) (views : List View) : Type 0 where
  pub parts : All (IsPart marks) views
  pub apart : AreApart views

-- example
no_longer_its_own : OwnsEach (false ∷ []) (record { start = 0; shape = []; strides = [] } ∷ []) → ⊥
no_longer_its_own own =
    both_ways false refl ((own.parts 0 (record { start = 0; shape = []; strides = [] }) (ltb-true 0 1 refl)).marked [] refl)
