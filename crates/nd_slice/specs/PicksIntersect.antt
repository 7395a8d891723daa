-- When two lists of coordinates share one.
use Rattle.std.specs.Prelude.{ℕ, zero, suc, List, [], ◌∷◌, nat_eq, refl}
use Rattle.std.proofs.Common.{eq-eqb, sym, ◌∙◌}
use Rattle.std.proofs.Math.Nat.{not-suc-le-zero, le_of_suc-le-suc}
use Rattle.std.proofs.lemmas.Bool.{both_ways, ltb-true}
use Rattle.std.specs.List.{Contains}

-- some coordinate is in both
abbrev pub PicksIntersect : List ℕ → List ℕ → Type 0
PicksIntersect one other = (coordinate : ℕ) × Contains one coordinate × Contains other coordinate

-- examples
eight_in_both : PicksIntersect (0 ∷ 4 ∷ 8 ∷ []) (2 ∷ 8 ∷ [])
eight_in_both = (8, (2, ltb-true 2 3 refl, refl), (1, ltb-true 1 2 refl, refl))

other_coordinate : PicksIntersect (0 ∷ []) (1 ∷ []) → ⊥
other_coordinate (coordinate, (zero, below, at), (zero, under, is)) = both_ways (nat_eq 0 1) refl (eq-eqb 0 1 (at ∙ sym is))
other_coordinate (coordinate, (zero, below, at), (suc k, under, is)) = not-suc-le-zero (le_of_suc-le-suc under)
other_coordinate (coordinate, (suc k, below, at), other) = not-suc-le-zero (le_of_suc-le-suc below)

nothing_picked : PicksIntersect (0 ∷ 4 ∷ []) [] → ⊥
nothing_picked (coordinate, one, (k, below, at)) = not-suc-le-zero below
