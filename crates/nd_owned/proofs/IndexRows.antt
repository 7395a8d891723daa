-- The indices of a row from one on: the first of them, and how many they are.
use Rattle.std.proofs.Common.{◌≡◌, ℕ, suc, ◌+◌, ◌-◌, ◌<◌, ◌≤◌, Option, Some, List, [], ◌∷◌, get_or, length, map, ap, ◌∙◌, arith}
use Rattle.std.specs.List.{range_with_len}
use Rattle.std.proofs.lemmas.List.{length-map}
use Rattle.std.proofs.lemmas.List.FromFn.{length-range_with_len}
use Rattle.nd_owned.specs.private.IndexRow.{rest_of_row, with_last}

-- those from a coordinate on
abbrev pub row_from : List ℕ → ℕ → ℕ → List (Option (List ℕ))
row_from index coordinate len = map Some (map (with_last index) (range_with_len coordinate (len - coordinate)))

module _ (index : List ℕ) (coordinate len : ℕ) where
  pub first_of_row : coordinate < len
      → row_from index coordinate len ≡ Some (with_last index coordinate) ∷ row_from index (coordinate + 1) len
  first_of_row below =
      let more : len - coordinate ≡ suc (len - (coordinate + 1)) = omega (arith, below) in
      ap (λ n. map Some (map (with_last index) (range_with_len coordinate n))) more

  pub none_of_row : len ≤ coordinate → row_from index coordinate len ≡ []
  none_of_row past =
      let none : len - coordinate ≡ 0 = omega (arith, past) in
      ap (λ n. map Some (map (with_last index) (range_with_len coordinate n))) none

pub length-rest_of_row : (index : List ℕ) (len : ℕ) → length (rest_of_row index len) ≡ len - get_or index (length index - 1) 0
length-rest_of_row index len =
    let first = get_or index (length index - 1) 0 in
    length-map (range_with_len first (len - first)) (with_last index) ∙ length-range_with_len first (len - first)
