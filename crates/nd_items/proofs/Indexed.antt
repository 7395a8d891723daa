-- Indices beside as many items.
use Rattle.std.proofs.Common.{◌≡◌, ℕ, List, length, subst, sym, arith}
use Rattle.std.specs.List.{All, zip}
use Rattle.std.proofs.lemmas.List.Elements.{All-map}
use Rattle.std.proofs.lemmas.Slice.Zip.{firsts-zip, length-zip}

module _ {T : Type 0} (indices : List (List ℕ)) (items : List T) (same : length indices ≡ length items) where
  -- as many pairs
  pub many_left : length items ≡ length (zip indices items)
  many_left = let count = length-zip indices items in grind (arith, count, same)

  -- what holds of the count of axes of each pair's index holds of that of each index
  pub holds_of_indices : (P : ℕ → Type 0) → All (λ pair. P (length pair.0)) (zip indices items) → All (λ index. P (length index)) indices
  holds_of_indices P all =
      subst (All (λ index. P (length index))) (firsts-zip indices items (sym same))
      (All-map (λ index. P (length index)) (λ pair. pair.0) (zip indices items) all)
