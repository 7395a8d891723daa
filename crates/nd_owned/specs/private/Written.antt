-- Items that are written at places among so many: what the contracts of private functions speak of.
use Rattle.std.specs.Prelude.{ℕ, ◌^◌, ℤ, pos, Some, None, List, [], ◌∷◌, map, slice_index_or, unwrap_or, nat_eq, refl}
use Rattle.std.proofs.Common.{ap, eq-eqb}
use Rattle.std.proofs.Math.Dec.{lt→ltb}
use Rattle.std.proofs.lemmas.Bool.{both_ways, ltb-true}
use Rattle.std.specs.List.{All}
use Rattle.ndarray_layout.specs.Bounds.{IsInBounds}
use Rattle.nd_lent.specs.Written.{HasSet}

-- places lie among so many elements, and are numbers of an `isize`
pub record AreInBounds (count : ℕ) (places : List ℤ) : Type 0 where
  pub within : All (IsInBounds count) places
  pub fit : All (IsInBounds (2 ^ 63)) places

-- items are at places, and all others stay
abbrev pub HasWritten : {T : Type 0} → List ℤ → List T → List T → List T → Type 0
HasWritten places items old new = HasSet places (map Some items) old new

-- examples
place_past_the_end : AreInBounds 5 (pos 5 ∷ pos 3 ∷ []) → ⊥
place_past_the_end in_bounds = lt→ltb 5 5 (in_bounds.within 0 (pos 0) (ltb-true 0 2 refl))

item_not_there : HasWritten {T = ℕ} (pos 1 ∷ []) (20 ∷ []) (7 ∷ 7 ∷ []) (7 ∷ 7 ∷ []) → ⊥
item_not_there left =
    both_ways (nat_eq 7 20) refl (eq-eqb 7 20 (ap (λ items. unwrap_or (slice_index_or items 0 None) 0) left.written))
