-- Layouts that place no two of their indices at one element.
use Rattle.std.specs.Prelude.{◌≡◌, ℕ, ℤ, pos, true, List, [], ◌∷◌, nat_eq, slice_index, refl}
use Rattle.std.proofs.Common.{ap, eq-eqb}
use Rattle.std.proofs.lemmas.Bool.{both_ways}
use Rattle.nd_base.specs.Indices.{is_index}
use Rattle.nd_base.specs.Offset.{offset_of}

-- two indices of the shape with one offset are one index
abbrev pub HasDistinctOffsets : List ℕ → List ℤ → Type 0
HasDistinctOffsets shape strides = (index other : List ℕ) → is_index shape index ≡ true → is_index shape other ≡ true
    → offset_of strides index ≡ offset_of strides other → index ≡ other

-- example: along equal strides the indices (0, 1) and (1, 0) have one offset
shared : HasDistinctOffsets (2 ∷ 2 ∷ []) (pos 1 ∷ pos 1 ∷ []) → ⊥
shared distinct =
    both_ways (nat_eq 0 1) refl (eq-eqb 0 1 (ap (λ index. slice_index index 0) (distinct (0 ∷ 1 ∷ []) (1 ∷ 0 ∷ []) refl refl refl)))
