-- Layouts whose indices lie in one interval of memory, one at each place of it: what places say, with no rule on strides.
use Rattle.std.specs.Prelude.{◌≡◌, ℕ, ◌<◌, ℤ, pos, negsuc, ◌+ℤ◌, ◌≤ℤ◌, true, List, [], ◌∷◌, nat_eq, slice_index, refl}
use Rattle.std.proofs.Common.{ap, eq-eqb}
use Rattle.std.proofs.lemmas.Bool.{both_ways}
use Rattle.nd_base.specs.DistinctOffsets.{HasDistinctOffsets}
use Rattle.nd_base.specs.Indices.{is_index}
use Rattle.nd_base.specs.Offset.{offset_of}
use Rattle.nd_base.specs.Size.{size}

-- some index of the shape has the offset
abbrev pub HasIndexAt : List ℕ → List ℤ → ℤ → Type 0
HasIndexAt shape strides offset = (index : List ℕ) × (is_index shape index ≡ true) × (offset_of strides index ≡ offset)

-- no two indices share an offset, and each number from the least offset up, as many as the size, is an offset
pub record FillsInterval (shape : List ℕ) (strides : List ℤ) : Type 0 where
  pub least : ℤ
  pub none_below : (index : List ℕ) → is_index shape index ≡ true → least ≤ℤ offset_of strides index
  pub filled : (k : ℕ) → k < size shape → HasIndexAt shape strides (least +ℤ pos k)
  pub distinct : HasDistinctOffsets shape strides

-- examples
below_the_first : HasIndexAt (2 ∷ 3 ∷ []) (negsuc 2 ∷ negsuc 0 ∷ []) (negsuc 4)
below_the_first = (1 ∷ 2 ∷ [], refl, refl)

between_rows : HasIndexAt (3 ∷ 2 ∷ []) (pos 2 ∷ pos 3 ∷ []) (pos 5)
between_rows = (1 ∷ 1 ∷ [], refl, refl)

-- along equal strides the indices (0, 1) and (1, 0) have one offset
with_a_shared_offset : FillsInterval (2 ∷ 2 ∷ []) (pos 1 ∷ pos 1 ∷ []) → ⊥
with_a_shared_offset interval =
    let same = interval.distinct (0 ∷ 1 ∷ []) (1 ∷ 0 ∷ []) refl refl refl in
    both_ways (nat_eq 0 1) refl (eq-eqb 0 1 (ap (λ index. slice_index index 0) same))
