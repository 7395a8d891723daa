-- Laws of how far an index lies from the first one.
use Rattle.std.proofs.Common.{◌≡◌, ℕ, zero, suc, ◌-◌, ◌*◌, ◌<◌, ◌≤◌, ℤ, pos, negsuc, neg_ℤ, ◌+ℤ◌, ◌*ℤ◌, ◌≤ℤ◌, Bool, true, false, cond}
use Rattle.std.proofs.Common.{Some, None, List, [], ◌∷◌, ◌++◌, length, replicate, reverse, refl, ap, ◌∙◌, arith}
use Rattle.std.specs.Prelude.{nat_lt}
use Rattle.std.specs.List.{All}
use Rattle.std.proofs.Math.Nat.{mul-le-mul_right}
use Rattle.std.proofs.lemmas.Bool.{and_parts, ltb-true}
use Rattle.std.proofs.lemmas.Int.{ints}
use Rattle.std.proofs.lemmas.List.{length-map, length-reverse, reverse-append}
use Rattle.nd_base.proofs.Laws.Definitions.{is_index, checked_offset, offset_of, farthest_offset, all_signed, signed, limit, high_span}
use Rattle.nd_base.proofs.Laws.Definitions.{low_span, reach_down, reach_up, IsValidLayout}
use Rattle.nd_base.proofs.Laws.IsIndex.{length_of_index}
use Rattle.nd_base.proofs.Laws.NonzeroSize.{coordinate_le_nonzero_size}
use Rattle.nd_base.proofs.Laws.FarthestOffset.{farthest_offset_le}

-- one coordinate lies within the reach of its axis
pub coordinate_bounds : (len : ℕ) (stride : ℤ) (i : ℕ) → i < len
    → (neg_ℤ (pos (reach_down len stride)) ≤ℤ (pos i *ℤ stride)) × ((pos i *ℤ stride) ≤ℤ pos (reach_up len stride))
coordinate_bounds len (pos s) i h =
    let steps : i ≤ len - 1 = omega arith in
    let most : i * s ≤ (len - 1) * s = mul-le-mul_right s steps in
    (omega (arith, ints), omega (arith, ints))
coordinate_bounds len (negsuc s) i h =
    let steps : i ≤ len - 1 = omega arith in
    let most = mul-le-mul_right (suc s) steps in
    (omega (arith, ints), omega (arith, ints))

-- every index lies within the span, on both sides
pub offset_bounds : (shape : List ℕ) (strides : List ℤ) (index : List ℕ) → is_index shape index ≡ true → length shape ≡ length strides
    → (neg_ℤ (pos (low_span shape strides)) ≤ℤ offset_of strides index) × (offset_of strides index ≤ℤ pos (high_span shape strides))
offset_bounds [] [] [] h e = (omega (arith, ints), omega (arith, ints))
offset_bounds [] (stride ∷ strides) index h e = absurd (omega arith)
offset_bounds [] [] (i ∷ index) h e = absurd (cc)
offset_bounds (len ∷ shape) [] index h e = absurd (omega arith)
offset_bounds (len ∷ shape) (stride ∷ strides) [] h e = absurd (cc)
offset_bounds (len ∷ shape) (stride ∷ strides) (i ∷ index) h e =
    let parts = and_parts (nat_lt i len) (is_index shape index) h in
    let here = coordinate_bounds len stride i (ltb-true i len parts.0) in
    let rest = offset_bounds shape strides index parts.1 (omega arith) in
    (omega (arith, ints, here.0, rest.0), omega (arith, ints, here.1, rest.1))

-- zeros lie where the first index does
pub offset_of-zeros : (strides : List ℤ) (n : ℕ) → offset_of strides (replicate n 0) ≡ pos 0
offset_of-zeros strides zero = refl
offset_of-zeros [] (suc n) = refl
offset_of-zeros (stride ∷ strides) (suc n) = omega (arith, ints, offset_of-zeros strides n)

-- one axis more moves by its coordinate
pub offset_of-push : (strides : List ℤ) (index : List ℕ) (stride : ℤ) (i : ℕ) → length strides ≡ length index
    → offset_of (strides ++ stride ∷ []) (index ++ i ∷ []) ≡ (pos i *ℤ stride) +ℤ offset_of strides index
offset_of-push [] [] stride i e = refl
offset_of-push [] (j ∷ index) stride i e = absurd (omega arith)
offset_of-push (s ∷ strides) [] stride i e = absurd (omega arith)
offset_of-push (s ∷ strides) (j ∷ index) stride i e = rw (offset_of-push strides index stride i (omega arith)) (omega (arith, ints))

-- the axes read from the back have the same offset
pub offset_of-reverse : (strides : List ℤ) (index : List ℕ) → length strides ≡ length index
    → offset_of (reverse strides) (reverse index) ≡ offset_of strides index
offset_of-reverse [] [] e = refl
offset_of-reverse [] (j ∷ index) e = absurd (omega arith)
offset_of-reverse (s ∷ strides) [] e = absurd (omega arith)
offset_of-reverse (s ∷ strides) (j ∷ index) e =
    let counts : length (reverse strides) ≡ length (reverse index) = omega (arith, length-reverse strides, length-reverse index) in
    rw (reverse-append (s ∷ []) strides, reverse-append (j ∷ []) index)
    (offset_of-push (reverse strides) (reverse index) s j counts
    ∙ ap (λ z. (pos j *ℤ s) +ℤ z) (offset_of-reverse strides index (omega arith)))

-- ---- offsets that are given
-- a list whose offset is given is an index of the shape, and that is its offset
pub given_offset : (shape : List ℕ) (strides : List ℤ) (index : List ℕ) (offset : ℤ)
    → checked_offset shape strides index ≡ Some offset
    → (is_index shape index ≡ true) × (offset ≡ offset_of strides index)
given_offset shape strides index offset e = by (is_index shape index) refl e
  where
    by : (t : Bool) → is_index shape index ≡ t → cond t (Some (offset_of strides index)) None ≡ Some offset
        → (is_index shape index ≡ true) × (offset ≡ offset_of strides index)
    by true h g = (h, cc)
    by false h g = absurd (cc)

-- what a call asks that adds up an offset whatever the shape: a stride for each coordinate, and every part of the sum fits
pub record CanAddUp (strides index : List ℕ) : Type 0 where
  pub same_count : length index ≡ length strides
  pub small : All (λ coordinate. coordinate ≤ limit) index
  pub fits : farthest_offset (all_signed strides) index ≤ limit

-- an index of a valid layout satisfies it
pub index_can_add_up : (shape strides index : List ℕ) → IsValidLayout shape (all_signed strides)
    → is_index shape index ≡ true → CanAddUp strides index
index_can_add_up shape strides index valid here = record {
  same_count = omega (arith, length_of_index shape index here, valid.same_count, length-map strides signed);
  small = λ k d below. omega (arith, coordinate_le_nonzero_size shape index here k d below, valid.size_fits);
  fits = omega (arith, farthest_offset_le shape (all_signed strides) index here, valid.span_fits);
}

-- and so does a list whose offset is given
pub given_offset_can_add_up : (shape strides index : List ℕ) (offset : ℤ) → IsValidLayout shape (all_signed strides)
    → checked_offset shape (all_signed strides) index ≡ Some offset → CanAddUp strides index
given_offset_can_add_up shape strides index offset valid e =
    index_can_add_up shape strides index valid (given_offset shape (all_signed strides) index offset e).0
