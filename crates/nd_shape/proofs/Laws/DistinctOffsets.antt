-- Laws of layouts that place no two of their indices at one element.
use Rattle.std.proofs.Common.{◌≡◌, ◌≢◌, ℕ, zero, suc, ◌+◌, ◌-◌, ◌*◌, ◌<◌, ◌≤◌, ℤ, pos, negsuc, ◌+ℤ◌, ◌*ℤ◌, ◌≤ℤ◌, true, false, List, [], ◌∷◌}
use Rattle.std.proofs.Common.{length, get_or, refl, sym, ap, ◌∙◌, ◌⊎◌, inl, inr, arith}
use Rattle.std.specs.Prelude.{remove, not, ◌&&◌}
use Rattle.std.proofs.Math.Nat.{mul-le-mul_right, suc-mul}
use Rattle.std.proofs.lemmas.Bool.{and_from, and_parts, both_ways, cases_eq, cases_lt, cases_order, cond-true, le-leb, ltb-true}
use Rattle.std.proofs.lemmas.Int.{ints}
use Rattle.std.proofs.lemmas.List.Edits.{get_or-remove_above, get_or-remove_below, length-remove}
use Rattle.nd_base.proofs.Laws.Definitions.{HasDistinctOffsets, is_index, offset_of, magnitude, is_empty, reach}
use Rattle.nd_dim.specs.StrideOrder.{magnitude_at}
use Rattle.nd_shape.specs.NoAlias.{span_up_to, span_of_others, satisfies_no_alias_rule, SatisfiesNoAliasRule}
use Rattle.nd_base.proofs.Laws.IsIndex.{length_of_index, coordinate_of_index, nonempty_from_index}
use Rattle.nd_shape.proofs.Laws.NoAlias.{reach_up_to, no_overlap}

-- where two lists of coordinates differ, the strides are of magnitude at most m
abbrev DiffersUpTo : ℕ → List ℤ → List ℕ → List ℕ → Type 0
DiffersUpTo m strides index other = (k : ℕ) → k < length strides → get_or index k 0 ≢ get_or other k 0 → magnitude_at strides k ≤ m

module _ (m : ℕ) (strides : List ℤ) (index other : List ℕ) where
  -- without an axis the rest differs where the whole did
  rest_differs : (axis : ℕ) → axis < length strides → length index ≡ length strides → length other ≡ length strides
      → DiffersUpTo m strides index other → DiffersUpTo m (remove strides axis) (remove index axis) (remove other axis)
  rest_differs axis h e f d k l ne = elim (cases_lt k axis) [
    | inl before ↦ rw (get_or-remove_below strides axis (pos 0) k before h) (d k (omega arith) (λ same.
        ne (get_or-remove_below index axis 0 k before (omega arith) ∙ same
        ∙ sym (get_or-remove_below other axis 0 k before (omega arith)))))
    | inr after ↦ rw (get_or-remove_above strides axis (pos 0) k after h) (d (k + 1) (omega (arith, length-remove strides axis h)) (λ same.
        ne (get_or-remove_above index axis 0 k after (omega arith) ∙ same ∙ sym (get_or-remove_above other axis 0 k after (omega arith)))))
  ]

-- an axis where the coordinates differ, and no other such axis has a stride of greater magnitude
record IsLongestDifference (strides : List ℤ) (index other : List ℕ) (axis : ℕ) : Type 0 where
  exists : axis < length strides
  differs : get_or index axis 0 ≢ get_or other axis 0
  longest : DiffersUpTo (magnitude_at strides axis) strides index other

module _ (stride : ℤ) (strides : List ℤ) (i j : ℕ) (index other : List ℕ) where
  one_more : (m : ℕ) → (i ≢ j → magnitude stride ≤ m) → DiffersUpTo m strides index other
      → DiffersUpTo m (stride ∷ strides) (i ∷ index) (j ∷ other)
  one_more m first rest zero l ne = first ne
  one_more m first rest (suc k) l ne = rest k (omega arith) ne

  -- it can be the first axis, or that of the rest
  first_taken : i ≢ j → DiffersUpTo (magnitude stride) strides index other
      → IsLongestDifference (stride ∷ strides) (i ∷ index) (j ∷ other) 0
  first_taken ne d = record { exists = omega arith; differs = ne; longest = one_more (magnitude stride) (λ w. omega arith) d }

  later_kept : (axis : ℕ) → (i ≢ j → magnitude stride ≤ magnitude_at strides axis) → IsLongestDifference strides index other axis
      → IsLongestDifference (stride ∷ strides) (i ∷ index) (j ∷ other) (suc axis)
  later_kept axis short h = record {
    exists = let e = h.exists in omega arith;
    differs = h.differs;
    longest = one_more (magnitude_at strides axis) short h.longest;
  }

-- two lists of coordinates are equal, or there is such an axis
longest_difference : (strides : List ℤ) (index other : List ℕ) → length index ≡ length strides → length other ≡ length strides
    → (index ≡ other) ⊎ ((axis : ℕ) × IsLongestDifference strides index other axis)
longest_difference [] [] [] e f = inl refl
longest_difference [] [] (j ∷ other) e f = absurd (omega arith)
longest_difference [] (i ∷ index) other e f = absurd (omega arith)
longest_difference (stride ∷ strides) [] other e f = absurd (omega arith)
longest_difference (stride ∷ strides) (i ∷ index) [] e f = absurd (omega arith)
longest_difference (stride ∷ strides) (i ∷ index) (j ∷ other) e f =
    elim (longest_difference strides index other (omega arith) (omega arith)) [
      | inl rest ↦ elim (cases_eq i j) [
        | inl same ↦ inl (cc)
        | inr ne ↦ inr (0, first_taken stride strides i j index other ne (λ k l apart. absurd (apart (ap (λ xs. get_or xs k 0) rest))))
      ]
      | inr found ↦ elim (cases_eq i j) [
        | inl same ↦ inr (suc found.0, later_kept stride strides i j index other found.0 (λ ne. absurd (ne same)) found.1)
        | inr ne ↦ elim (cases_lt (magnitude_at strides found.0) (magnitude stride)) [
          | inl longer ↦ inr (
            0,
            first_taken stride strides i j index other ne
                (λ k l apart. let at = found.1.longest k l apart in omega arith),
          )
          | inr shorter ↦ inr (suc found.0, later_kept stride strides i j index other found.0 (λ w. shorter) found.1)
        ]
      ]
    ]

-- one coordinate moves the offset by at most what its axis reaches
coordinate_apart : (len : ℕ) (stride : ℤ) (i j : ℕ) → i < len → j < len → (pos i *ℤ stride) ≤ℤ ((pos j *ℤ stride) +ℤ pos (reach len stride))
coordinate_apart len (pos s) i j h g =
    let steps : i ≤ len - 1 = omega arith in
    let most : i * s ≤ (len - 1) * s = mul-le-mul_right s steps in
    omega (arith, ints)
coordinate_apart len (negsuc s) i j h g =
    let steps : j ≤ len - 1 = omega arith in
    let most : j * suc s ≤ (len - 1) * suc s = mul-le-mul_right (suc s) steps in
    omega (arith, ints)

module _ (m : ℕ) where
  -- equal coordinates by nothing, so where only strides of magnitude at most m differ, only their reach counts
  coordinate_within : (len : ℕ) (stride : ℤ) (i j : ℕ) → i < len → j < len → (i ≢ j → magnitude stride ≤ m)
      → (pos i *ℤ stride) ≤ℤ ((pos j *ℤ stride) +ℤ pos (reach_up_to m len stride))
  coordinate_within len stride i j h g d = elim (cases_eq i j) [
    | inl same ↦ rw same (omega (arith, ints))
    | inr ne ↦
        let own : reach_up_to m len stride ≡ reach len stride =
        cond-true _ _ _ (le-leb (magnitude stride) m (d ne)) in
        rw own (coordinate_apart len stride i j h g)
  ]

  -- the offsets of two indices are no farther apart than what those axes reach where they differ
  offsets_apart : (shape : List ℕ) (strides : List ℤ) (index other : List ℕ) → is_index shape index ≡ true → is_index shape other ≡ true
      → DiffersUpTo m strides index other → offset_of strides index ≤ℤ (offset_of strides other +ℤ pos (span_up_to m shape strides))
  offsets_apart [] [] [] [] h g d = omega (arith, ints)
  offsets_apart [] (stride ∷ strides) [] [] h g d = omega (arith, ints)
  offsets_apart [] strides (i ∷ index) other h g d = absurd (cc)
  offsets_apart [] strides [] (j ∷ other) h g d = absurd (cc)
  offsets_apart (len ∷ shape) strides [] other h g d = absurd (cc)
  offsets_apart (len ∷ shape) strides (i ∷ index) [] h g d = absurd (cc)
  offsets_apart (len ∷ shape) [] (i ∷ index) (j ∷ other) h g d = omega (arith, ints)
  offsets_apart (len ∷ shape) (stride ∷ strides) (i ∷ index) (j ∷ other) h g d =
      let first = and_parts _ _ h in
      let second = and_parts _ _ g in
      let here = coordinate_within len stride i j (ltb-true i len first.0) (ltb-true j len second.0) (d 0 (omega arith)) in
      omega (arith, ints, here, offsets_apart shape strides index other first.1 second.1 (λ k l. d (suc k) (omega arith)))

-- an offset is that of one axis and that of the others
offset_and_others : (strides : List ℤ) (index : List ℕ) (axis : ℕ) → axis < length strides → length index ≡ length strides
    → offset_of strides index
    ≡ (pos (get_or index axis 0) *ℤ get_or strides axis (pos 0)) +ℤ offset_of (remove strides axis) (remove index axis)
offset_and_others [] index axis h e = absurd (omega arith)
offset_and_others (stride ∷ strides) [] axis h e = absurd (omega arith)
offset_and_others (stride ∷ strides) (i ∷ index) zero h e = refl
offset_and_others (stride ∷ strides) (i ∷ index) (suc axis) h e =
    omega (arith, ints, offset_and_others strides index axis (omega arith) (omega arith))

-- without an axis an index is one of the shape without it
is_index-remove : (shape index : List ℕ) (axis : ℕ) → axis < length shape → is_index shape index ≡ true
    → is_index (remove shape axis) (remove index axis) ≡ true
is_index-remove [] index axis h g = absurd (omega arith)
is_index-remove (len ∷ shape) [] axis h g = absurd (cc)
is_index-remove (len ∷ shape) (i ∷ index) zero h g = (and_parts _ _ g).1
is_index-remove (len ∷ shape) (i ∷ index) (suc axis) h g =
    let parts = and_parts _ _ g in
    and_from _ _ parts.0 (is_index-remove shape index axis (omega arith) parts.1)

-- a step along an axis whose stride is longer than what the others make up
steps_past : (stride : ℤ) {here there : ℤ} {i j n : ℕ} → i < j → n < magnitude stride → here ≤ℤ (there +ℤ pos n)
    → there ≤ℤ (here +ℤ pos n) → (pos i *ℤ stride) +ℤ here ≡ (pos j *ℤ stride) +ℤ there → ⊥
steps_past (pos s) {i = i} {j = j} less far a b e =
    let step : suc i * s ≤ j * s = mul-le-mul_right s (omega arith) in
    omega (arith, ints, suc-mul i s)
steps_past (negsuc s) {i = i} {j = j} less far a b e =
    let step : suc i * suc s ≤ j * suc s = mul-le-mul_right (suc s) (omega arith) in
    omega (arith, ints, suc-mul i (suc s))

module _ (shape : List ℕ) (strides : List ℤ) where
  -- under the no-alias rule two indices that differ have different offsets
  told_apart : {index other : List ℕ} {axis : ℕ} → length shape ≡ length strides → SatisfiesNoAliasRule shape strides
      → is_index shape index ≡ true → is_index shape other ≡ true → IsLongestDifference strides index other axis
      → offset_of strides index ≡ offset_of strides other → ⊥
  told_apart {index = index} {other = other} {axis = axis} count rule h g found same =
      let exists : axis < length strides = found.exists in
      let below : axis < length shape = omega arith in
      let coordinates : length index ≡ length strides = omega (arith, length_of_index shape index h) in
      let others : length other ≡ length strides = omega (arith, length_of_index shape other g) in
      let i = get_or index axis 0 in
      let j = get_or other axis 0 in
      let in_index : i < get_or shape axis 0 = coordinate_of_index shape index axis h below in
      let in_other : j < get_or shape axis 0 = coordinate_of_index shape other axis g below in
      let stride = get_or strides axis (pos 0) in
      let m = magnitude_at strides axis in
      let n = span_of_others shape strides axis in
      let rest = remove shape axis in
      let moves = remove strides axis in
      let one = remove index axis in
      let two = remove other axis in
      let here = offset_of moves one in
      let there = offset_of moves two in
      let first = is_index-remove shape index axis below h in
      let second = is_index-remove shape other axis below g in
      let short = rest_differs m strides index other axis exists coordinates others found.longest in
      let up : here ≤ℤ (there +ℤ pos n) = offsets_apart m rest moves one two first second short in
      let down : there ≤ℤ (here +ℤ pos n) = offsets_apart m rest moves two one second first (λ k l ne. short k l (λ e. ne (sym e))) in
      let sums : (pos i *ℤ stride) +ℤ here ≡ (pos j *ℤ stride) +ℤ there = sym (offset_and_others strides index axis exists coordinates)
      ∙ same
      ∙ offset_and_others strides other axis exists others in
      elim (cases_order i j) [
        | inl equal ↦ found.differs equal
        | inr unequal ↦ elim unequal [
          | inl less ↦ steps_past stride less (rule axis below (omega arith)) up down sums
          | inr more ↦ steps_past stride more (rule axis below (omega arith)) down up (sym sums)
        ]
      ]

  -- so two indices with one offset are one
  pub distinct_from_rule : length shape ≡ length strides → SatisfiesNoAliasRule shape strides → HasDistinctOffsets shape strides
  distinct_from_rule count rule index other h g same =
      let coordinates : length index ≡ length strides = omega (arith, length_of_index shape index h) in
      let others : length other ≡ length strides = omega (arith, length_of_index shape other g) in
      elim (longest_difference strides index other coordinates others) [
        | inl equal ↦ equal
        | inr found ↦ absurd (told_apart count rule h g found.1 same)
      ]

  -- where the test for a shared element fails, no two indices share one: a shape without an index has no two
  pub distinct_without_overlap : length shape ≡ length strides
      → (not (is_empty shape) && not (satisfies_no_alias_rule shape strides)) ≡ false
      → HasDistinctOffsets shape strides
  distinct_without_overlap count apart index other h g same =
      let some : is_empty shape ≡ false = nonempty_from_index shape index h in
      elim ((no_overlap shape strides).0 apart) [
        | inl none ↦ absurd (both_ways (is_empty shape) some none)
        | inr rule ↦ distinct_from_rule count rule index other h g same
      ]
