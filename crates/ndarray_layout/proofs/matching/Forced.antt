-- The strides of a reshape are those of each one that keeps the places, on all axes longer than 1.
use Rattle.std.proofs.Common.{◌≡◌, ℕ, zero, suc, ◌+◌, ◌*◌, ◌/◌, ◌%◌, ◌<◌, ◌≤◌, true, false, ℤ, pos, ◌+ℤ◌, ◌*ℤ◌, List, [], ◌∷◌, length}
use Rattle.std.proofs.Common.{get_or, drop, map, refl, sym, ap, ap₂, ◌∙◌, inl, inr, arith, add-one}
use Rattle.std.specs.Prelude.{nat_lt}
use Rattle.std.proofs.Math.Nat.{div-eq_of_lt, div_self, mod-eq_of_lt, mod_self, mul-le-mul_left, mul_comm}
use Rattle.std.proofs.lemmas.Bool.{cases_lt, cond-true, lt-ltb, ltb-true, and_parts}
use Rattle.std.proofs.lemmas.Int.{ints}
use Rattle.std.proofs.lemmas.List.FromFn.{length-map-range_with_len, get_or-map-range_with_len}
use Rattle.nd_base.proofs.Laws.Definitions.{below, is_index, offset_of, index_of_flat, is_empty, size}
use Rattle.nd_base.proofs.Laws.FlatIndex.{is_index-index_of_flat}
use Rattle.nd_base.proofs.Laws.Size.{size_of_nonempty, size_from, size_drop_le, drop_nonempty}
use Rattle.nd_dim.specs.Strides.{size_after}
use Rattle.ndarray_layout.specs.reshape.ForcedStrides.{offset_at_flat_index, stride_of_one, stride_at}
use Rattle.ndarray_layout.proofs.matching.FlatOffsets.{offset-first}
use Rattle.ndarray_layout.proofs.matching.HasIndex.{HasIndex, PlacesAlike, SamePlaces, is_empty-rest}

-- an axis longer than 1 has fewer indices after it than there are
pub size_after-below : (lens : List ℕ) (axis : ℕ) → is_empty lens ≡ false → axis < length lens → 1 < get_or lens axis 0
    → size_after lens axis < size lens
size_after-below lens axis h l long =
    let some = size_of_nonempty (drop (axis + 1) lens) (drop_nonempty lens (axis + 1) h) in
    let whole = size_from lens axis l in
    let within = size_drop_le lens axis h in
    let more : size (drop (axis + 1) lens) * 2 ≤ size (drop (axis + 1) lens) * get_or lens axis 0 = mul-le-mul_left
    (size (drop (axis + 1) lens)) long in
    let turned = mul_comm (get_or lens axis 0) (size (drop (axis + 1) lens)) in
    omega arith

-- the index after so many as an axis has after it has a 1 there, and zeros
pub offset-of-axis : (lens : List ℕ) (strides : List ℤ) (axis : ℕ) → is_empty lens ≡ false → length lens ≡ length strides
    → axis < length lens → 1 < get_or lens axis 0
    → offset_of strides (index_of_flat lens (size_after lens axis)) ≡ get_or strides axis (pos 0)
offset-of-axis [] strides axis h e l long = absurd (omega arith)
offset-of-axis (len ∷ lens) [] axis h e l long = absurd (omega arith)
offset-of-axis (len ∷ lens) (stride ∷ strides) zero h e l long =
    let some = size_of_nonempty lens (is_empty-rest len lens h) in
    let rest = offset-first lens strides in
    let first : size lens / size lens ≡ 1 = div_self some in
    let later : size lens % size lens ≡ 0 = mod_self (size lens) in
    ap₂ (λ q r. (pos q *ℤ stride) +ℤ offset_of strides (index_of_flat lens r)) first later ∙ omega (arith, ints, rest)
offset-of-axis (len ∷ lens) (stride ∷ strides) (suc axis) h e l long =
    let none = is_empty-rest len lens h in
    let q = size_after lens axis in
    let few : q < size lens = size_after-below lens axis none (omega arith) long in
    let same : size_after (len ∷ lens) (suc axis) ≡ q = ap (λ n. size (drop n (len ∷ lens))) (add-one (suc axis))
    ∙ sym (ap (λ n. size (drop n lens)) (add-one axis)) in
    let rest = offset-of-axis lens strides axis none (omega arith) (omega arith) long in
    ap (λ r. offset_of (stride ∷ strides) (index_of_flat (len ∷ lens) r)) same
    ∙ ap₂ (λ i r. (pos i *ℤ stride) +ℤ offset_of strides (index_of_flat lens r)) (div-eq_of_lt few) (mod-eq_of_lt few)
    ∙ omega (arith, ints, rest)

-- strides that agree on longer axes
record Agree (lens : List ℕ) (strides others : List ℤ) : Type 0 where
  pub count : length lens ≡ length strides
  pub others_count : length lens ≡ length others
  pub longer : (axis : ℕ) → axis < length lens → 1 < get_or lens axis 0 → get_or strides axis (pos 0) ≡ get_or others axis (pos 0)

-- agree on the offset of each index
offset-agree : (lens : List ℕ) (strides others : List ℤ) (index : List ℕ) → is_index lens index ≡ true → Agree lens strides others
    → offset_of strides index ≡ offset_of others index
offset-agree [] strides others [] h agree = refl
offset-agree [] strides others (i ∷ index) h agree = absurd (cc)
offset-agree (len ∷ lens) strides others [] h agree = absurd (cc)
offset-agree (len ∷ lens) [] others (i ∷ index) h agree = let count = agree.count in absurd (omega arith)
offset-agree (len ∷ lens) (stride ∷ strides) [] (i ∷ index) h agree = let count = agree.others_count in absurd (omega arith)
offset-agree (len ∷ lens) (stride ∷ strides) (other ∷ others) (i ∷ index) h agree =
    let parts = and_parts (nat_lt i len) (is_index lens index) h in
    let below = ltb-true i len parts.0 in
    let count = agree.count in
    let others_count = agree.others_count in
    let rest = offset-agree lens strides others index parts.1 (record {
      count = omega arith;
      others_count = omega arith;
      longer = λ axis l long. agree.longer (suc axis) (omega arith) long;
    }) in
    elim (cases_lt 1 len) [
      | inl long ↦ ap₂ (λ s z. (pos i *ℤ s) +ℤ z) (agree.longer 0 (omega arith) long) rest
      | inr short ↦
          let first : i ≡ 0 = omega arith in
          ap (λ n. (pos n *ℤ stride) +ℤ offset_of strides index) first ∙ omega (arith, ints, rest)
          ∙ sym (ap (λ n. (pos n *ℤ other) +ℤ offset_of others index) first)
    ]

-- ---- strides that keep the places
-- on a longer axis they are those of the definition
pub forced-of-alike : {from : List ℕ} {strides : List ℤ} {to : List ℕ} {others : List ℤ} (axis : ℕ) → HasIndex to others
    → SamePlaces from strides to others → axis < length to → 1 < get_or to axis 0
    → get_or others axis (pos 0) ≡ offset_at_flat_index from strides (size_after to axis)
forced-of-alike {to = to} {others} axis at same l long =
    let few = size_after-below to axis at.some l long in
    let sizes = same.sizes in
    sym (offset-of-axis to others axis at.some at.same_count l long) ∙ same.alike (size_after to axis) (omega arith)

-- and the strides of the definition keep the places wherever some do
pub stride_at-long : (from : List ℕ) (strides : List ℤ) (to : List ℕ) (axis : ℕ) → 1 < get_or to axis 0
    → stride_at from strides to axis ≡ offset_at_flat_index from strides (size_after to axis)
stride_at-long from strides to zero h = cond-true (nat_lt 1 (get_or to 0 0)) (offset_at_flat_index from strides (size_after to 0))
    (stride_of_one from strides to 0 (pos 1)) (lt-ltb 1 (get_or to 0 0) h)
stride_at-long from strides to (suc axis) h = cond-true (nat_lt 1 (get_or to (suc axis) 0))
    (offset_at_flat_index from strides (size_after to (suc axis)))
    (stride_of_one from strides to (suc axis) (stride_at from strides to axis))
    (lt-ltb 1 (get_or to (suc axis) 0) h)

pub alike-forced : {from : List ℕ} {strides : List ℤ} {to : List ℕ} {others : List ℤ} → HasIndex to others
    → SamePlaces from strides to others → PlacesAlike from strides to (map (stride_at from strides to) (below (length to)))
alike-forced {from} {strides} {to} {others} at same r l =
    let forced = map (stride_at from strides to) (below (length to)) in
    let sizes = same.sizes in
    let agree : Agree to forced others = record {
      count = sym (length-map-range_with_len (stride_at from strides to) 0 (length to));
      others_count = at.same_count;
      longer = λ axis below long.
          get_or-map-range_with_len (stride_at from strides to) 0 (length to) axis axis (pos 0) below (omega arith)
          ∙ stride_at-long from strides to axis long
          ∙ sym (forced-of-alike axis at same below long);
    } in
    offset-agree to forced others (index_of_flat to r) (is_index-index_of_flat to r (omega arith)) agree ∙ same.alike r l
