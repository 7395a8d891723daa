-- Laws of layouts that fill one interval of memory: where it begins and ends, and that a pass along it has each index once.
use Rattle.std.proofs.Common.{◌≡◌, ℕ, ◌+◌, ◌-◌, ◌<◌, ◌≤◌, ℤ, pos, neg_ℤ, ◌+ℤ◌, ◌≤ℤ◌, true, false, List, length, get_or, map, sym}
use Rattle.std.proofs.Common.{ap, ◌∙◌, arith, subst}
use Rattle.std.specs.List.Sorted.{IsPermutation}
use Rattle.std.proofs.lemmas.Int.{ints}
use Rattle.std.proofs.lemmas.List.{get_or-map, length-map}
use Rattle.std.proofs.lemmas.List.FromFn.{get_or-map-range_with_len, length-map-range_with_len}
use Rattle.nd_base.specs.declared.order.Order.{Order}
use Rattle.nd_base.proofs.Laws.Definitions.{below, indices_in, is_index, offset_of, place, places, farthest_offset, is_empty}
use Rattle.nd_base.proofs.Laws.Definitions.{size, low_span}
use Rattle.nd_base.proofs.Laws.Indices.{Contains-indices_in, length-indices_in}
use Rattle.nd_base.proofs.Laws.Offset.{offset_bounds}
use Rattle.nd_base.proofs.Laws.Size.{size_of_nonempty}
use Rattle.nd_base.proofs.Laws.Flipped.{flipped, is_index-flipped, flipped-flipped, offset_of-flipped, has_offset_flipped, least_offset}
use Rattle.nd_dim.specs.OneInterval.{HasIndexAt, FillsInterval}
use Rattle.nd_dim.proofs.Filled.{ReachesEach}
use Rattle.nd_dim.proofs.Laws.Rearranged.{permutation_from_members}

-- ---- sums and values
-- a number above the low span down and below it
between : (least offset : ℤ) (low : ℕ) → least ≤ℤ offset → offset ≡ neg_ℤ (pos low) → neg_ℤ (pos low) ≤ℤ (least +ℤ pos 0)
    → least ≡ neg_ℤ (pos low)
between least offset low above at under = omega (arith, ints)

-- a distance from the low end, whatever the signs
same_distance : {z least : ℤ} (low k : ℕ) {far : ℕ} → z ≡ least +ℤ pos k → least ≡ neg_ℤ (pos low) → z +ℤ pos low ≡ pos far → far ≡ k
same_distance low k at begin moved = omega (arith, ints)

same_offset : {a b : ℤ} (low : ℕ) {m n : ℕ} → a +ℤ pos low ≡ pos m → b +ℤ pos low ≡ pos n → m ≡ n → a ≡ b
same_offset low p q e = omega (arith, ints)

same_far : {a b : ℤ} (low : ℕ) {m n : ℕ} → a +ℤ pos low ≡ pos m → b +ℤ pos low ≡ pos n → a ≡ b → m ≡ n
same_far low p q e = omega (arith, ints)

-- each distance reached once is one interval
pub interval_from_reaches : (shape : List ℕ) (strides : List ℤ) → length shape ≡ length strides → ReachesEach shape strides
    → FillsInterval shape strides
interval_from_reaches shape strides count each = record {
  least = neg_ℤ (pos (low_span shape strides));
  none_below = λ index h. (offset_bounds shape strides index h count).0;
  filled = λ k h.
      let found = each.filled k h in
      let there = has_offset_flipped shape strides found.0 k count found.1 found.2 in
      (there.0, there.1, omega (arith, ints, there.2));
  distinct = λ index other h g e.
      let one = flipped shape strides index in
      let two = flipped shape strides other in
      let far = same_far (low_span shape strides) (offset_of-flipped shape strides index count h)
      (offset_of-flipped shape strides other count g) e in
      let same = each.distinct one two (is_index-flipped shape strides index h) (is_index-flipped shape strides other g) far in
      sym (flipped-flipped shape strides index h) ∙ ap (flipped shape strides) same ∙ flipped-flipped shape strides other g;
}

-- where a value is given to each index, and each of as many values as the size is given to one, these are the values given
pub values_in_order : (order : Order) (f : ℕ → ℤ) (g : List ℕ → ℤ) (shape : List ℕ) → ((i j : ℕ) → f i ≡ f j → i ≡ j)
    → ((k : ℕ) → k < size shape → (index : List ℕ) × (is_index shape index ≡ true) × (g index ≡ f k))
    → IsPermutation (map f (below (size shape))) (map g (indices_in order shape))
values_in_order order f g shape differ given =
    let n = size shape in
    let all = indices_in order shape in
    let many = length-map-range_with_len f 0 n in
    let at : (k : ℕ) (d : ℤ) → k < n
    → get_or (map f (below n)) k d ≡ f k = λ k d h. get_or-map-range_with_len f 0 n k k d h (omega arith) in
    permutation_from_members (map f (below n)) (map g all)
    (λ i j d h l e. let same : i ≡ j = differ i j (sym (at i d (omega arith)) ∙ e ∙ at j d (omega arith)) in omega arith)
    (many ∙ sym (length-map all g ∙ length-indices_in order shape)) (λ z c.
    let found = given c.0 (let l = c.1 in omega arith) in
    let listed = Contains-indices_in order shape found.0 found.1 in (
      listed.0,
      (let l = listed.1 in omega (arith, length-map all g)),
      get_or-map g all listed.0 found.0 z listed.1 ∙ ap g listed.2
          ∙ found.2 ∙ sym (at c.0 z (let l = c.1 in omega arith)) ∙ c.2,
    ))

place_there : (start low k : ℕ) (z : ℤ) → low ≤ start → z ≡ pos k +ℤ neg_ℤ (pos low) → pos start +ℤ z ≡ pos (start - low + k)
place_there start low k z h e = omega (arith, ints)

same_place : (n i j : ℕ) → pos (n + i) ≡ pos (n + j) → i ≡ j
same_place n i j e = omega (arith, ints)

-- ---- a layout that fills an interval: where it begins and ends, and a pass along it
module _ (shape : List ℕ) (strides : List ℤ) (count : length shape ≡ length strides) (some : is_empty shape ≡ false)
    (interval : FillsInterval shape strides) where
  -- the interval begins the low span down
  pub least_of_interval : interval.least ≡ neg_ℤ (pos (low_span shape strides))
  least_of_interval =
      let lowest = least_offset shape strides count some in
      let first = interval.filled 0 (size_of_nonempty shape some) in
      let bounds = offset_bounds shape strides first.0 first.1 count in
      let under : neg_ℤ (pos (low_span shape strides)) ≤ℤ (interval.least +ℤ pos 0) =
      let P : ℤ → Type 0 = λ z. neg_ℤ (pos (low_span shape strides)) ≤ℤ z in
      subst P first.2 bounds.0 in
      between interval.least (offset_of strides lowest.0) (low_span shape strides) (interval.none_below lowest.0 lowest.1) lowest.2 under

  -- two indices at one distance are one
  apart : (index other : List ℕ) → is_index shape index ≡ true → is_index shape other ≡ true
      → farthest_offset strides index ≡ farthest_offset strides other → index ≡ other
  apart index other h g e =
      let one = flipped shape strides index in
      let two = flipped shape strides other in
      let in_one = is_index-flipped shape strides index h in
      let in_two = is_index-flipped shape strides other g in
      let far = ap (farthest_offset strides) (flipped-flipped shape strides index h) ∙ e
      ∙ ap (farthest_offset strides) (sym (flipped-flipped shape strides other g)) in
      let offsets : offset_of strides one ≡ offset_of strides two =
      same_offset (low_span shape strides) (offset_of-flipped shape strides one count in_one)
      (offset_of-flipped shape strides two count in_two) far in
      sym (flipped-flipped shape strides index h)
      ∙ ap (flipped shape strides) (interval.distinct one two in_one in_two offsets)
      ∙ flipped-flipped shape strides other g

  -- one interval is filled where each distance below the size is reached once
  pub reaches_from_interval : ReachesEach shape strides
  reaches_from_interval = record {
    filled = λ k h.
        let found = interval.filled k h in
        let begin = least_of_interval in
        let in_bounds = is_index-flipped shape strides found.0 found.1 in (
          flipped shape strides found.0,
          in_bounds,
          same_distance (low_span shape strides) k found.2 begin (offset_of-flipped shape strides found.0 count found.1),
        );
    distinct = apart;
  }

  -- each number below the size is where some index lies, counted from where the interval begins
  pub has_index_in_interval : (k : ℕ) → k < size shape → HasIndexAt shape strides (pos k +ℤ neg_ℤ (pos (low_span shape strides)))
  has_index_in_interval k h =
      let found = interval.filled k h in
      let begin = least_of_interval in
      (found.0, found.1, omega (arith, ints, found.2, begin))

  -- so the places are start less the low span, one more, and so on, as many as the size
  pub places_in_interval : (order : Order) (start : ℕ) → low_span shape strides ≤ start
      → IsPermutation (map (λ k. pos (start - low_span shape strides + k)) (below (size shape))) (places order start shape strides)
  places_in_interval order start fits =
      values_in_order order (λ k. pos (start - low_span shape strides + k)) (place start strides) shape
      (same_place (start - low_span shape strides)) (λ k h.
      let found = has_index_in_interval k h in
      (found.0, found.1, place_there start (low_span shape strides) k (offset_of strides found.0) fits found.2))
