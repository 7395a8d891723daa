-- Layouts that lie at the distances 0, 1 and so on below their size, whatever the signs of the strides.
use Rattle.std.proofs.Common.{◌≡◌, ◌⊎◌, ℕ, zero, suc, ◌+◌, ◌*◌, ◌/◌, ◌%◌, ◌<◌, ℤ, true, List, length, get_or, set, replicate}
use Rattle.std.proofs.Common.{refl, sym, ap, ◌∙◌, arith, get_or-set_same, inl, inr}
use Rattle.std.proofs.lemmas.List.{ext_get_or, get_or-replicate, length-replicate, length-set, set-get_or, set-set}
use Rattle.std.proofs.lemmas.Nat.{div_below, div-add-mod', div-mul-add, mod_below, mod-mul-add, mul-add-lt}
use Rattle.nd_base.proofs.Laws.Definitions.{is_index, farthest_offset, size}
use Rattle.nd_base.proofs.Laws.Coordinates.{farthest_offset-set, is_index-set, size-set}
use Rattle.nd_base.proofs.Laws.IsIndex.{coordinate_of_index, is_index_from_coordinates, length_of_index}
use Rattle.nd_base.proofs.Laws.FarthestOffset.{farthest_offset-zeros}
use Rattle.nd_dim.specs.StrideOrder.{magnitude_at}

-- each number below the size is how far one index lies, and no other
pub record ReachesEach (shape : List ℕ) (strides : List ℤ) : Type 0 where
  pub filled : (k : ℕ) → k < size shape → (index : List ℕ) × (is_index shape index ≡ true) × (farthest_offset strides index ≡ k)
  pub distinct : (index other : List ℕ) → is_index shape index ≡ true → is_index shape other ≡ true
      → farthest_offset strides index ≡ farthest_offset strides other → index ≡ other

-- and no index lies farther
pub record Fills (shape : List ℕ) (strides : List ℤ) : Type 0 where
  pub each : ReachesEach shape strides
  pub below : (index : List ℕ) → is_index shape index ≡ true → farthest_offset strides index < size shape

-- ---- axes of length 1
ones_index : (n : ℕ) (index : List ℕ) → is_index (replicate n 1) index ≡ true → index ≡ replicate n 0
ones_index n index h =
    let count = length_of_index (replicate n 1) index h ∙ length-replicate {A = ℕ} n 1 in
    ext_get_or 0 index (replicate n 0) (count ∙ sym (length-replicate {A = ℕ} n 0)) (λ k l.
    let in_bounds : k < length (replicate n 1) = omega (arith, length-replicate {A = ℕ} n 1) in
    let coordinate = coordinate_of_index (replicate n 1) index k h in_bounds in
    let one = get_or-replicate {A = ℕ} n k 1 0 (omega arith) in
    let none : get_or index k 0 ≡ 0 = omega arith in
    none ∙ sym (get_or-replicate {A = ℕ} n k 0 0 (omega arith)))

ones_size : (n : ℕ) → size (replicate n 1) ≡ 1
ones_size zero = refl
ones_size (suc n) = omega (arith, ones_size n)

zeros_are_index : (n : ℕ) → is_index (replicate n 1) (replicate n 0) ≡ true
zeros_are_index n =
    is_index_from_coordinates (replicate n 1) (replicate n 0) (length-replicate {A = ℕ} n 0 ∙ sym (length-replicate {A = ℕ} n 1)) (λ k l.
    let in_bounds : k < n = omega (arith, length-replicate {A = ℕ} n 1) in
    rw (get_or-replicate {A = ℕ} n k 0 0 in_bounds, get_or-replicate {A = ℕ} n k 1 0 in_bounds) (omega arith))

-- they hold one index, which lies at 0
pub fills_ones : (n : ℕ) (strides : List ℤ) → Fills (replicate n 1) strides
fills_ones n strides = record {
  each = record {
    filled = λ k h.
        let none : k ≡ 0 = omega (arith, ones_size n) in
        (replicate n 0, zeros_are_index n, farthest_offset-zeros strides n ∙ sym none);
    distinct = λ index other h g e. ones_index n index h ∙ sym (ones_index n other g);
  };
  below = λ index h.
      let here = ap (farthest_offset strides) (ones_index n index h) ∙ farthest_offset-zeros strides n in
      omega (arith, ones_size n);
}

-- ---- one axis more
-- an axis of length 1 whose stride is the size of the others; it gets another length
record IsNext (shape : List ℕ) (strides : List ℤ) (axis len : ℕ) : Type 0 where
  count : length shape ≡ length strides
  in_bounds : axis < length shape
  one : get_or shape axis 0 ≡ 1
  packed : magnitude_at strides axis ≡ size shape
  fills : Fills shape strides

-- an index of the shape that got that length: one of the shape before, and a coordinate of the axis
record IsSplit (shape : List ℕ) (strides : List ℤ) (axis len : ℕ) (index : List ℕ) : Type 0 where
  rest : is_index shape (set index axis 0) ≡ true
  coordinate : get_or index axis 0 < len
  sum : farthest_offset strides index ≡ farthest_offset strides (set index axis 0) + get_or index axis 0 * size shape

module _ {shape : List ℕ} {strides : List ℤ} {axis len : ℕ} (n : IsNext shape strides axis len) where
  split : (index : List ℕ) → is_index (set shape axis len) index ≡ true → IsSplit shape strides axis len index
  split index h =
      let longer = set shape axis len in
      let in_bounds : axis < length shape = n.in_bounds in
      let within : axis < length longer = omega (arith, n.in_bounds, length-set shape axis len) in
      let count = length_of_index longer index h ∙ length-set shape axis len in
      let back = set-set shape axis len 1 ∙ ap (set shape axis) (sym n.one) ∙ set-get_or shape axis 0 in
      let moved = rw n.packed at
      (farthest_offset-set strides index axis 0 (omega (arith, count, n.count)) (omega (arith, count, n.in_bounds))) in
      record {
        rest = ap (λ s. is_index s (set index axis 0)) (sym back) ∙ is_index-set longer index h axis 1 0 within (omega arith);
        coordinate = rw get_or-set_same at (coordinate_of_index longer index axis h within);
        sum = omega (arith, moved);
      }

  next_below : (index : List ℕ) → is_index (set shape axis len) index ≡ true
      → farthest_offset strides index < size (set shape axis len)
  next_below index h =
      let parts = split index h in
      let least = set index axis 0 in
      let room = mul-add-lt (get_or index axis 0) (size shape) (farthest_offset strides least) len parts.coordinate
      (n.fills.below least parts.rest) in
      omega (arith, parts.sum, room, size-set shape axis len n.in_bounds n.one)

  next_filled : 0 < size shape → (k : ℕ) → k < size (set shape axis len)
      → (index : List ℕ) × (is_index (set shape axis len) index ≡ true) × (farthest_offset strides index ≡ k)
  next_filled some k h =
      let within : k < len * size shape = omega (arith, h, size-set shape axis len n.in_bounds n.one) in
      let q = k / size shape in
      let whole = div-add-mod' k (size shape) in
      let found = n.fills.each.filled (k % size shape) (mod_below k (size shape) some) in
      let same = length_of_index shape found.0 found.1 in
      let none : get_or found.0 axis 0 ≡ 0 = omega (arith, n.one, coordinate_of_index shape found.0 axis found.1 n.in_bounds) in
      let moved = rw (none, n.packed) at (farthest_offset-set strides found.0 axis q (same ∙ n.count) (omega (arith, same, n.in_bounds))) in
      let coordinate : q < len = div_below k (size shape) len some within in
      (set found.0 axis q, is_index-set shape found.0 found.1 axis len q n.in_bounds coordinate, omega (arith, moved, found.2, whole))

  next_distinct : (index other : List ℕ) → is_index (set shape axis len) index ≡ true → is_index (set shape axis len) other ≡ true
      → farthest_offset strides index ≡ farthest_offset strides other → index ≡ other
  next_distinct index other h g e =
      let one = split index h in
      let two = split other g in
      let p = size shape in
      let i = get_or index axis 0 in
      let j = get_or other axis 0 in
      let a = farthest_offset strides (set index axis 0) in
      let b = farthest_offset strides (set other axis 0) in
      let low : a < p = n.fills.below (set index axis 0) one.rest in
      let near : b < p = n.fills.below (set other axis 0) two.rest in
      let sums : i * p + a ≡ j * p + b = omega (arith, one.sum, two.sum, e) in
      let coordinates = sym (div-mul-add i p a low) ∙ ap (λ z. z / p) sums ∙ div-mul-add j p b near in
      let rests = sym (mod-mul-add i p a low) ∙ ap (λ z. z % p) sums ∙ mod-mul-add j p b near in
      let same : set index axis 0 ≡ set other axis 0 = n.fills.each.distinct _ _ one.rest two.rest rests in
      sym (set-get_or index axis 0)
      ∙ sym (set-set index axis 0 i)
      ∙ ap (λ z. set z axis i) same
      ∙ ap (λ z. set (set other axis 0) axis z) coordinates
      ∙ set-set other axis 0 j
      ∙ set-get_or other axis 0

-- the stride of an axis is the size of the others, or it gets one coordinate: so the layout fills the new size
pub fills_next : {shape : List ℕ} {strides : List ℤ} (axis : ℕ) {len : ℕ} → length shape ≡ length strides → axis < length shape
    → get_or shape axis 0 ≡ 1 → 0 < size shape → (len ≡ 1) ⊎ (magnitude_at strides axis ≡ size shape) → Fills shape strides
    → Fills (set shape axis len) strides
fills_next {shape = shape} {strides = strides} axis {len = len} count in_bounds one some (inl alone) fills =
    rw (ap (set shape axis) (alone ∙ sym one) ∙ set-get_or shape axis 0) fills
fills_next {shape = shape} {strides = strides} axis {len = len} count in_bounds one some (inr packed) fills =
    let next : IsNext shape strides axis len =
    record { count = count; in_bounds = in_bounds; one = one; packed = packed; fills = fills } in
    record { each = record { filled = next_filled next some; distinct = next_distinct next }; below = next_below next }
