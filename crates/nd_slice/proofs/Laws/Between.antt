-- What a step picks between two bounds: how many, where, and none of them twice.
use Rattle.std.proofs.Common.{◌≡◌, ℕ, zero, suc, ◌+◌, ◌-◌, ◌*◌, ◌<◌, ◌≤◌, length, get_or, arith, refl, sym, ap, ◌∙◌, reverse}
use Rattle.std.proofs.lemmas.List.{get_or-reverse, length-reverse}
use Rattle.std.proofs.lemmas.List.FromFn.{length-range_with_len, get_or-range_with_len}
use Rattle.std.proofs.lemmas.Grind.{div_ceil_times}
use Rattle.std.proofs.lemmas.Int.{ints}
use Rattle.std.proofs.Math.IntN.{ℤ, pos, negsuc, ◌+ℤ◌, ◌*ℤ◌, zero-*ℤ, +ℤ_idr}
use Rattle.std.proofs.Math.Nat.{eq_of_mul-eq-mul_right}
use Rattle.std.specs.Int.{div_ceil}
use Rattle.nd_slice.proofs.Definitions.{between, directed, magnitude, range}
use Rattle.nd_slice.proofs.Every.{one_of_zero}
use Rattle.nd_slice.proofs.Times.{times_up, times_down}
use Rattle.nd_slice.proofs.EveryItems.{length-every, get-every, every_within}

length-directed : (step : ℤ) (start end : ℕ) → length (directed step (range start end)) ≡ end - start
length-directed (pos k) start end = length-range_with_len start (end - start)
length-directed (negsuc k) start end = length-reverse (range start end) ∙ length-range_with_len start (end - start)

module _ (step : ℤ) (start end : ℕ) where
  pub length-between : 0 < magnitude step → length (between step start end) ≡ div_ceil (end - start) (magnitude step)
  length-between p =
      length-every (magnitude step) (directed step (range start end)) p
      ∙ ap (λ n. div_ceil n (magnitude step)) (length-directed step start end)

  -- the coordinates are within the bounds
  pub between_within : (j : ℕ) → 0 < magnitude step → j < length (between step start end) → j * magnitude step < end - start
  between_within j p below =
      omega (arith, every_within (magnitude step) (directed step (range start end)) j p below, length-directed step start end)

module _ (k start end : ℕ) where
  -- upward, from the start
  pub pick_up : (j : ℕ) → 0 < k → j < length (between (pos k) start end) → get_or (between (pos k) start end) j 0 ≡ start + j * k
  pick_up j p below =
      get-every k (range start end) j p
      ∙ get_or-range_with_len start (end - start) (j * k) 0 (between_within (pos k) start end j p below)

  -- downward, from the coordinate before the end
  pub pick_down : (j : ℕ) → j < length (between (negsuc k) start end) → get_or (between (negsuc k) start end) j 0 + j * suc k + 1 ≡ end
  pick_down j below =
      let coordinates = range start end in
      let place = length coordinates - 1 - j * suc k in
      let p : 0 < suc k = omega arith in
      let in_bounds : j * suc k < end - start = between_within (negsuc k) start end j p below in
      let count : length coordinates ≡ end - start = length-range_with_len start (end - start) in
      let at : get_or (between (negsuc k) start end) j 0 ≡ get_or (reverse coordinates) (j * suc k) 0 =
      get-every (suc k) (reverse coordinates) j p in
      let turned : get_or (reverse coordinates) (j * suc k) 0 ≡ get_or coordinates place 0 =
      get_or-reverse coordinates (j * suc k) 0 (omega arith) in
      let item : get_or coordinates place 0 ≡ start + place = get_or-range_with_len start (end - start) place 0 (omega arith) in
      omega arith

  -- so many steps on from the first pick, or back
  down_from_first : (j : ℕ) → j < length (between (negsuc k) start end)
      → get_or (between (negsuc k) start end) j 0 + j * suc k ≡ get_or (between (negsuc k) start end) 0 0
  down_from_first j below = omega (arith, pick_down 0 (omega arith), pick_down j below)

up_from_first : (k start end j : ℕ) → j < length (between (pos (suc k)) start end)
    → get_or (between (pos (suc k)) start end) j 0 ≡ get_or (between (pos (suc k)) start end) 0 0 + j * suc k
up_from_first k start end j below =
    omega (arith, pick_up (suc k) start end 0 (omega arith) (omega arith), pick_up (suc k) start end j (omega arith) below)

-- a step of 0 picks no more than the first
still_first : (start end j : ℕ) → j < length (between (pos zero) start end) → j ≡ 0
still_first start end j below = omega (arith, one_of_zero (range start end))

-- the distance from the first coordinate to the pick at j is j times the step's distance
pub between_steps : (step : ℤ) (start end j : ℕ) (s : ℤ) → j < length (between step start end)
    → pos (get_or (between step start end) j 0) *ℤ s ≡ (pos (get_or (between step start end) 0 0) *ℤ s) +ℤ (pos j *ℤ (s *ℤ step))
between_steps (pos zero) start end j s below =
    let zeroth : j ≡ 0 = still_first start end j below in
    let first = pos (get_or (between (pos zero) start end) 0 0) *ℤ s in
    rw zeroth (sym (ap (λ z. first +ℤ z) (zero-*ℤ (s *ℤ pos zero)) ∙ +ℤ_idr first))
between_steps (pos (suc k)) start end j s below =
    ap (λ n. pos n *ℤ s) (up_from_first k start end j below) ∙ times_up (get_or (between (pos (suc k)) start end) 0 0) j (suc k) s
between_steps (negsuc k) start end j s below =
    sym (ap (λ n. (pos n *ℤ s) +ℤ (pos j *ℤ (s *ℤ negsuc k))) (sym (down_from_first k start end j below))
    ∙ times_down (get_or (between (negsuc k) start end) j 0) j k s)

-- each pick is a coordinate
pub between_below : (step : ℤ) (start end j : ℕ) → 0 < magnitude step → j < length (between step start end)
    → get_or (between step start end) j 0 < end
between_below (pos k) start end j p below = omega (arith, pick_up k start end j p below, between_within (pos k) start end j p below)
between_below (negsuc k) start end j p below = omega (arith, pick_down k start end j below)

pub between_above : (step : ℤ) (start end j : ℕ) → 0 < magnitude step → j < length (between step start end)
    → start ≤ get_or (between step start end) j 0
between_above (pos k) start end j p below = omega (arith, pick_up k start end j p below)
between_above (negsuc k) start end j p below = omega (arith, pick_down k start end j below, between_within (negsuc k) start end j p below)

-- the pick at j lies j steps from the first
pub between_apart : (step : ℤ) (start end j : ℕ) → j < length (between step start end)
    → pos (get_or (between step start end) j 0) ≡ pos (get_or (between step start end) 0 0) +ℤ (pos j *ℤ step)
between_apart (pos zero) start end j below =
    let zeroth : j ≡ 0 = still_first start end j below in
    rw zeroth (omega (arith, ints))
between_apart (pos (suc k)) start end j below = omega (arith, ints, up_from_first k start end j below)
between_apart (negsuc k) start end j below = omega (arith, ints, down_from_first k start end j below)

-- no coordinate is picked twice
module _ (start end i j : ℕ) where
  pub between_once : (step : ℤ) → i < length (between step start end) → j < length (between step start end)
      → get_or (between step start end) i 0 ≡ get_or (between step start end) j 0 → i ≡ j
  between_once (pos zero) p q e = omega (arith, still_first start end i p, still_first start end j q)
  between_once (pos (suc k)) p q e =
      eq_of_mul-eq-mul_right (suc k) (omega arith) i j (omega (arith, up_from_first k start end i p, up_from_first k start end j q))
  between_once (negsuc k) p q e =
      eq_of_mul-eq-mul_right (suc k) (omega arith) i j (omega (arith, down_from_first k start end i p, down_from_first k start end j q))

-- a count rounded up
count_of_some : (n k c : ℕ) → n ≤ c * k → 0 < n → 0 < c
count_of_some n k zero h p = omega arith
count_of_some n k (suc c) h p = omega arith

count_of_none : (n k c : ℕ) → c * k < n + k → n ≡ 0 → c ≡ 0
count_of_none n k zero h e = refl
count_of_none n k (suc c) h e = absurd (omega arith)

-- coordinates between two bounds
pub some_between : (step : ℤ) (start end : ℕ) → 0 < magnitude step → start < end → 0 < length (between step start end)
some_between step start end p h =
    let count = length-between step start end p in
    let bounds = div_ceil_times (end - start) (magnitude step) p in
    omega (arith, count, count_of_some (end - start) (magnitude step) (div_ceil (end - start) (magnitude step)) bounds.0 (omega arith))

pub none_between : (step : ℤ) (start end : ℕ) → 0 < magnitude step → end ≤ start → length (between step start end) ≡ 0
none_between step start end p h =
    let bounds = div_ceil_times (end - start) (magnitude step) p in
    length-between step start end p
    ∙ count_of_none (end - start) (magnitude step) (div_ceil (end - start) (magnitude step)) bounds.1 (omega arith)
