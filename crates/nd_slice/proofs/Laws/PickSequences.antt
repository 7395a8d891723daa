-- The picks of a slice are the numbers from the least to the greatest that lie a step apart.
use Rattle.std.proofs.Common.{◌≡◌, ℕ, suc, ◌+◌, ◌-◌, ◌*◌, ◌/◌, ◌<◌, ◌≤◌, arith, ap, sym, ◌∙◌, subst, ℤ, pos, negsuc, ◌-ℤ◌, List, length}
use Rattle.std.proofs.Common.{get_or, refl, le_of_mul-le-mul_right, ◌↔◌, All, Contains}
use Rattle.std.proofs.Math.Nat.{dvd-mul_left, div-mul_cancel}
use Rattle.std.proofs.lemmas.Grind.{get_or_default_zero}
use Rattle.std.proofs.lemmas.Int.{ints}
use Rattle.std.proofs.lemmas.List.Elements.{All-contains}
use Rattle.std.specs.Int.{◌∣◌}
use Rattle.nd_slice.proofs.Definitions.{Fit, InSequence, PicksIntersect, SequencesIntersect, Slice, SliceFits, between, magnitude, picks}
use Rattle.nd_base.proofs.Laws.Lists.{Contains-at}
use Rattle.nd_slice.proofs.Laws.Picks.{pick_below}
use Rattle.nd_slice.proofs.Laws.Between.{between_above, between_below, pick_up, pick_down}

-- both are among the picks, and every pick lies between them
abbrev pub AreEnds : List ℕ → ℕ → ℕ → Type 0
AreEnds picks least greatest = Contains picks least × Contains picks greatest × All (λ pick. (least ≤ pick) × (pick ≤ greatest)) picks

-- a pick by its position
pub record IsAt (picks : List ℕ) (j pick : ℕ) : Type 0 where
  pub below : j < length picks
  pub at : get_or picks j 0 ≡ pick

placed : {picks : List ℕ} {pick : ℕ} (h : Contains picks pick) → IsAt picks h.0 pick
placed {picks = picks} {pick = pick} h = record { below = h.1; at = sym (get_or_default_zero picks h.0 pick h.1) ∙ h.2 }

-- so many steps less reach so much less far
module _ (k end : ℕ) where
  fewer_steps : (i j low high : ℕ) → low + i * k + 1 ≡ end → high + j * k + 1 ≡ end → j ≤ i → high ≡ low + (i - j) * k
  fewer_steps i j low high p q order =
      let more : (j + (i - j)) * k ≡ i * k = ap (λ n. n * k) (omega arith) in
      omega arith

module _ (k start end : ℕ) where
  -- upward: picks are so many steps apart
  apart_up : {i j low high : ℕ} → 0 < k → IsAt (between (pos k) start end) i low → IsAt (between (pos k) start end) j high
      → low ≤ high → k ∣ high - low
  apart_up {i = i} {j = j} {low = low} {high = high} moves p q order =
      let first : low ≡ start + i * k = sym p.at ∙ pick_up k start end i moves p.below in
      let last : high ≡ start + j * k = sym q.at ∙ pick_up k start end j moves q.below in
      let before : i ≤ j = le_of_mul-le-mul_right (omega arith) moves in
      let more : (i + (j - i)) * k ≡ j * k = ap (λ n. n * k) (omega arith) in
      let far : (j - i) * k ≡ high - low = omega arith in
      rw (← far) (dvd-mul_left k (j - i))

  -- a number so many steps from the least pick, and not after the greatest, is a pick
  on_up : {i j least greatest : ℕ} (times : ℕ) → 0 < k → IsAt (between (pos k) start end) i least
      → IsAt (between (pos k) start end) j greatest
      → least + times * k ≤ greatest → Contains (between (pos k) start end) (least + times * k)
  on_up {i = i} {j = j} {least = least} {greatest = greatest} times moves p q within =
      let first : least ≡ start + i * k = sym p.at ∙ pick_up k start end i moves p.below in
      let last : greatest ≡ start + j * k = sym q.at ∙ pick_up k start end j moves q.below in
      let before : i + times ≤ j = le_of_mul-le-mul_right (omega arith) moves in
      let below : i + times < length (between (pos k) start end) = omega (arith, q.below) in
      Contains-at (between (pos k) start end) (i + times) 0 below (pick_up k start end (i + times) moves below ∙ omega arith)

  -- and downward
  last_down : {i pick : ℕ} → IsAt (between (negsuc k) start end) i pick → pick + i * suc k + 1 ≡ end
  last_down {i = i} p = ap (λ n. n + i * suc k + 1) (sym p.at) ∙ pick_down k start end i p.below

  apart_down : {i j low high : ℕ} → IsAt (between (negsuc k) start end) i low → IsAt (between (negsuc k) start end) j high
      → low ≤ high → suc k ∣ high - low
  apart_down {i = i} {j = j} {low = low} {high = high} p q order =
      let first : low + i * suc k + 1 ≡ end = last_down p in
      let last : high + j * suc k + 1 ≡ end = last_down q in
      let moves : 0 < suc k = omega arith in
      let before : j ≤ i = le_of_mul-le-mul_right (omega arith) moves in
      let far : (i - j) * suc k ≡ high - low = omega (arith, fewer_steps (suc k) end i j low high first last before) in
      rw (← far) (dvd-mul_left (suc k) (i - j))

  on_down : {i j least greatest : ℕ} (times : ℕ) → IsAt (between (negsuc k) start end) i least
      → IsAt (between (negsuc k) start end) j greatest
      → least + times * suc k ≤ greatest → Contains (between (negsuc k) start end) (least + times * suc k)
  on_down {i = i} {j = j} {least = least} {greatest = greatest} times p q within =
      let xs = between (negsuc k) start end in
      let first : least + i * suc k + 1 ≡ end = last_down p in
      let last : greatest + j * suc k + 1 ≡ end = last_down q in
      let moves : 0 < suc k = omega arith in
      let before : times ≤ i = le_of_mul-le-mul_right (omega arith) moves in
      let below : i - times < length xs = omega (arith, p.below) in
      let here = fewer_steps (suc k) end i (i - times) least (get_or xs (i - times) 0) first (pick_down k start end (i - times) below)
      (omega arith) in
      let back : i - (i - times) ≡ times = omega arith in
      Contains-at xs (i - times) 0 below (here ∙ ap (λ n. least + n * suc k) back)

module _ (start end : ℕ) {least greatest : ℕ} where
  pub stepped : (step : ℤ) (pick : ℕ) → 0 < magnitude step → AreEnds (between step start end) least greatest
      → Contains (between step start end) pick → least ≤ pick → magnitude step ∣ pick - least
  stepped (pos k) pick moves ends p order = apart_up k start end moves (placed ends.0) (placed p) order
  stepped (negsuc k) pick moves ends p order = apart_down k start end (placed ends.0) (placed p) order

  on_step : (step : ℤ) (times : ℕ) → 0 < magnitude step → AreEnds (between step start end) least greatest
      → least + times * magnitude step ≤ greatest → Contains (between step start end) (least + times * magnitude step)
  on_step (pos k) times moves ends within = on_up k start end times moves (placed ends.0) (placed ends.1) within
  on_step (negsuc k) times moves ends within = on_down k start end times (placed ends.0) (placed ends.1) within

-- what one slice picks: by a step that moves, from its least coordinate to its greatest
pub record ArePicks (step : ℤ) (start end least greatest : ℕ) : Type 0 where
  pub moves : 0 < magnitude step
  pub ends : AreEnds (between step start end) least greatest

module _ {step : ℤ} {start end least greatest : ℕ} (are : ArePicks step start end least greatest) where
  -- each pick is in the sequence
  pick_in : (pick : ℕ) → Contains (between step start end) pick → InSequence (pos least) (pos greatest) step (pos pick)
  pick_in pick p =
      let within = All-contains (λ n. (least ≤ n) × (n ≤ greatest)) (between step start end) pick are.ends.2 p in
      let far : pos (pick - least) ≡ pos pick -ℤ pos least = omega (arith, ints, within.0) in
      record {
        not_before = omega (arith, ints, within.0);
        not_after = omega (arith, ints, within.1);
        stepped = subst (λ n. magnitude step ∣ n) (ap magnitude far) (stepped start end step pick are.moves are.ends p within.0);
      }

  -- and each number of the sequence a pick
  pick_of : (pick : ℕ) → InSequence (pos least) (pos greatest) step (pos pick) → Contains (between step start end) pick
  pick_of pick h =
      let before : least ≤ pick = omega (arith, ints, h.not_before) in
      let after : pick ≤ greatest = omega (arith, ints, h.not_after) in
      let far : pos pick -ℤ pos least ≡ pos (pick - least) = omega (arith, ints) in
      let divides : magnitude step ∣ pick - least = subst (λ n. magnitude step ∣ n) (ap magnitude far) h.stepped in
      let times = (pick - least) / magnitude step in
      let whole : times * magnitude step ≡ pick - least = div-mul_cancel (magnitude step) divides in
      let same : least + times * magnitude step ≡ pick = omega arith in
      subst (Contains (between step start end)) same (on_step start end step times are.moves are.ends (omega arith))

-- what is left of a number of a sequence that begins at a natural number
natural : {first last : ℕ} {step : ℤ} (number : ℤ) → InSequence (pos first) (pos last) step number → number ≡ pos (magnitude number)
natural (pos n) h = refl
natural (negsuc n) h = absurd (omega (arith, ints, h.not_before))

-- two slices share a coordinate exactly where the lists do
pub share_a_pick : {one other : ℤ} {start end from to a b c d : ℕ} → ArePicks one start end a b → ArePicks other from to c d
    → SequencesIntersect (pos a, pos b, one) (pos c, pos d, other) ↔ PicksIntersect (between one start end) (between other from to)
share_a_pick {one = one} {other = other} {a = a} {b = b} {c = c} {d = d} p q = (
  λ intersects.
      let coordinate = magnitude intersects.0 in
      let same : intersects.0 ≡ pos coordinate = natural intersects.0 intersects.1 in (
        coordinate,
        pick_of p coordinate (subst (InSequence (pos a) (pos b) one) same intersects.1),
        pick_of q coordinate (subst (InSequence (pos c) (pos d) other) same intersects.2),
      ),
  λ intersects. (pos intersects.0, pick_in p intersects.0 intersects.1, pick_in q intersects.0 intersects.2),
)

-- a pick is a coordinate of the axis
pub contained_below : (fit : Fit) (len : ℕ) (slice : Slice) (pick : ℕ) → SliceFits fit len slice → Contains (picks fit len slice) pick
    → pick < len
contained_below fit len slice pick fits h = omega (arith, (placed h).at, pick_below fit len slice h.0 fits h.1)

-- a pick is in the range
pub in_range : (step : ℤ) (start end pick : ℕ) → 0 < magnitude step → Contains (between step start end) pick
    → (start ≤ pick) × (pick < end)
in_range step start end pick moves h =
    let at = placed h in (
      omega (arith, at.at, between_above step start end h.0 moves h.1),
      omega (arith, at.at, between_below step start end h.0 moves h.1),
    )
