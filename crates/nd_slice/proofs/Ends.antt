-- The least and the greatest of the picks between two bounds.
use Rattle.std.proofs.Common.{◌≡◌, ℕ, suc, ◌+◌, ◌-◌, ◌*◌, ◌<◌, ◌≤◌, ℤ, pos, negsuc, length, get_or, arith, mul-le-mul_right, ◌<ℤ◌, ◌≤ℤ◌}
use Rattle.std.proofs.lemmas.List.Elements.{All-from_get_or}
use Rattle.std.proofs.lemmas.Int.{ints}
use Rattle.nd_slice.proofs.Definitions.{between, magnitude}
use Rattle.nd_base.proofs.Laws.Lists.{Contains-at}
use Rattle.nd_slice.proofs.Laws.Between.{between_within, pick_up, pick_down, some_between}
use Rattle.nd_slice.proofs.Laws.PickSequences.{AreEnds}

-- the last pick lies so far from the first
pub record IsExtent (step : ℤ) (start end extent : ℕ) : Type 0 where
  pub some : 0 < length (between step start end)
  pub is : extent ≡ (length (between step start end) - 1) * magnitude step
  pub within : extent < end - start

pub extent_of : (step : ℤ) (start end : ℕ) {extent : ℕ} → 0 < magnitude step → start < end
    → extent ≡ (length (between step start end) - 1) * magnitude step → IsExtent step start end extent
extent_of step start end moves order e =
    let some = some_between step start end moves order in
    let last = between_within step start end (length (between step start end) - 1) moves (omega arith) in
    record { some = some; is = e; within = omega (arith, last) }

module _ (k start end : ℕ) {extent : ℕ} where
  ends_up : 0 < k → start < end → IsExtent (pos k) start end extent → AreEnds (between (pos k) start end) start (start + extent)
  ends_up moves order far =
      let xs = between (pos k) start end in
      let last = length xs - 1 in
      let some : last < length xs = omega (arith, far.some) in (
        Contains-at xs 0 0 far.some (omega (arith, pick_up k start end 0 moves far.some)),
        Contains-at xs last 0 some (omega (arith, far.is, pick_up k start end last moves some)),
        All-from_get_or (λ pick. (start ≤ pick) × (pick ≤ start + extent)) xs 0 (λ j below.
            let at = pick_up k start end j moves below in
            let before : j ≤ last = omega arith in
            (omega (arith, at), omega (arith, at, far.is, mul-le-mul_right k before))),
      )

  ends_down : start < end → IsExtent (negsuc k) start end extent → AreEnds (between (negsuc k) start end) (end - 1 - extent) (end - 1)
  ends_down order far =
      let xs = between (negsuc k) start end in
      let last = length xs - 1 in
      let some : last < length xs = omega (arith, far.some) in (
        Contains-at xs last 0 some (omega (arith, far.is, pick_down k start end last some)),
        Contains-at xs 0 0 far.some (omega (arith, pick_down k start end 0 far.some)),
        All-from_get_or (λ pick. (end - 1 - extent ≤ pick) × (pick ≤ end - 1)) xs 0 (λ j below.
            let at = pick_down k start end j below in
            let before : j ≤ last = omega arith in
            (omega (arith, at, far.is, far.within, mul-le-mul_right (suc k) before), omega (arith, at))),
      )

module _ (start end : ℕ) (order : start < end) where
  -- of a step back
  pub ends_back : {extent : ℕ} (step : ℤ) → step <ℤ pos 0 → IsExtent step start end extent
      → AreEnds (between step start end) (end - 1 - extent) (end - 1)
  ends_back (pos k) back far = absurd (omega (arith, ints, back))
  ends_back (negsuc k) back far = ends_down k start end order far

  -- and of one on
  pub ends_on : {extent : ℕ} (step : ℤ) → pos 0 ≤ℤ step → 0 < magnitude step → IsExtent step start end extent
      → AreEnds (between step start end) start (start + extent)
  ends_on (pos k) on moves far = ends_up k start end moves order far
  ends_on (negsuc k) on moves far = absurd (omega (arith, ints, on))

  -- for a step back the first pick is the last coordinate
  pub first_back : (step : ℤ) → step <ℤ pos 0 → 0 < magnitude step → end - 1 ≡ get_or (between step start end) 0 0
  first_back (pos k) h p = absurd (omega (arith, ints, h))
  first_back (negsuc k) h p = omega (arith, pick_down k start end 0 (some_between (negsuc k) start end p order))
