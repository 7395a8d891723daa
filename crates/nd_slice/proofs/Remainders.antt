-- What a step picks leaves one remainder by that step.
use Rattle.std.proofs.Common.{◌≡◌, ℕ, ◌+◌, ◌-◌, ◌*◌, ◌%◌, ◌/◌, ◌<◌, ◌≤◌, ℤ, pos, negsuc, List}
use Rattle.std.proofs.Common.{arith, ap, sym, ◌∙◌, All, Contains, refl}
use Rattle.std.proofs.Math.Nat.{add-mul-mod_self_right, div-mul_cancel}
use Rattle.std.proofs.lemmas.Int.{ints}
use Rattle.std.proofs.lemmas.List.Elements.{All-contains, All-contains_itself, All-weaker}
use Rattle.std.specs.Int.{◌∣◌}
use Rattle.nd_slice.proofs.Definitions.{between, magnitude}
use Rattle.nd_slice.proofs.Ends.{ends_back, ends_on, extent_of}
use Rattle.nd_slice.proofs.Laws.PickSequences.{AreEnds, stepped}
use Rattle.nd_slice.proofs.Laws.RangesApart.{least_is}
use Rattle.nd_slice.specs.RangesApart.{least_of}

-- the remainder of the least of some numbers is that of each
abbrev pub LeaveOne : ℕ → ℕ → List ℕ → Type 0
LeaveOne by other picks = All (λ pick. pick % by ≡ least_of other picks % by) picks

same_remainder : (by low high : ℕ) → low ≤ high → by ∣ high - low → high % by ≡ low % by
same_remainder by low high order divides =
    let times = (high - low) / by in
    let whole : times * by ≡ high - low = div-mul_cancel by divides in
    let same : high ≡ low + times * by = omega (arith, order, whole) in
    ap (λ n. n % by) same ∙ add-mul-mod_self_right low times by

module _ (step : ℤ) (start end : ℕ) (moves : 0 < magnitude step) where
  from_ends : (other least greatest : ℕ) → AreEnds (between step start end) least greatest
      → LeaveOne (magnitude step) other (between step start end)
  from_ends other least greatest ends =
      let picks = between step start end in
      let within = λ (pick : ℕ). (least ≤ pick) × (pick ≤ greatest) in
      let is = least_is other least picks ends.0 (All-weaker within (λ pick. least ≤ pick) (λ pick both. both.0) picks ends.2) in
      All-weaker (Contains picks) (λ pick. pick % magnitude step ≡ least_of other picks % magnitude step)
      (λ pick here.
      let low = (All-contains within picks pick ends.2 here).0 in
      same_remainder (magnitude step) least pick low (stepped start end step pick moves ends here low)
      ∙ ap (λ n. n % magnitude step) (sym is))
      picks (All-contains_itself picks)

-- of a step's picks by the step
pub step_remainder : (step : ℤ) (start end other : ℕ) → 0 < magnitude step → start < end
    → LeaveOne (magnitude step) other (between step start end)
step_remainder (pos k) start end other moves order =
    let ends = ends_on start end order (pos k) (omega (arith, ints)) moves (extent_of (pos k) start end moves order refl) in
    from_ends (pos k) start end moves other _ _ ends
step_remainder (negsuc k) start end other moves order =
    let ends = ends_back start end order (negsuc k) (omega (arith, ints)) (extent_of (negsuc k) start end moves order refl) in
    from_ends (negsuc k) start end moves other _ _ ends
