-- Slices that lie in rows: what is known of those that were read so far, and of one more.
use Rattle.std.proofs.Common.{◌≡◌, ℕ, ◌+◌, ◌<◌, ◌≤◌, ◌⊎◌, inl, inr, Bool, None, List, length, below_more, arith, max}
use Rattle.nd_slice.proofs.Definitions.{AreApart, Fit, SliceInfoElem, argument_fault, end_on, slice_at, slices_fault, start_on}
use Rattle.nd_slice.proofs.Slices.{fits_read}
use Rattle.nd_slice.proofs.Laws.RangesApart.{apart_past}

module _ (fit : Fit) (shape : List ℕ) (slices : List (List SliceInfoElem)) (backwards : Bool) where
  abbrev at : ℕ → List SliceInfoElem
  at turn = slice_at slices backwards turn

  -- of the first count none ends on the first axis past `below`, and each ends there at `above` or before, or on the second at `left`
  -- or before
  pub record InRows (count above below left : ℕ) : Type 0 where
    pub ends : (i : ℕ) → i < count → end_on fit shape 0 (at i) ≤ below
    pub row : (i : ℕ) → i < count → (end_on fit shape 0 (at i) ≤ above) ⊎ (end_on fit shape 1 (at i) ≤ left)
    pub apart : (j : ℕ) → j < count → (i : ℕ) → i < j → AreApart fit shape (at i) (at j)

  -- both axes are there, each slice fits, and there is one more
  pub record OneMore (count : ℕ) : Type 0 where
    pub none : slices_fault fit shape slices ≡ None
    pub two : 1 < length shape
    pub under : count < length slices

  fits : (count i : ℕ) → OneMore count → i < count + 1 → argument_fault fit shape (at i) ≡ None
  fits count i more before = fits_read fit shape slices backwards i more.none (omega (arith, more.under, before))

  past_on : (axis count i : ℕ) → OneMore count → i < count → axis < 2
      → end_on fit shape axis (at i) ≤ start_on fit shape axis (at count) → AreApart fit shape (at i) (at count)
  past_on axis count i more before low past =
      apart_past fit shape axis (at i) (at count) (fits count i more (omega (arith, before))) (fits count count more (omega arith))
      (record { there = omega (arith, low, more.two); past = past })

  -- one that begins on the first axis where all others end, or later: a row begins
  pub new_row : (count above below left : ℕ) → OneMore count → below ≤ start_on fit shape 0 (at count)
      → InRows count above below left
      → InRows (count + 1) below (max below (end_on fit shape 0 (at count))) (end_on fit shape 1 (at count))
  new_row count above below left more past so_far =
      let low = end_on fit shape 0 (at count) in
      let right = end_on fit shape 1 (at count) in
      record {
        ends = below_more (λ i. end_on fit shape 0 (at i) ≤ max below low) count
            (λ i before. omega (arith, so_far.ends i before)) (omega arith);
        row = below_more (λ i. (end_on fit shape 0 (at i) ≤ below) ⊎ (end_on fit shape 1 (at i) ≤ right)) count
            (λ i before. inl (so_far.ends i before)) (inr (omega arith));
        apart = below_more (λ j. (i : ℕ) → i < j → AreApart fit shape (at i) (at j)) count so_far.apart
            (λ i before. past_on 0 count i more before (omega arith) (omega (arith, so_far.ends i before, past)));
      }

  -- one more of the same row
  pub same_row : (count above below left : ℕ) → OneMore count → above ≤ start_on fit shape 0 (at count)
      → left ≤ start_on fit shape 1 (at count) → InRows count above below left
      → InRows (count + 1) above (max below (end_on fit shape 0 (at count))) (max left (end_on fit shape 1 (at count)))
  same_row count above below left more past beside so_far =
      let low = end_on fit shape 0 (at count) in
      let right = end_on fit shape 1 (at count) in
      record {
        ends = below_more (λ i. end_on fit shape 0 (at i) ≤ max below low) count
            (λ i before. omega (arith, so_far.ends i before)) (omega arith);
        row = below_more (λ i. (end_on fit shape 0 (at i) ≤ above) ⊎ (end_on fit shape 1 (at i) ≤ max left right)) count
            (λ i before. elim (so_far.row i before) [ inl up ↦ inl up | inr on ↦ inr (omega (arith, on)) ]) (inr (omega arith));
        apart = below_more (λ j. (i : ℕ) → i < j → AreApart fit shape (at i) (at j)) count so_far.apart
            (λ i before. elim (so_far.row i before) [
              | inl up ↦ past_on 0 count i more before (omega arith) (omega (arith, up, past))
              | inr on ↦ past_on 1 count i more before (omega arith) (omega (arith, on, beside))
            ]);
      }
