-- What a slice argument picks of an axis lies in its range there, so arguments of which one lies before the other share no index.
use Rattle.std.proofs.Common.{◌≡◌, ◌≢◌, ℕ, zero, suc, ◌+◌, ◌%◌, ◌<◌, ◌≤◌, min, max, None, inl, inr, ◌⊎◌, List, [], ◌∷◌, length, get_or, map}
use Rattle.std.proofs.Common.{refl, ap, sym, ◌∙◌, arith, All, Contains}
use Rattle.std.specs.List.{AllZip, fold}
use Rattle.std.proofs.lemmas.List.{length-map}
use Rattle.std.proofs.lemmas.List.Elements.{All-contains, All-head, All-tail}
use Rattle.nd_slice.proofs.Definitions.{Fit, Intersect, IsPast, SliceInfoElem, argument_fault, axis_elems, axis_picks, elem_on}
use Rattle.nd_slice.proofs.Definitions.{elem_picks}
use Rattle.nd_slice.proofs.Definitions.{end_on, in_count, start_on}
use Rattle.nd_slice.specs.ElemRange.{elem_range}
use Rattle.nd_slice.specs.RangesApart.{HasRemainderOn, end_of, end_of_picks, least_of, least_pick}
use Rattle.nd_slice.specs.declared.elem.SliceInfoElem.TheVariants as elem
use Rattle.nd_slice.proofs.Laws.AxisElems.{lens_of_axis_elems}
use Rattle.nd_slice.proofs.Laws.Intersect.{intersect_symmetric}
use Rattle.nd_slice.proofs.Laws.SliceFault.{elements_of_no_fault}

-- a number from start up to, not including, end
abbrev pub IsBetween : ℕ → ℕ → ℕ → Type 0
IsBetween start end number = (start ≤ number) × (number < end)

-- ---- the least of some numbers
fold_min_low : (a : ℕ) (xs : List ℕ) → fold min a xs ≤ a
fold_min_low a [] = omega arith
fold_min_low a (y ∷ xs) = omega (arith, fold_min_low (min a y) xs)

fold_min_below : (a : ℕ) (xs : List ℕ) (x : ℕ) → Contains xs x → fold min a xs ≤ x
fold_min_below a [] x here = absurd (omega (arith, here.1))
fold_min_below a (y ∷ xs) x (zero, below, at) = omega (arith, fold_min_low (min a y) xs, at)
fold_min_below a (y ∷ xs) x (suc k, below, at) = fold_min_below (min a y) xs x (k, omega (arith, below), at)

fold_min_above : (m a : ℕ) (xs : List ℕ) → m ≤ a → All (λ x. m ≤ x) xs → m ≤ fold min a xs
fold_min_above m a [] low all = low
fold_min_above m a (y ∷ xs) low all =
    let first = All-head (λ x. m ≤ x) y xs all in
    fold_min_above m (min a y) xs (omega (arith, low, first)) (All-tail (λ x. m ≤ x) y xs all)

least_below : (other : ℕ) (xs : List ℕ) (x : ℕ) → Contains xs x → least_of other xs ≤ x
least_below other [] x here = absurd (omega (arith, here.1))
least_below other (y ∷ xs) x (zero, below, at) = omega (arith, fold_min_low y xs, at)
least_below other (y ∷ xs) x (suc k, below, at) = fold_min_below y xs x (k, omega (arith, below), at)

-- it is the one of them that is not above any
pub least_is : (other m : ℕ) (xs : List ℕ) → Contains xs m → All (λ x. m ≤ x) xs → least_of other xs ≡ m
least_is other m [] here all = absurd (omega (arith, here.1))
least_is other m (y ∷ xs) here all =
    let low = least_below other (y ∷ xs) m here in
    let high = fold_min_above m y xs (All-head (λ x. m ≤ x) y xs all) (All-tail (λ x. m ≤ x) y xs all) in
    omega (arith, low, high)

-- ---- the number after the greatest
end_above : (a : ℕ) (xs : List ℕ) → a ≤ end_of a xs
end_above a [] = omega arith
end_above a (y ∷ xs) = omega (arith, end_above (max a (y + 1)) xs)

end_past : (a : ℕ) (xs : List ℕ) (x : ℕ) → Contains xs x → x < end_of a xs
end_past a [] x here = absurd (omega (arith, here.1))
end_past a (y ∷ xs) x (zero, below, at) = omega (arith, end_above (max a (y + 1)) xs, at)
end_past a (y ∷ xs) x (suc k, below, at) = end_past (max a (y + 1)) xs x (k, omega (arith, below), at)

end_within : (m a : ℕ) (xs : List ℕ) → a ≤ m → All (λ x. x < m) xs → end_of a xs ≤ m
end_within m a [] high all = high
end_within m a (y ∷ xs) high all =
    let first = All-head (λ x. x < m) y xs all in
    end_within m (max a (y + 1)) xs (omega (arith, high, first)) (All-tail (λ x. x < m) y xs all)

-- it comes after the one of them that is not below any
pub end_is : (a m : ℕ) (xs : List ℕ) → a ≤ m → Contains xs m → All (λ x. x < m + 1) xs → end_of a xs ≡ m + 1
end_is a m xs low here all = omega (arith, end_past a xs m here, end_within (m + 1) a xs (omega (arith, low)) all)

-- what an element picks of an axis lies from its least pick on, and before the end of its picks
pub elem_picked_between : (fit : Fit) (len : ℕ) (e : SliceInfoElem) (pick : ℕ) → Contains (elem_picks fit len e) pick
    → IsBetween (least_pick fit len e) (end_of_picks fit len e) pick
elem_picked_between fit len e pick here =
    let picks = elem_picks fit len e in
    (least_below (elem_range fit len e).0 picks pick here, end_past (least_pick fit len e) picks pick here)

of_each : (fit : Fit) (elems : List (ℕ × SliceInfoElem)) (index : List ℕ) (k : ℕ) → k < length elems
    → AllZip Contains (map (λ one. elem_picks fit one.0 one.1) elems) index
    → Contains (elem_picks fit (get_or elems k (0, elem.NewAxis)).0 (get_or elems k (0, elem.NewAxis)).1) (get_or index k 0)
of_each fit [] index k below all = absurd (omega (arith, below))
of_each fit (one ∷ elems) [] k below all = absurd all
of_each fit (one ∷ elems) (i ∷ index) zero below all = all.0
of_each fit (one ∷ elems) (i ∷ index) (suc k) below all = of_each fit elems index k (omega (arith, below)) all.1

module _ (fit : Fit) (shape : List ℕ) (axis : ℕ) where
  -- each index that an argument without fault picks has a coordinate that is picked of the axis
  picked_on : (elems : List SliceInfoElem) (index : List ℕ) → argument_fault fit shape elems ≡ None → axis < length shape
      → AllZip Contains (axis_picks fit shape elems) index
      → Contains (elem_picks fit (elem_on shape axis elems).0 (elem_on shape axis elems).1) (get_or index axis 0)
  picked_on elems index none there all =
      let parts = elements_of_no_fault fit shape elems none in
      let count : length (axis_elems shape elems) ≡ length shape =
      sym (length-map (axis_elems shape elems) (λ one. one.0)) ∙ ap length (lens_of_axis_elems shape elems parts.0) in
      of_each fit (axis_elems shape elems) index axis (omega (arith, there, count)) all

  -- and so one from the least up to the greatest
  pub picked_between : (elems : List SliceInfoElem) (index : List ℕ) → argument_fault fit shape elems ≡ None → axis < length shape
      → AllZip Contains (axis_picks fit shape elems) index
      → IsBetween (start_on fit shape axis elems) (end_on fit shape axis elems) (get_or index axis 0)
  picked_between elems index none there all =
      elem_picked_between fit (elem_on shape axis elems).0 (elem_on shape axis elems).1 (get_or index axis 0)
      (picked_on elems index none there all)

  -- arguments whose picks leave other remainders share no index
  pub apart_by_remainder : (by : ℕ) (one other : List SliceInfoElem) → argument_fault fit shape one ≡ None
      → argument_fault fit shape other ≡ None → axis < length shape → HasRemainderOn by fit shape axis one
      → HasRemainderOn by fit shape axis other → start_on fit shape axis one % by ≢ start_on fit shape axis other % by
      → Intersect fit shape one other → ⊥
  apart_by_remainder by one other none also there has does differ intersect =
      let coordinate = get_or intersect.0 axis 0 in
      let picks = λ (elems : List SliceInfoElem). elem_picks fit (elem_on shape axis elems).0 (elem_on shape axis elems).1 in
      let leaves = λ (elems : List SliceInfoElem) (pick : ℕ). pick % by ≡ start_on fit shape axis elems % by in
      differ (sym (All-contains (leaves one) (picks one) coordinate has (picked_on one intersect.0 none there intersect.2))
      ∙ All-contains (leaves other) (picks other) coordinate does (picked_on other intersect.0 also there intersect.3))

  -- arguments of which the one is past the other on some axis share no index
  pub apart_past : (one other : List SliceInfoElem) → argument_fault fit shape one ≡ None → argument_fault fit shape other ≡ None
      → IsPast fit shape axis one other → Intersect fit shape one other → ⊥
  apart_past one other none also is intersect =
      let low = picked_between one intersect.0 none is.there intersect.2 in
      let high = picked_between other intersect.0 also is.there intersect.3 in
      omega (arith, low.1, high.0, is.past)

  -- whichever of them that is
  pub apart_either : (one other : List SliceInfoElem) → argument_fault fit shape one ≡ None → argument_fault fit shape other ≡ None
      → IsPast fit shape axis one other ⊎ IsPast fit shape axis other one → Intersect fit shape one other → ⊥
  apart_either one other none also (inl is) intersect = apart_past one other none also is intersect
  apart_either one other none also (inr is) intersect =
      apart_past other one also none is (intersect_symmetric fit shape one other intersect)

-- ---- an argument without new axes
in_count_le : (elems : List SliceInfoElem) → in_count elems ≤ length elems
in_count_le [] = omega arith
in_count_le (elem.Slice start end step ∷ elems) = omega (arith, in_count_le elems)
in_count_le (elem.Index index ∷ elems) = omega (arith, in_count_le elems)
in_count_le (elem.NewAxis ∷ elems) = omega (arith, in_count_le elems)

-- its element for an axis has the number of the axis
module _ (d : SliceInfoElem) where
  pub elem_on-at : (shape : List ℕ) (elems : List SliceInfoElem) (axis : ℕ) → in_count elems ≡ length elems → length elems ≡ length shape
      → axis < length shape → elem_on shape axis elems ≡ (get_or shape axis 0, get_or elems axis d)
  elem_on-at shape [] axis count long there = absurd (omega (arith, there, long))
  elem_on-at shape (elem.NewAxis ∷ elems) axis count long there = absurd (omega (arith, in_count_le elems, count))
  elem_on-at [] (elem.Slice start end step ∷ elems) axis count long there = absurd (omega (arith, there))
  elem_on-at [] (elem.Index index ∷ elems) axis count long there = absurd (omega (arith, there))
  elem_on-at (len ∷ shape) (elem.Slice start end step ∷ elems) zero count long there = refl
  elem_on-at (len ∷ shape) (elem.Index index ∷ elems) zero count long there = refl
  elem_on-at (len ∷ shape) (elem.Slice start end step ∷ elems) (suc axis) count long there =
      elem_on-at shape elems axis (omega (arith, count)) (omega (arith, long)) (omega (arith, there))
  elem_on-at (len ∷ shape) (elem.Index index ∷ elems) (suc axis) count long there =
      elem_on-at shape elems axis (omega (arith, count)) (omega (arith, long)) (omega (arith, there))
