-- The pass along the axes by their strides answers what the no-alias rule does.
use Rattle.std.proofs.Common.{◌≡◌, ℕ, zero, suc, ◌+◌, ◌-◌, ◌<◌, ◌≤◌, ℤ, pos, true, false, List, [], ◌∷◌, length, get_or, take}
use Rattle.std.proofs.Common.{drop, refl, sym, ap, ◌∙◌, inl, inr, arith, add-one, drop-cons, mul-zero, one-mul, zero-mul}
use Rattle.std.specs.List.{sum_by, range_with_len, All}
use Rattle.std.specs.List.Sorted.{IsPermutation}
use Rattle.std.proofs.lemmas.Bool.{and_from, and_parts, cases_lt}
use Rattle.std.proofs.lemmas.Bool.Decides.{nat_tests, same_from_decides}
use Rattle.std.proofs.lemmas.List.{drop_all, get_or_default, get_or-drop, get_or-take, length-drop, length-take}
use Rattle.std.proofs.lemmas.Nat.{mul-le}
use Rattle.std.proofs.lemmas.List.Sorted.{Contains-permutation, All-permutation, sum_by-IsPermutation}
use Rattle.std.proofs.lemmas.List.Sums.{get_or-le-sum_by, sum_by-cons, sum_by-drop_more, sum_by-le, sum_by-le-sum_by, sum_by-take-drop}
use Rattle.std.proofs.lemmas.List.Sums.{sum_by_more_le}
use Rattle.nd_base.proofs.Laws.Below.{All-below, get_or-below, length-below}
use Rattle.nd_base.proofs.Laws.Definitions.{below, magnitude, reach, span, sum_over_axes}
use Rattle.nd_base.proofs.Laws.Span.{sum_and_others}
use Rattle.nd_dim.specs.StrideOrder.{magnitude_at, comes_before, IsStrideOrder}
use Rattle.nd_shape.specs.NoAlias.{span_of_others, strides_over_others, satisfies_no_alias_rule, SatisfiesNoAliasRule}
use Rattle.nd_shape.specs.NoAliasPass.{reach_at, strides_over, pass_from, holds_in_one_pass}
use Rattle.nd_shape.proofs.Laws.NoAlias.{reach_up_to, reach_up_to_le, rule_broken, rule_holds, rule_tested}

-- ---- the pass by places
-- each axis longer than 1 has a stride past what the pass reached before it
abbrev pub PassHolds : ℕ → List ℕ → List ℤ → List ℕ → Type 0
PassHolds reached shape strides order = (position : ℕ) → position < length order → 1 < get_or shape (get_or order position 0) 0
    → reached + sum_by (reach_at shape strides) (take position order) < magnitude_at strides (get_or order position 0)

module _ (reached : ℕ) (shape : List ℕ) (strides : List ℤ) (axis : ℕ) where
  -- a test that an axis passes
  stepped : strides_over reached shape strides axis ≡ true → 1 < get_or shape axis 0 → reached < magnitude_at strides axis
  stepped h long = grind (arith, nat_tests)

  steps : (1 < get_or shape axis 0 → reached < magnitude_at strides axis) → strides_over reached shape strides axis ≡ true
  steps h = grind (arith, nat_tests, h)

pass_tested : (reached : ℕ) (shape : List ℕ) (strides : List ℤ) (order : List ℕ) → PassHolds reached shape strides order
    → pass_from reached shape strides order ≡ true
pass_tested reached shape strides [] h = refl
pass_tested reached shape strides (axis ∷ order) h =
    let next = reached + reach_at shape strides axis in
    let here : 1 < get_or shape axis 0 → reached < magnitude_at strides axis = λ long. let w = h 0 (omega arith) long in omega arith in
    let later : PassHolds next shape strides order = λ position l long. let w = h (suc position) (omega arith) long in
    omega (arith, sum_by-cons (reach_at shape strides) axis (take position order)) in
    and_from _ _ (steps reached shape strides axis here) (pass_tested next shape strides order later)

pass_holds : (reached : ℕ) (shape : List ℕ) (strides : List ℤ) (order : List ℕ) → pass_from reached shape strides order ≡ true
    → PassHolds reached shape strides order
pass_holds reached shape strides [] h position l long = absurd (omega arith)
pass_holds reached shape strides (axis ∷ order) h zero l long =
    let next = reached + reach_at shape strides axis in
    omega (
      arith,
      stepped reached shape strides axis (and_parts _ _ h).0 long,
    )
pass_holds reached shape strides (axis ∷ order) h (suc position) l long =
    let next = reached + reach_at shape strides axis in
    let w = pass_holds next shape strides order (and_parts _ _ h).1 position (omega arith) long in
    omega (arith, sum_by-cons (reach_at shape strides) axis (take position order))

-- ---- sums by axes and by places
-- the term of an axis
abbrev term_at : (ℕ → ℤ → ℕ) → List ℕ → List ℤ → ℕ → ℕ
term_at f shape strides axis = f (get_or shape axis 0) (get_or strides axis (pos 0))

-- the sum from an axis on, over the numbers of the axes
sum_from_axis : (f : ℕ → ℤ → ℕ) (shape : List ℕ) (strides : List ℤ) (k n : ℕ) → length shape ≡ length strides → k + n ≡ length shape
    → sum_over_axes f (drop k shape) (drop k strides) ≡ sum_by (term_at f shape strides) (range_with_len k n)
sum_from_axis f shape strides k zero count e = rw (drop_all k shape (omega arith)) refl
sum_from_axis f shape strides k (suc n) count e =
    let first : k < length shape = omega arith in
    let second : k < length strides = omega arith in
    rw (drop-cons shape k 0 first, drop-cons strides k (pos 0) second, sum_by-cons (term_at f shape strides) k (range_with_len (k + 1) n))
    (ap (λ r. term_at f shape strides k + r)
    (ap (λ j. sum_over_axes f (drop j shape) (drop j strides)) (sym (add-one k))
    ∙ sum_from_axis f shape strides (k + 1) n count (omega arith)))

-- the numbers of the axes in any order have the same sum
sum_in_order : (f : ℕ → ℤ → ℕ) (shape : List ℕ) (strides : List ℤ) (order : List ℕ) → length shape ≡ length strides
    → IsPermutation (below (length strides)) order → sum_over_axes f shape strides ≡ sum_by (term_at f shape strides) order
sum_in_order f shape strides order count p =
    sum_from_axis f shape strides 0 (length strides) count (omega arith)
    ∙ sym (sum_by-IsPermutation (term_at f shape strides) (below (length strides)) order p)

-- each place has the number of an axis
axis_at : (n : ℕ) (order : List ℕ) (position : ℕ) → IsPermutation (below n) order → position < length order → get_or order position 0 < n
axis_at n order position p l = All-permutation (λ axis. axis < n) (below n) order p (All-below n) position 0 l

-- and each axis has a place
position_of : (n : ℕ) (order : List ℕ) (axis : ℕ) → IsPermutation (below n) order → axis < n
    → (position : ℕ) × (position < length order) × (get_or order position 0 ≡ axis)
position_of n order axis p l =
    let found = Contains-permutation (below n) order axis p (axis, omega (arith, length-below n), get_or-below n axis axis l) in
    (found.0, found.1, get_or_default order found.0 0 axis found.1 ∙ found.2)

-- how far the others reach up to the stride of the axis at a place: those before it and those after it
others_by_position : (shape : List ℕ) (strides : List ℤ) (order : List ℕ) (position : ℕ) → length shape ≡ length strides
    → IsPermutation (below (length strides)) order → position < length order
    → span_of_others shape strides (get_or order position 0)
    ≡ sum_by (term_at (reach_up_to (magnitude_at strides (get_or order position 0))) shape strides) (take position order) + sum_by
    (term_at (reach_up_to (magnitude_at strides (get_or order position 0))) shape strides) (drop (position + 1) order)
others_by_position shape strides order position count p l =
    let axis = get_or order position 0 in
    let f = reach_up_to (magnitude_at strides axis) in
    let in_bounds : axis < length shape = omega (arith, axis_at (length strides) order position p l) in
    let whole = sum_and_others f shape strides axis in_bounds count in
    let placed = sum_in_order f shape strides order count p in
    let split = sum_by-take-drop (term_at f shape strides) order position in
    let own = sum_by-drop_more (term_at f shape strides) order position 0 l in
    omega (arith, whole, placed, split, own)

-- a sum of terms that are no greater is no greater
sum_le_within : (f g : ℕ → ℕ) (xs : List ℕ) → ((k : ℕ) → k < length xs → f (get_or xs k 0) ≤ g (get_or xs k 0)) → sum_by f xs ≤ sum_by g xs
sum_le_within f g [] h = omega arith
sum_le_within f g (x ∷ xs) h =
    let here : f x ≤ g x = h 0 (omega arith) in
    omega (arith, sum_by-cons f x xs, sum_by-cons g x xs, sum_le_within f g xs (λ k l. h (suc k) (omega arith)))

-- ---- the order of the strides
before_le : (strides : List ℤ) (axis other : ℕ) → comes_before strides axis other ≡ true
    → magnitude_at strides axis ≤ magnitude_at strides other
before_le strides axis other h = grind (arith, nat_tests)

-- the axes of the order have strides of magnitudes that do not fall
sorted : (strides : List ℤ) (order : List ℕ) (i j : ℕ) → IsStrideOrder strides order → i ≤ j → j < length order
    → magnitude_at strides (get_or order i 0) ≤ magnitude_at strides (get_or order j 0)
sorted strides order i zero h le l = let same : i ≡ 0 = omega arith in rw same (omega arith)
sorted strides order i (suc j) h le l = elim (cases_lt j i) [
  | inl past ↦ let same : i ≡ suc j = omega arith in rw same (omega arith)
  | inr upto ↦
      let step : comes_before strides (get_or order j 0) (get_or order (suc j) 0) ≡ true = rw add-one at (h.in_order j (omega arith)) in
      omega (arith, sorted strides order i j h upto (omega arith), before_le strides (get_or order j 0) (get_or order (suc j) 0) step)
]

-- ---- the rule and the pass
-- an axis of length at most 1 reaches nowhere
pub reaches_nowhere : (len : ℕ) (stride : ℤ) → len ≤ 1 → reach len stride ≡ 0
reaches_nowhere len stride h = let none : len - 1 ≡ 0 = omega arith in rw none (zero-mul (magnitude stride))

-- so it does where its stride matters at all
counts_before : (m len : ℕ) (stride : ℤ) → (1 < len → magnitude stride ≤ m) → reach len stride ≤ reach_up_to m len stride
counts_before m len stride h = elim (cases_lt 1 len) [
  | inl long ↦ let upto = h long in grind (arith, nat_tests)
  | inr short ↦ omega (arith, reaches_nowhere len stride short)
]

-- where the axes longer than 1 before a place have no longer strides, all before it count
earlier_count : (shape : List ℕ) (strides : List ℤ) (order : List ℕ) (position : ℕ) → position < length order
    → ((k : ℕ) → k < position → 1 < get_or shape (get_or order k 0) 0
    → magnitude_at strides (get_or order k 0) ≤ magnitude_at strides (get_or order position 0))
    → sum_by (reach_at shape strides) (take position order)
    ≤ sum_by (term_at (reach_up_to (magnitude_at strides (get_or order position 0))) shape strides) (take position order)
earlier_count shape strides order position l rising =
    let m = magnitude_at strides (get_or order position 0) in
    sum_le_within (reach_at shape strides) (term_at (reach_up_to m) shape strides) (take position order) (λ k g.
    let before : k < position = omega (arith, length-take position order) in
    rw (get_or-take position order k 0 before)
    (counts_before m (get_or shape (get_or order k 0) 0) (get_or strides (get_or order k 0) (pos 0)) (rising k before)))

-- where the rule holds, so does the pass: the axes before a place are among the others that count
pass_from_rule : (shape : List ℕ) (strides : List ℤ) (order : List ℕ) → length shape ≡ length strides → IsStrideOrder strides order
    → SatisfiesNoAliasRule shape strides → holds_in_one_pass shape strides order ≡ true
pass_from_rule shape strides order count h rule = pass_tested 0 shape strides order (λ position l long.
    let axis = get_or order position 0 in
    let in_bounds : axis < length shape = omega (arith, axis_at (length strides) order position h.each_once l) in
    let earlier = earlier_count shape strides order position l (λ k before long. sorted strides order k position h (omega arith) l) in
    omega (arith, rule axis in_bounds long, others_by_position shape strides order position count h.each_once l))

-- an axis with a stride past m, or with at most one coordinate, does not count up to m
nowhere : (m len : ℕ) (stride : ℤ) → (magnitude stride ≤ m → len ≤ 1) → reach_up_to m len stride ≡ 0
nowhere m len stride h = elim (cases_lt m (magnitude stride)) [
  | inl past ↦ grind (arith, nat_tests)
  | inr upto ↦ let none = reaches_nowhere len stride (h upto) in grind (arith, nat_tests)
]

-- an axis longer than 1 reaches at least one stride
pub reaches : (len : ℕ) (stride : ℤ) → 1 < len → magnitude stride ≤ reach len stride
reaches len stride h =
    let once = mul-le 1 (magnitude stride) (len - 1) (magnitude stride) (omega arith) (omega arith) in
    omega (arith, one-mul (magnitude stride))

-- the test of an axis that strides over no more than the others span
stopped_test : (shape : List ℕ) (strides : List ℤ) (axis : ℕ) → 1 < get_or shape axis 0
    → magnitude_at strides axis ≤ span_of_others shape strides axis → strides_over_others shape strides axis ≡ false
stopped_test shape strides axis long upto = grind (arith, nat_tests)

module _ (shape : List ℕ) (strides : List ℤ) (order : List ℕ) where
  -- after an axis longer than 1, only axes of length at most 1 have a stride no longer
  later_short : (position later : ℕ) → PassHolds 0 shape strides order → position < later → later < length order
      → 1 < get_or shape (get_or order position 0) 0
      → magnitude_at strides (get_or order later 0) ≤ magnitude_at strides (get_or order position 0)
      → get_or shape (get_or order later 0) 0 ≤ 1
  later_short position later pass before l long upto = elim (cases_lt 1 (get_or shape (get_or order later 0) 0)) [
    | inr short ↦ short
    | inl other ↦
        let in_bounds : position < length (take later order) = omega (arith, length-take later order) in
        let part = get_or-le-sum_by (reach_at shape strides) (take later order) position 0 in_bounds in
        let same = get_or-take later order position 0 before in
        let own = reaches (get_or shape (get_or order position 0) 0) (get_or strides (get_or order position 0) (pos 0)) long in
        absurd (omega (arith, pass later l other, rw same at part, own))
  ]

  -- so the rule holds at each place
  rule_at_position : (position : ℕ) → length shape ≡ length strides → IsPermutation (below (length strides)) order
      → PassHolds 0 shape strides order → position < length order → 1 < get_or shape (get_or order position 0) 0
      → span_of_others shape strides (get_or order position 0) < magnitude_at strides (get_or order position 0)
  rule_at_position position count p pass l long =
      let m = magnitude_at strides (get_or order position 0) in
      let f = reach_up_to m in
      let earlier = sum_by-le-sum_by (term_at f shape strides) (reach_at shape strides) (take position order)
      (λ axis. reach_up_to_le m (get_or shape axis 0) (get_or strides axis (pos 0))) in
      let none : All (λ axis. term_at f shape strides axis ≤ 0) (drop (position + 1) order) = λ k d g.
      let next = (position + 1) + k in
      let in_bounds : next < length order = omega (arith, length-drop (position + 1) order) in
      let same = get_or-drop (position + 1) order k d ∙ get_or_default order next d 0 in_bounds in
      let zero_there = nowhere m (get_or shape (get_or order next 0) 0) (get_or strides (get_or order next 0) (pos 0))
      (later_short position next pass (omega arith) in_bounds long) in
      rw same (omega (arith, zero_there)) in
      let later = sum_by-le (term_at f shape strides) 0 (drop (position + 1) order) none in
      omega (
        arith,
        pass position l long,
        others_by_position shape strides order position count p l,
        mul-zero (length (drop (position + 1) order)),
      )

  -- where a pass along all axes goes through, whatever their order, the rule holds
  pub rule_from_pass : length shape ≡ length strides → IsPermutation (below (length strides)) order → PassHolds 0 shape strides order
      → SatisfiesNoAliasRule shape strides
  rule_from_pass count p pass axis in_bounds long =
      let found = position_of (length strides) order axis p (omega arith) in
      rw found.2 at (rule_at_position found.0 count p pass found.1 (rw found.2 long))

  -- the pass in an order of the strides answers what the rule does, also where a length is 0
  pub pass_decides_rule : length shape ≡ length strides → IsStrideOrder strides order
      → holds_in_one_pass shape strides order ≡ satisfies_no_alias_rule shape strides
  pass_decides_rule count h =
      same_from_decides {P = SatisfiesNoAliasRule shape strides} (holds_in_one_pass shape strides order)
      (satisfies_no_alias_rule shape strides)
      (λ pass. rule_from_pass count h.each_once (pass_holds 0 shape strides order pass), pass_from_rule shape strides order count h)
      (rule_holds shape strides, rule_tested shape strides)

  -- no pass reaches further than the axes span together
  pub passed_le_span : (position : ℕ) → length shape ≡ length strides → IsPermutation (below (length strides)) order
      → position < length order
      → sum_by (reach_at shape strides) (take position order) + reach_at shape strides (get_or order position 0) ≤ span shape strides
  passed_le_span position count p l =
      let all = sum_in_order reach shape strides order count p in
      omega (arith, all, sum_by_more_le (reach_at shape strides) order position 0 l)

  -- an axis at which a pass stops, and whose stride is no shorter than those before it, breaks the rule
  pub pass_stops : (position : ℕ) → length shape ≡ length strides → IsPermutation (below (length strides)) order → position < length order
      → 1 < get_or shape (get_or order position 0) 0
      → magnitude_at strides (get_or order position 0) ≤ sum_by (reach_at shape strides) (take position order)
      → ((k : ℕ) → k < position → 1 < get_or shape (get_or order k 0) 0
      → magnitude_at strides (get_or order k 0) ≤ magnitude_at strides (get_or order position 0))
      → satisfies_no_alias_rule shape strides ≡ false
  pass_stops position count p l long upto rising =
      let axis = get_or order position 0 in
      let in_bounds : axis < length shape = omega (arith, axis_at (length strides) order position p l) in
      let earlier = earlier_count shape strides order position l rising in
      let others : magnitude_at strides axis ≤ span_of_others shape strides axis =
      omega (arith, upto, earlier, others_by_position shape strides order position count p l) in
      rule_broken shape strides axis in_bounds (stopped_test shape strides axis long others)
