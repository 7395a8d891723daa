-- Whether a joint is bad, where both shapes lose an axis in front, and where two axes of one are joined.
use Rattle.std.proofs.Common.{◌≡◌, ◌≢◌, ℕ, zero, suc, ◌+◌, ◌*◌, ◌<◌, ◌≤◌, ◌==◌, ◌&&◌, ◌||◌, Bool, true, false, not, ℤ, pos, ◌*ℤ◌}
use Rattle.std.proofs.Common.{List, [], ◌∷◌, ◌++◌}
use Rattle.std.proofs.Common.{map, take, refl, sym, ap, ap₂, ◌∙◌, inl, inr, arith, Some}
use Rattle.std.specs.List.{list_any}
use Rattle.std.specs.Ordering.{int_eq}
use Rattle.std.specs.Prelude.{nat_lt, if◌then◌else◌}
use Rattle.std.proofs.Math.Bool.{and-false}
use Rattle.std.proofs.Math.Nat.{mul-pos, eq_of_mul-eq-mul_left, lt_of_mul-lt-mul_left, mul-le-mul_left, mul-one, mul_assoc, one-mul}
use Rattle.std.proofs.lemmas.Bool.{and_from, cases_Bool, cond-true, eq-eqb, eqb-true, lt-ltb, ltb-true, ne_eqb}
use Rattle.std.proofs.lemmas.Bool.{not_from_false, not_from_true, or_left, false_from_ne_true, le-ltb}
use Rattle.std.proofs.lemmas.Bool.Decides.{Decides-int_eq}
use Rattle.std.proofs.lemmas.List.Folds.{list_any-append}
use Rattle.nd_base.specs.Size.{size}
use Rattle.ndarray_layout.specs.reshape.Joints.{first_longer, is_loose, loose_joints, cumulative_products, is_bad_joint, has_bad_joint}
use Rattle.ndarray_layout.proofs.matching.HasIndex.{HasIndex, rest-has_index, some-len}

-- ---- tests of lists
same-test : (x y : Bool) → (x ≡ true → y ≡ true) → (y ≡ true → x ≡ true) → x ≡ y
same-test true y h g = sym (h refl)
same-test false true h g = g refl
same-test false false h g = refl

any-map : (p : ℕ → Bool) (f : ℕ → ℕ) (xs : List ℕ) → list_any p (map f xs) ≡ list_any (λ x. p (f x)) xs
any-map p f [] = refl
any-map p f (x ∷ xs) = ap (λ b. p (f x) || b) (any-map p f xs)

any-same : (p q : ℕ → Bool) (xs : List ℕ) → ((x : ℕ) → p x ≡ q x) → list_any p xs ≡ list_any q xs
any-same p q [] same = refl
any-same p q (x ∷ xs) same = ap₂ (λ a b. a || b) (same x) (any-same p q xs same)

any-none : (xs : List ℕ) → list_any (λ x. false) xs ≡ false
any-none [] = refl
any-none (x ∷ xs) = any-none xs

times-one : (xs : List ℕ) → map (λ x. 1 * x) xs ≡ xs
times-one [] = refl
times-one (x ∷ xs) = ap₂ (λ y ys. y ∷ ys) (one-mul x) (times-one xs)

times-both : (a b : ℕ) (xs : List ℕ) → map (λ x. a * x) (map (λ x. b * x) xs) ≡ map (λ x. a * b * x) xs
times-both a b [] = refl
times-both a b (x ∷ xs) = ap₂ (λ y ys. y ∷ ys) (sym (mul_assoc a b x)) (times-both a b xs)

-- ---- products of first lengths
-- a number is one of them
abbrev pub is_product : List ℕ → ℕ → Bool
is_product to j = list_any (λ product. product == j) (cumulative_products to)

pub product-none : (to : List ℕ) → is_product to 1 ≡ true
product-none [] = refl
product-none (len ∷ to) = refl

pub eqb-times : (len p q : ℕ) → 0 < len → (len * p == len * q) ≡ (p == q)
eqb-times len p q some = same-test (len * p == len * q) (p == q)
    (λ e. eq-eqb p q (eq_of_mul-eq-mul_left len some p q (eqb-true (len * p) (len * q) e)))
    (λ e. eq-eqb (len * p) (len * q) (ap (λ n. len * n) (eqb-true p q e)))

lt-times : (len p q : ℕ) → 0 < len → nat_lt (len * p) (len * q) ≡ nat_lt p q
lt-times len p q some = same-test (nat_lt (len * p) (len * q)) (nat_lt p q)
    (λ e. lt-ltb p q (lt_of_mul-lt-mul_left len (ltb-true (len * p) (len * q) e)))
    (λ e. lt-ltb (len * p) (len * q) (let more : len * suc p ≤ len * q = mul-le-mul_left len (ltb-true p q e) in omega arith))

-- a factor of 1 is 1
factor-one : (len q : ℕ) → 1 ≡ len * q → q ≡ 1
factor-one len zero e = absurd (omega arith)
factor-one zero (suc q) e = absurd (omega arith)
factor-one (suc len) (suc q) e = let more : suc len * suc q ≡ suc len * q + suc len = omega arith in omega arith

-- the products go on past an axis
pub product-times : (len : ℕ) (to : List ℕ) (q : ℕ) → 0 < len → is_product (len ∷ to) (len * q) ≡ is_product to q
product-times len to q some =
    let later : list_any (λ p. p == len * q) (map (λ p. len * p) (cumulative_products to)) ≡ is_product to q =
    any-map (λ p. p == len * q) (λ p. len * p) (cumulative_products to)
    ∙ any-same (λ p. len * p == len * q) (λ p. p == q) (cumulative_products to) (λ p. eqb-times len p q some) in
    elim (cases_Bool (1 == len * q)) [
      | inl first ↦ or_left (1 == len * q) (list_any (λ p. p == len * q) (map (λ p. len * p) (cumulative_products to))) first
          ∙ sym (ap (is_product to) (factor-one len q (eqb-true 1 (len * q) first)) ∙ product-none to)
      | inr other ↦ ap₂ (λ a b. a || b) other later
    ]

-- a test that no product passes
any-products : (p : ℕ → Bool) (to : List ℕ) → ((j : ℕ) → p (size (take j to)) ≡ false) → list_any p (cumulative_products to) ≡ false
any-products p [] none = ap (λ b. b || false) (none 0)
any-products p (len ∷ to) none = ap₂ (λ a b. a || b) (none 0)
    (any-map p (λ q. len * q) (cumulative_products to) ∙ any-products (λ q. p (len * q)) to (λ j. none (suc j)))

-- a number of indices that no first axes of a shape have
abbrev pub IsNoProduct : List ℕ → ℕ → Type 0
IsNoProduct to j = (k : ℕ) → size (take k to) ≡ j → ⊥

pub product-not : (to : List ℕ) (j : ℕ) → IsNoProduct to j → is_product to j ≡ false
product-not to j none = any-products (λ p. p == j) to (λ k. ne_eqb (size (take k to)) j (none k))

pub bad-times : (len : ℕ) (to : List ℕ) (q : ℕ) → 0 < len → is_bad_joint (len ∷ to) (len * q) ≡ is_bad_joint to q
bad-times len to q some = ap₂ (λ a b. a && not b) (lt-times len q (size to) some) (product-times len to q some)

bad-none : (to : List ℕ) → is_bad_joint to 1 ≡ false
bad-none to = ap (λ b. nat_lt 1 (size to) && not b) (product-none to) ∙ and-false (nat_lt 1 (size to))

-- ---- tests of loose joints
-- the first joint and the later ones
any-joint : (p : ℕ → Bool) (len : ℕ) (lens : List ℕ) (s : ℤ) (strides : List ℤ) → list_any p (loose_joints (len ∷ lens) (s ∷ strides))
    ≡ (nat_lt 1 len && is_loose s (first_longer lens strides) && p len || list_any (λ j. p (len * j)) (loose_joints lens strides))
any-joint p len lens s strides =
    let test = nat_lt 1 len && is_loose s (first_longer lens strides) in
    list_any-append p (if test then len ∷ [] else []) (map (λ joint. len * joint) (loose_joints lens strides))
    ∙ ap₂ (λ a b. a || b) (first test) (any-map p (λ j. len * j) (loose_joints lens strides))
  where
    first : (b : Bool) → list_any p (if b then len ∷ [] else []) ≡ (b && p len)
    first true = or_false (p len)
      where
        or_false : (x : Bool) → (x || false) ≡ x
        or_false true = refl
        or_false false = refl
    first false = refl

-- tests that agree from 1 on agree on all joints, and those that agree from the first length on
any-joints : (p q : ℕ → Bool) {lens : List ℕ} {strides : List ℤ} → HasIndex lens strides → ((j : ℕ) → 0 < j → p j ≡ q j)
    → list_any p (loose_joints lens strides) ≡ list_any q (loose_joints lens strides)
any-joints p q {lens = []} at same = refl
any-joints p q {lens = len ∷ lens} {strides = []} at same = refl
any-joints p q {lens = len ∷ lens} {strides = s ∷ strides} at same =
    let some = some-len len lens at.some in
    let test = nat_lt 1 len && is_loose s (first_longer lens strides) in
    any-joint p len lens s strides
    ∙ ap₂ (λ a b. test && a || b) (same len some)
    (any-joints (λ j. p (len * j)) (λ j. q (len * j)) (rest-has_index at) (λ j l. same (len * j) (mul-pos some l)))
    ∙ sym (any-joint q len lens s strides)

any-above : (p q : ℕ → Bool) {len : ℕ} {lens : List ℕ} {s : ℤ} {strides : List ℤ} → HasIndex (len ∷ lens) (s ∷ strides)
    → ((j : ℕ) → len ≤ j → p j ≡ q j)
    → list_any p (loose_joints (len ∷ lens) (s ∷ strides)) ≡ list_any q (loose_joints (len ∷ lens) (s ∷ strides))
any-above p q {len} {lens} {s} {strides} at same =
    let test = nat_lt 1 len && is_loose s (first_longer lens strides) in
    any-joint p len lens s strides
    ∙ ap₂ (λ a b. test && a || b) (same len (omega arith))
    (any-joints (λ j. p (len * j)) (λ j. q (len * j)) (rest-has_index at)
    (λ j l. same (len * j) (let more : len * 1 ≤ len * j = mul-le-mul_left len l in omega arith)))
    ∙ sym (any-joint q len lens s strides)

-- ---- both shapes lose an axis of one length
pub bad-both : (len : ℕ) (from : List ℕ) (s : ℤ) (strides : List ℤ) (to : List ℕ) → 0 < len
    → has_bad_joint (len ∷ from) (s ∷ strides) (len ∷ to) ≡ has_bad_joint from strides to
bad-both len from s strides to some =
    let bad = is_bad_joint (len ∷ to) in
    let past = λ (q : ℕ). bad-times len to q some in
    let first : bad len ≡ false = ap bad (sym (mul-one len)) ∙ past 1 ∙ bad-none to in
    let test = nat_lt 1 len && is_loose s (first_longer from strides) in
    any-joint bad len from s strides
    ∙ ap₂ (λ a b. test && a || b) first (any-same (λ j. bad (len * j)) (is_bad_joint to) (loose_joints from strides) past)
    ∙ ap (λ a. a || has_bad_joint from strides to) (and-false test)

-- ---- an axis of length 1
joints-one : (lens : List ℕ) (s : ℤ) (strides : List ℤ) → loose_joints (1 ∷ lens) (s ∷ strides) ≡ loose_joints lens strides
joints-one lens s strides = times-one (loose_joints lens strides)

pub bad-from-one : (from : List ℕ) (s : ℤ) (strides : List ℤ) (to : List ℕ)
    → has_bad_joint (1 ∷ from) (s ∷ strides) to ≡ has_bad_joint from strides to
bad-from-one from s strides to = ap (list_any (is_bad_joint to)) (joints-one from s strides)

pub bad-to-one : (from : List ℕ) (strides : List ℤ) (to : List ℕ) → has_bad_joint from strides (1 ∷ to) ≡ has_bad_joint from strides to
bad-to-one from strides to = any-same (is_bad_joint (1 ∷ to)) (is_bad_joint to) (loose_joints from strides)
    (λ j. ap (is_bad_joint (1 ∷ to)) (sym (one-mul j)) ∙ bad-times 1 to j (omega arith))

pub bad-skip : (len : ℕ) (from : List ℕ) (s t : ℤ) (strides : List ℤ) (to : List ℕ)
    → has_bad_joint (len ∷ 1 ∷ from) (s ∷ t ∷ strides) to ≡ has_bad_joint (len ∷ from) (s ∷ strides) to
bad-skip len from s t strides to = ap (λ js. list_any (is_bad_joint to)
    ((if nat_lt 1 len && is_loose s (first_longer from strides) then len ∷ [] else []) ++ map (λ joint. len * joint) js))
    (joints-one from t strides)

-- ---- two axes of the old shape that are iterated over as one
tight : (s : ℤ) → not (int_eq s s) ≡ false
tight s = not_from_true (int_eq s s) ((Decides-int_eq s s).1 refl)

joints-merged : (len next : ℕ) (lens : List ℕ) (s : ℤ) (strides : List ℤ) → 1 < len → 1 < next
    → loose_joints (len ∷ next ∷ lens) ((pos next *ℤ s) ∷ s ∷ strides) ≡ loose_joints (len * next ∷ lens) (s ∷ strides)
joints-merged len next lens s strides long longer =
    let loose = is_loose s (first_longer lens strides) in
    let both : 1 < len * next = let more : len * 1 ≤ len * next = mul-le-mul_left len (omega arith) in omega arith in
    let later = loose_joints lens strides in
    let none : (nat_lt 1 len && is_loose (pos next *ℤ s) (first_longer (next ∷ lens) (s ∷ strides))) ≡ false =
    ap (λ o. nat_lt 1 len && is_loose (pos next *ℤ s) o)
    (cond-true (nat_lt 1 next) (Some (next, s)) (first_longer lens strides) (lt-ltb 1 next longer))
    ∙ ap (λ b. nat_lt 1 len && b) (tight (pos next *ℤ s)) ∙ and-false (nat_lt 1 len) in
    ap₂ (λ a b. (if a then len ∷ [] else []) ++ map (λ j. len * j) ((if b && loose then next ∷ [] else []) ++ map (λ j. next * j) later))
    none (lt-ltb 1 next longer)
    ∙ by loose later
    ∙ ap (λ b. (if b && loose then len * next ∷ [] else []) ++ map (λ j. len * next * j) later) (sym (lt-ltb 1 (len * next) both))
  where
    by : (b : Bool) (xs : List ℕ) → map (λ j. len * j) ((if b then next ∷ [] else []) ++ map (λ j. next * j) xs)
        ≡ (if b then len * next ∷ [] else []) ++ map (λ j. len * next * j) xs
    by true xs = ap (λ ys. len * next ∷ ys) (times-both len next xs)
    by false xs = times-both len next xs

pub bad-merged : (len next : ℕ) (from : List ℕ) (s : ℤ) (strides : List ℤ) (to : List ℕ) → (1 < len) × (1 < next)
    → has_bad_joint (len ∷ next ∷ from) ((pos next *ℤ s) ∷ s ∷ strides) to ≡ has_bad_joint (len * next ∷ from) (s ∷ strides) to
bad-merged len next from s strides to (long, longer) = ap (list_any (is_bad_joint to)) (joints-merged len next from s strides long longer)

-- ---- two axes of the new shape, where the first one is shorter than that of the old one
pub product-merged : (len next : ℕ) (to : List ℕ) (j : ℕ) → (len ≡ j → ⊥)
    → is_product (len ∷ next ∷ to) j ≡ is_product (len * next ∷ to) j
product-merged len next to j other =
    let here : (len * 1 == j) ≡ false = ne_eqb (len * 1) j (λ e. other (sym (mul-one len) ∙ e)) in
    ap₂ (λ a ps. (1 == j) || (a || list_any (λ p. p == j) ps)) here (times-both len next (cumulative_products to))

pub bad-to-merged : (first len next : ℕ) {from : List ℕ} {s : ℤ} {strides : List ℤ} (to : List ℕ)
    → HasIndex (first ∷ from) (s ∷ strides) → len < first
    → has_bad_joint (first ∷ from) (s ∷ strides) (len ∷ next ∷ to) ≡ has_bad_joint (first ∷ from) (s ∷ strides) (len * next ∷ to)
bad-to-merged first len next to at less = any-above (is_bad_joint (len ∷ next ∷ to)) (is_bad_joint (len * next ∷ to)) at
    (λ j above. ap₂ (λ n b. nat_lt j n && not b) (sym (mul_assoc len next (size to))) (product-merged len next to j (λ e. omega arith)))

-- ---- what is decided
-- no joint lies within a shape of one index, or before the first of one axis
pub bad-single : (from : List ℕ) (strides : List ℤ) (to : List ℕ) → HasIndex from strides → size to ≡ 1
    → has_bad_joint from strides to ≡ false
bad-single from strides to at one = any-joints (is_bad_joint to) (λ j. false) at (λ j some.
    ap (λ b. b && not (is_product to j)) (le-ltb j (size to) (omega arith))) ∙ any-none (loose_joints from strides)

-- nor within one that is not larger than the first axis
pub bad-larger : {len : ℕ} {from : List ℕ} {s : ℤ} {strides : List ℤ} (to : List ℕ) → HasIndex (len ∷ from) (s ∷ strides)
    → size to ≤ len → has_bad_joint (len ∷ from) (s ∷ strides) to ≡ false
bad-larger {len} {from} {s} {strides} to at few = any-above (is_bad_joint to) (λ j. false) at (λ j above.
    ap (λ b. b && not (is_product to j)) (le-ltb j (size to) (omega arith))) ∙ any-none (loose_joints (len ∷ from) (s ∷ strides))

-- nor is there one of a single axis
pub bad-lone : (len : ℕ) (s : ℤ) (strides : List ℤ) (to : List ℕ) → has_bad_joint (len ∷ []) (s ∷ strides) to ≡ false
bad-lone len s strides to = ap (λ b. list_any (is_bad_joint to) ((if b then len ∷ [] else []) ++ [])) (and-false (nat_lt 1 len))

-- a loose joint within the new shape, and at none of its products, is bad
pub bad-loose : {len next : ℕ} (from : List ℕ) {s : ℤ} (t : ℤ) (strides : List ℤ) (to : List ℕ) → (1 < len) × (1 < next)
    → (len < size to) × (is_product to len ≡ false) → s ≢ pos next *ℤ t → has_bad_joint (len ∷ next ∷ from) (s ∷ t ∷ strides) to ≡ true
bad-loose {len} {next} from {s} t strides to (long, longer) (less, none) apart =
    let rest = first_longer (next ∷ from) (t ∷ strides) in
    let differ = int_eq s (pos next *ℤ t) in
    let loose : is_loose s rest ≡ true =
    ap (is_loose s) (cond-true (nat_lt 1 next) (Some (next, t)) (first_longer from strides) (lt-ltb 1 next longer))
    ∙ not_from_false differ (false_from_ne_true differ (λ e. apart ((Decides-int_eq s (pos next *ℤ t)).0 e))) in
    let bad : is_bad_joint to len ≡ true =
    and_from (nat_lt len (size to)) (not (is_product to len)) (lt-ltb len (size to) less) (not_from_false (is_product to len) none) in
    any-joint (is_bad_joint to) len (next ∷ from) s (t ∷ strides)
    ∙ or_left (nat_lt 1 len && is_loose s rest && is_bad_joint to len)
    (list_any (λ j. is_bad_joint to (len * j)) (loose_joints (next ∷ from) (t ∷ strides)))
    (ap₂ (λ a b. a && b) (ap₂ (λ a b. a && b) (lt-ltb 1 len long) loose) bad)

-- as a lesser first axis is
pub IsNoProduct-within : (len other : ℕ) (to : List ℕ) → 1 < len → len < other → IsNoProduct (other ∷ to) len
IsNoProduct-within len other to long less zero e = omega arith
IsNoProduct-within len other to long less (suc k) e = multiple (size (take k to)) e
  where
    multiple : (n : ℕ) → other * n ≡ len → ⊥
    multiple zero e = omega arith
    multiple (suc n) e = let more : other * 1 ≤ other * suc n = mul-le-mul_left other (omega arith) in omega arith

pub product-within : (len other : ℕ) (to : List ℕ) → 1 < len → len < other → is_product (other ∷ to) len ≡ false
product-within len other to long less = product-not (other ∷ to) len (IsNoProduct-within len other to long less)
