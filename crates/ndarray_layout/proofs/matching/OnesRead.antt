-- The axes of length 1 at products that pass a test: their strides, and how many stand before an axis, as a shape loses its first axis.
use Rattle.std.proofs.Common.{◌≡◌, ◌≢◌, ℕ, zero, suc, ◌+◌, ◌*◌, ◌<◌, ◌≤◌, ◌==◌, ◌&&◌, Bool, true, false, cond, ℤ, pos, List, []}
use Rattle.std.proofs.Common.{◌∷◌, ◌++◌, length, get_or, map}
use Rattle.std.proofs.Common.{take, refl, sym, ap, ap₂, ◌∙◌, arith, add-one}
use Rattle.std.specs.List.{filter, range_with_len}
use Rattle.std.specs.Prelude.{if◌then◌else◌}
use Rattle.std.proofs.Math.Bool.{and-false}
use Rattle.std.proofs.Math.Nat.{mul-le-mul_left, mul-one, mul_assoc}
use Rattle.std.proofs.lemmas.Bool.{ne_eqb}
use Rattle.std.proofs.lemmas.List.{length-map, map-append}
use Rattle.nd_base.proofs.Laws.Definitions.{below, is_empty, size}
use Rattle.ndarray_layout.specs.reshape.ForcedStrides.{ones_before, strides_of_ones}
use Rattle.ndarray_layout.proofs.matching.BadJoints.{eqb-times}
use Rattle.ndarray_layout.proofs.matching.HasIndex.{some-len}

-- ---- numbers below one that pass a test
pub range-shift : (a n : ℕ) → range_with_len (a + 1) n ≡ map suc (range_with_len a n)
range-shift a zero = refl
range-shift a (suc n) = ap₂ (λ x xs. x ∷ xs) (add-one a) (range-shift (a + 1) n)

filter-map : (p : ℕ → Bool) (xs : List ℕ) → filter p (map suc xs) ≡ map suc (filter (λ x. p (suc x)) xs)
filter-map p [] = refl
filter-map p (x ∷ xs) = by (p (suc x)) (filter (λ y. p (suc y)) xs) (filter-map p xs)
  where
    by : (b : Bool) {ys : List ℕ} (zs : List ℕ) → ys ≡ map suc zs → cond b (suc x ∷ ys) ys ≡ map suc (cond b (x ∷ zs) zs)
    by true zs e = ap (λ ys. suc x ∷ ys) e
    by false zs e = e

filter-below : (p : ℕ → Bool) (n : ℕ) → filter p (below (suc n)) ≡ (if p 0 then 0 ∷ [] else []) ++ map suc
    (filter (λ k. p (suc k)) (below n))
filter-below p n = by (p 0) (ap (filter p) (range-shift 0 n) ∙ filter-map p (below n))
  where
    by : (b : Bool) {xs ys : List ℕ} → xs ≡ ys → cond b (0 ∷ xs) xs ≡ (if b then 0 ∷ [] else []) ++ ys
    by true e = ap (λ xs. 0 ∷ xs) e
    by false e = e

filter-none : (p : ℕ → Bool) (n : ℕ) → ((k : ℕ) → k < n → p k ≡ false) → filter p (below n) ≡ []
filter-none p zero none = refl
filter-none p (suc n) none =
    filter-below p n
    ∙ ap₂ (λ b xs. (if b then 0 ∷ [] else []) ++ map suc xs) (none 0 (omega arith))
    (filter-none (λ k. p (suc k)) n (λ k l. none (suc k) (omega arith)))

pub map-suc : (f : ℕ → ℤ) (xs : List ℕ) → map f (map suc xs) ≡ map (λ k. f (suc k)) xs
map-suc f [] = refl
map-suc f (x ∷ xs) = ap (λ ys. f (suc x) ∷ ys) (map-suc f xs)

-- ---- axes
-- an axis of length 1 at a product that passes
abbrev pub is_one_where : (ℕ → Bool) → List ℕ → ℕ → Bool
is_one_where test lens axis = get_or lens axis 0 == 1 && test (size (take axis lens))

-- the strides of all such axes, and how many stand before an axis
abbrev pub ones_where : (ℕ → Bool) → List ℕ → List ℤ → List ℤ
ones_where test lens strides = map (λ axis. get_or strides axis (pos 0)) (filter (is_one_where test lens) (below (length lens)))

abbrev pub ones_count : (ℕ → Bool) → List ℕ → ℕ → ℕ
ones_count test lens axis = length (filter (is_one_where test lens) (below axis))

pub ones_where-next : (test : ℕ → Bool) (len : ℕ) (lens : List ℕ) (s : ℤ) (strides : List ℤ)
    → ones_where test (len ∷ lens) (s ∷ strides)
    ≡ (if len == 1 && test 1 then s ∷ [] else []) ++ ones_where (λ n. test (len * n)) lens strides
ones_where-next test len lens s strides =
    let read = λ (axis : ℕ). get_or (s ∷ strides) axis (pos 0) in
    let later = filter (is_one_where (λ n. test (len * n)) lens) (below (length lens)) in
    ap (map read) (filter-below (is_one_where test (len ∷ lens)) (length lens))
    ∙ map-append read (if len == 1 && test 1 then 0 ∷ [] else []) (map suc later)
    ∙ ap₂ (λ xs ys. xs ++ ys) (by (len == 1 && test 1)) (map-suc read later)
  where
    by : (b : Bool) → map (λ axis. get_or (s ∷ strides) axis (pos 0)) (if b then 0 ∷ [] else []) ≡ (if b then s ∷ [] else [])
    by true = refl
    by false = refl

pub ones_count-next : (test : ℕ → Bool) (len : ℕ) (lens : List ℕ) (axis : ℕ)
    → ones_count test (len ∷ lens) (suc axis) ≡ (if len == 1 && test 1 then 1 else 0) + ones_count (λ n. test (len * n)) lens axis
ones_count-next test len lens axis =
    let later = filter (is_one_where (λ n. test (len * n)) lens) (below axis) in
    ap length (filter-below (is_one_where test (len ∷ lens)) axis) ∙ by (len == 1 && test 1) later
  where
    by : (b : Bool) (xs : List ℕ) → length ((if b then 0 ∷ [] else []) ++ map suc xs) ≡ (if b then 1 else 0) + length xs
    by true xs = omega (arith, length-map xs suc)
    by false xs = omega (arith, length-map xs suc)

-- two axes longer than 1 together have none between them, but at the product of the first
pub ones_before-joined : (len next : ℕ) (lens : List ℕ) (q axis : ℕ) → 1 < len → 1 < len * next → q ≢ len
    → ones_before (len ∷ next ∷ lens) q (suc (suc axis)) ≡ ones_before (len * next ∷ lens) q (suc axis)
ones_before-joined len next lens q axis long more other =
    let later = ones_count (λ n. len * (next * n) == q) lens axis in
    let none : 0 + (0 + later) ≡ 0 + later = omega arith in
    ones_count-next (λ n. n == q) len (next ∷ lens) (suc axis)
    ∙ ap₂ (λ b n. (if b && (1 == q) then 1 else 0) + n) (ne_eqb len 1 (λ e. omega arith))
    (ones_count-next (λ n. len * n == q) next lens axis
    ∙ ap (λ b. (if next == 1 && b then 1 else 0) + later) (ne_eqb (len * 1) q (λ e. other (sym e ∙ mul-one len)))
    ∙ ap (λ b. (if b then 1 else 0) + later) (and-false (next == 1)))
    ∙ none ∙ (λ i. 0 + ones_count (λ n. sym (mul_assoc len next n) i == q) lens axis)
    ∙ sym (ones_count-next (λ n. n == q) (len * next) lens axis
    ∙ ap (λ b. (if b && (1 == q) then 1 else 0) + ones_count (λ n. len * next * n == q) lens axis)
    (ne_eqb (len * next) 1 (λ e. omega arith)))

-- ---- at a product
-- a longer axis in front has no part in them
pub ones_where-longer : (test : ℕ → Bool) {len : ℕ} (lens : List ℕ) (s : ℤ) (strides : List ℤ) → (len ≡ 1 → ⊥)
    → ones_where test (len ∷ lens) (s ∷ strides) ≡ ones_where (λ n. test (len * n)) lens strides
ones_where-longer test {len} lens s strides longer =
    ones_where-next test len lens s strides
    ∙ ap (λ b. (if b && test 1 then s ∷ [] else []) ++ ones_where (λ n. test (len * n)) lens strides) (ne_eqb len 1 longer)

pub ones_where-none : (test : ℕ → Bool) (lens : List ℕ) (strides : List ℤ) → ((n : ℕ) → test n ≡ false) → ones_where test lens strides ≡ []
ones_where-none test lens strides none = ap (map (λ axis. get_or strides axis (pos 0)))
    (filter-none (is_one_where test lens) (length lens) (λ k l.
    ap (λ b. get_or lens k 0 == 1 && b) (none (size (take k lens))) ∙ and-false (get_or lens k 0 == 1)))

-- those past an axis
pub ones-past : (len : ℕ) (lens : List ℕ) (s : ℤ) (strides : List ℤ) (q : ℕ) → 0 < len
    → strides_of_ones (len ∷ lens) (s ∷ strides) (len * q)
    ≡ (if len == 1 && (1 == len * q) then s ∷ [] else []) ++ strides_of_ones lens strides q
ones-past len lens s strides q some =
    ones_where-next (λ n. n == len * q) len lens s strides
    ∙ (λ i. (if len == 1 && (1 == len * q) then s ∷ [] else []) ++ ones_where (λ n. eqb-times len n q some i) lens strides)

pub ones_before-past : (len : ℕ) (lens : List ℕ) (q axis : ℕ) → 0 < len
    → ones_before (len ∷ lens) (len * q) (suc axis) ≡ (if len == 1 && (1 == len * q) then 1 else 0) + ones_before lens q axis
ones_before-past len lens q axis some =
    ones_count-next (λ n. n == len * q) len lens axis
    ∙ (λ i. (if len == 1 && (1 == len * q) then 1 else 0) + ones_count (λ n. eqb-times len n q some i) lens axis)

-- before a longer axis there is none
pub ones-none : (lens : List ℕ) (strides : List ℤ) → length lens ≡ length strides → is_empty lens ≡ false → get_or lens 0 0 ≢ 1
    → strides_of_ones lens strides 1 ≡ []
ones-none [] strides e some longer = refl
ones-none (len ∷ lens) [] e some longer = absurd (omega arith)
ones-none (len ∷ lens) (s ∷ strides) e some longer =
    let here = some-len len lens some in
    ones_where-longer (λ n. n == 1) lens s strides longer
    ∙ ones_where-none (λ n. len * n == 1) lens strides (λ n. ne_eqb (len * n) 1 (multiple n))
  where
    multiple : (n : ℕ) → len * n ≡ 1 → ⊥
    multiple zero e = omega arith
    multiple (suc n) e =
        let here = some-len len lens some in
        let more : len * 1 ≤ len * suc n = mul-le-mul_left len (omega arith) in
        omega (arith, longer)
