-- The axes in the order of their strides, each by one number: its place in that order.
use Rattle.std.proofs.Common.{◌≡◌, ◌≢◌, ◌⊎◌, ℕ, zero, suc, ◌+◌, ◌*◌, ◌%◌, ◌<◌, ◌≤◌, ℤ, ◌==◌, List, sym, ap, ◌∙◌, arith, inl, inr}
use Rattle.std.specs.Prelude.{nat_lt, ◌&&◌, ◌||◌}
use Rattle.std.proofs.Math.Nat.{mul-le-mul_right, suc-mul}
use Rattle.std.proofs.lemmas.Bool.{cases_eq, cases_lt, cases_order}
use Rattle.std.proofs.lemmas.Bool.Decides.{nat_tests}
use Rattle.std.proofs.lemmas.Nat.{mod-mul-add}
use Rattle.nd_dim.specs.StrideOrder.{magnitude_at, comes_before}

-- ---- the place of an axis
-- by the magnitude of its stride, and between equals by its number; n counts the axes
abbrev pub stride_position : List ℤ → ℕ → ℕ → ℕ
stride_position strides n axis = magnitude_at strides axis * n + axis

-- a lesser magnitude comes first, whatever the numbers
lesser_first : (m k n a b : ℕ) → a < n → m < k → m * n + a < k * n + b
lesser_first m k n a b h l =
    let more : suc m * n ≤ k * n = mul-le-mul_right n (omega arith) in
    omega (arith, suc-mul m n)

before_by_position : (m k n a b : ℕ) → a < n → b < n → (nat_lt m k || (m == k && nat_lt a b)) ≡ nat_lt (m * n + a) (k * n + b)
before_by_position m k n a b h g = elim (cases_order m k) [
  | inl same ↦ rw same (grind (arith, nat_tests))
  | inr differ ↦ elim differ [
    | inl less ↦ let first = lesser_first m k n a b h less in grind (arith, nat_tests)
    | inr more ↦ let first = lesser_first k m n b a g more in grind (arith, nat_tests)
  ]
]

module _ (strides : List ℤ) (n axis other : ℕ) (h : axis < n) where
  -- an axis comes before another exactly where its place is the lesser
  pub comes_before_by_position : other < n
      → comes_before strides axis other ≡ nat_lt (stride_position strides n axis) (stride_position strides n other)
  comes_before_by_position g = before_by_position (magnitude_at strides axis) (magnitude_at strides other) n axis other h g

  -- two axes have two places
  pub position_differs : other < n → stride_position strides n axis ≡ stride_position strides n other → axis ≡ other
  position_differs g e =
      sym (mod-mul-add (magnitude_at strides axis) n axis h) ∙ ap (λ k. k % n) e ∙ mod-mul-add (magnitude_at strides other) n other g

  -- and at no lesser place the stride is no shorter
  pub longer_at_later_position : stride_position strides n other ≤ stride_position strides n axis
      → magnitude_at strides other ≤ magnitude_at strides axis
  longer_at_later_position l = elim (cases_lt (magnitude_at strides axis) (magnitude_at strides other)) [
    | inr upto ↦ upto
    | inl less ↦
        let first = lesser_first (magnitude_at strides axis) (magnitude_at strides other) n axis other h less in
        absurd (omega arith)
  ]

-- some number is past the places of all axes
pub past_all : (f : ℕ → ℕ) (n : ℕ) → (top : ℕ) × ((axis : ℕ) → axis < n → f axis < top)
past_all f zero = (0, λ axis h. absurd (omega arith))
past_all f (suc n) =
    let rest = past_all f n in (
      rest.0 + f n + 1,
      λ axis h. elim (cases_eq axis n) [
        | inl same ↦ rw same (omega arith)
        | inr other ↦ let less = rest.1 axis (omega arith) in omega arith
      ],
    )

-- a number is the place of an axis, or of none
pub axis_at_position : (f : ℕ → ℕ) (n position : ℕ)
    → ((axis : ℕ) × (axis < n) × (f axis ≡ position)) ⊎ ((axis : ℕ) → axis < n → f axis ≢ position)
axis_at_position f zero position = inr (λ axis h. absurd (omega arith))
axis_at_position f (suc n) position = elim (cases_eq (f n) position) [
  | inl same ↦ inl (n, omega arith, same)
  | inr not_here ↦ elim (axis_at_position f n position) [
    | inl found ↦ inl (found.0, (let l = found.1 in omega arith), found.2)
    | inr none ↦ inr (λ axis h. elim (cases_eq axis n) [
      | inl same ↦ rw same not_here
      | inr other ↦ none axis (omega arith)
    ])
  ]
]
