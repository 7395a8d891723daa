-- What an iterator over the indices of a shape has still to give.
use Rattle.std.specs.Prelude.{◌≡◌, ℕ, ◌+◌, ◌-◌, ◌<◌, ◌≤◌, Bool, true, if◌then◌else◌, Option, Some, None, List, [], ◌∷◌}
use Rattle.std.specs.Prelude.{nat_eq, drop, slice_index, refl}
use Rattle.std.proofs.Common.{ap, eq-eqb}
use Rattle.std.proofs.Math.Dec.{lit<, lit≤}
use Rattle.std.proofs.Math.Arith.{le→nltb}
use Rattle.std.proofs.lemmas.Bool.{both_ways}
use Rattle.nd_base.specs.declared.order.Order.{Order}
use Rattle.nd_base.specs.declared.order.Order.TheVariants.{RowMajor, ColumnMajor}
use Rattle.nd_base.specs.Indices.{indices_in}
use Rattle.nd_base.specs.FlatIndex.{index_of_flat_in}
use Rattle.nd_base.specs.Size.{size}

-- the last n of the indices of a shape, in an order
abbrev pub indices_left : Order → List ℕ → ℕ → List (List ℕ)
indices_left order shape n = drop (size shape - n) (indices_in order shape)

-- the first of the last n indices of a shape, in an order
abbrev pub first_left : Order → List ℕ → ℕ → List ℕ
first_left order shape n = index_of_flat_in order shape (size shape - n)

-- n indices of the shape are left in an order, and where n isn't 0, this is the first of them
pub record StandsAt (order : Order) (shape : List ℕ) (n : ℕ) (index : List ℕ) : Type 0 where
  pub within : n ≤ size shape
  pub first : 0 < n → index ≡ first_left order shape n

-- n indices are left, and either this is the first of them, or there is none and n is 0
abbrev pub StandsAtFirst : Order → List ℕ → ℕ → Option (List ℕ) → Type 0
StandsAtFirst order shape n None = n ≡ 0
StandsAtFirst order shape n (Some index) = (0 < n) × StandsAt order shape n index

-- n indices are left, and this is the one before them where it has been lent, or else the first of them
abbrev pub StandsAfter : Order → List ℕ → Bool → ℕ → List ℕ → Type 0
StandsAfter order shape is_lent n index = StandsAt order shape (if is_lent then n + 1 else n) index

-- examples
two_left_by_rows : indices_left RowMajor (2 ∷ 2 ∷ []) 2 ≡ (1 ∷ 0 ∷ []) ∷ (1 ∷ 1 ∷ []) ∷ []
two_left_by_rows = refl

two_left_by_columns : indices_left ColumnMajor (2 ∷ 2 ∷ []) 2 ≡ (0 ∷ 1 ∷ []) ∷ (1 ∷ 1 ∷ []) ∷ []
two_left_by_columns = refl

none_left : indices_left RowMajor (2 ∷ 2 ∷ []) 0 ≡ []
none_left = refl

first_of_two_left : first_left ColumnMajor (2 ∷ 2 ∷ []) 2 ≡ 0 ∷ 1 ∷ []
first_of_two_left = refl

at_the_last : StandsAt RowMajor (2 ∷ 2 ∷ []) 1 (1 ∷ 1 ∷ [])
at_the_last = record { within = lit≤ tt; first = λ some. refl }

not_at_the_first : StandsAt RowMajor (2 ∷ 2 ∷ []) 1 (0 ∷ 0 ∷ []) → ⊥
not_at_the_first stands = both_ways (nat_eq 0 1) refl (eq-eqb 0 1 (ap (λ index. slice_index index 0) (stands.first (lit< tt))))

more_than_there_are : StandsAt RowMajor (2 ∷ 2 ∷ []) 5 (0 ∷ 0 ∷ []) → ⊥
more_than_there_are stands = le→nltb 4 5 stands.within

one_left_but_none : StandsAtFirst RowMajor (2 ∷ 2 ∷ []) 1 None → ⊥
one_left_but_none none = both_ways (nat_eq 1 0) refl (eq-eqb 1 0 none)

after_the_last : StandsAfter RowMajor (2 ∷ 2 ∷ []) true 0 (1 ∷ 1 ∷ [])
after_the_last = at_the_last
