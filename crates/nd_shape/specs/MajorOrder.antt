-- Layouts whose indices lie one after another in an order.
use Rattle.std.specs.Prelude.{◌≡◌, ◌≢◌, ℕ, ◌+◌, ◌<◌, ◌⊎◌, true, ℤ, pos, List, [], ◌∷◌, length, map, nat_eq, slice_index}
use Rattle.std.specs.Prelude.{slice_index_or, refl}
use Rattle.std.specs.Ordering.{int_eq}
use Rattle.std.proofs.Common.{ap, eq-eqb}
use Rattle.std.proofs.Math.Dec.{lit<}
use Rattle.std.proofs.lemmas.Bool.{both_ways}
use Rattle.std.proofs.lemmas.Bool.Decides.{Decides-int_eq}
use Rattle.nd_base.specs.declared.order.Order.{Order}
use Rattle.nd_base.specs.declared.order.Order.TheVariants.{RowMajor, ColumnMajor}
use Rattle.nd_base.specs.Indices.{below}
use Rattle.nd_base.specs.Size.{size, is_empty}
use Rattle.nd_base.specs.Place.{places}
use Rattle.nd_shape.specs.ShapeBuilder.{standard_strides}

-- wherever the first index lies, the places of all indices in the order are start, start + 1 and so on
abbrev pub LiesInOrder : Order → List ℕ → List ℤ → Type 0
LiesInOrder order shape strides =
    (start : ℕ) → places order start shape strides ≡ map (λ r. pos (start + r)) (below (size shape))

-- each axis of another length than 1 has the stride that the shape has by itself in the order
abbrev pub HasStandardStrides : Order → List ℕ → List ℤ → Type 0
HasStandardStrides order shape strides =
    (axis : ℕ) → axis < length shape → slice_index shape axis ≢ 1
    → slice_index_or strides axis (pos 0) ≡ pos (slice_index (standard_strides order shape) axis)

-- the rule by which indices lie in order: there is no index, or the strides are those of the order
abbrev pub SatisfiesOrderRule : Order → List ℕ → List ℤ → Type 0
SatisfiesOrderRule order shape strides = (is_empty shape ≡ true) ⊎ HasStandardStrides order shape strides

-- examples
rows_in_order :
    places RowMajor 4 (2 ∷ 1 ∷ 3 ∷ []) (pos 3 ∷ pos 9 ∷ pos 1 ∷ [])
    ≡ map (λ r. pos (4 + r)) (below (size (2 ∷ 1 ∷ 3 ∷ [])))
rows_in_order = refl

columns_in_order : places ColumnMajor 4 (2 ∷ 3 ∷ []) (pos 1 ∷ pos 2 ∷ []) ≡ map (λ r. pos (4 + r)) (below (size (2 ∷ 3 ∷ [])))
columns_in_order = refl

nothing_in_order : places RowMajor 4 (2 ∷ 0 ∷ []) (pos 7 ∷ pos 9 ∷ []) ≡ map (λ r. pos (4 + r)) (below (size (2 ∷ 0 ∷ [])))
nothing_in_order = refl

-- two rows of two columns that lie in order by columns do not by rows: the second index lies at 2, and not at 1
columns_not_by_rows : LiesInOrder RowMajor (2 ∷ 2 ∷ []) (pos 1 ∷ pos 2 ∷ []) → ⊥
columns_not_by_rows lies =
    let second : pos 2 ≡ pos 1 = ap (λ places. slice_index_or places 1 (pos 0)) (lies 0) in
    both_ways (int_eq (pos 2) (pos 1)) refl ((Decides-int_eq (pos 2) (pos 1)).1 second)

not_the_standard_strides : HasStandardStrides RowMajor (2 ∷ 2 ∷ []) (pos 1 ∷ pos 2 ∷ []) → ⊥
not_the_standard_strides standard =
    let first : pos 1 ≡ pos 2 = standard 0 (lit< tt) (λ two_is_one. both_ways (nat_eq 2 1) refl (eq-eqb 2 1 two_is_one)) in
    both_ways (int_eq (pos 1) (pos 2)) refl ((Decides-int_eq (pos 1) (pos 2)).1 first)
