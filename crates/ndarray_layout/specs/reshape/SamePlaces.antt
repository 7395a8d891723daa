-- Strides along which a shape has the places of another layout, one after another.
use Rattle.std.specs.Prelude.{◌≡◌, ℕ, ◌<◌, nat_eq, ℤ, pos, negsuc, List, [], ◌∷◌, length, slice_index, slice_index_or, refl}
use Rattle.std.proofs.Common.{ap, eq-eqb}
use Rattle.std.proofs.Math.Dec.{lit<}
use Rattle.std.proofs.lemmas.Bool.{both_ways}
use Rattle.nd_base.specs.declared.order.Order.{Order}
use Rattle.nd_base.specs.declared.order.Order.TheVariants.{RowMajor, ColumnMajor}
use Rattle.nd_base.specs.Place.{places}
use Rattle.nd_base.specs.Signed.{magnitude}

-- one stride for each axis, and in the order the same list of places from 0 on
pub record Keeps (order : Order) (from : List ℕ) (strides : List ℤ) (to : List ℕ) (others : List ℤ) : Type 0 where
  pub same_count : length to ≡ length others
  pub same_places : places order 0 to others ≡ places order 0 from strides

-- two lists of strides have the same stride on each axis longer than 1
abbrev pub AgreeOnLonger : List ℕ → List ℤ → List ℤ → Type 0
AgreeOnLonger shape strides others = (axis : ℕ) → 1 < slice_index shape axis
    → slice_index_or strides axis (pos 0) ≡ slice_index_or others axis (pos 0)

-- examples
rows_as_one : Keeps RowMajor (2 ∷ 3 ∷ []) (pos 3 ∷ pos 1 ∷ []) (6 ∷ []) (pos 1 ∷ [])
rows_as_one = record { same_count = refl; same_places = refl }

every_fourth_back : Keeps ColumnMajor (4 ∷ []) (negsuc 3 ∷ []) (2 ∷ 2 ∷ []) (negsuc 3 ∷ negsuc 7 ∷ [])
every_fourth_back = record { same_count = refl; same_places = refl }

another_on_a_longer_axis : AgreeOnLonger (2 ∷ []) (pos 7 ∷ []) (pos 1 ∷ []) → ⊥
another_on_a_longer_axis agree = both_ways (nat_eq 7 1) refl (eq-eqb 7 1 (ap magnitude (agree 0 (lit< tt))))
