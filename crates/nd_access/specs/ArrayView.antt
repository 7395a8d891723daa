-- Items that are lent with a view that has a place among them for each index.
use Rattle.std.specs.Prelude.{ℕ, pos, [], ◌∷◌, refl}
use Rattle.std.proofs.Math.Dec.{lt→ltb}
use Rattle.ndarray_layout.specs.View.{View, IsView, LiesWithin}

-- each index of a view has one of so many items; indices may share one
pub record HasItems (count : ℕ) (view : View) : Type 0 where
  pub is_view : IsView view
  pub within : LiesWithin count view

-- examples
abbrev row_of_three : View
row_of_three = record { start = 0; shape = 3 ∷ []; strides = pos 1 ∷ [] }

row_past_its_items : HasItems 2 row_of_three → ⊥
row_past_its_items has = lt→ltb 2 2 (has.within (2 ∷ []) refl)
