-- The items of an array with their indices.
use Rattle.std.specs.Prelude.{◌≡◌, ℕ, pos, Option, Some, List, [], ◌∷◌, length, map, zip, refl}
use Rattle.std.proofs.Props.{props}
use Rattle.ndarray_layout.specs.declared.Order.{Order}
use Rattle.ndarray_layout.specs.declared.Order.TheVariants.{RowMajor}
use Rattle.ndarray_layout.specs.Indices.{indices_in}
use Rattle.ndarray_layout.specs.IndicesLeft.{StandsAt, indices_left}
use Rattle.nd_access.specs.Items.{ArrayValue, item_at}

-- each index of an array with its item, in row-major order
abbrev pub indexed_items : {T : Type 0} → ArrayValue T → List (List ℕ × Option T)
indexed_items array = map (λ index. (index, item_at array index)) (indices_in RowMajor array.view.shape)

-- examples
abbrev two_columns : ArrayValue ℕ
two_columns = record { items = 5 ∷ 6 ∷ 7 ∷ 8 ∷ []; view = record { start = 0; shape = 2 ∷ 2 ∷ []; strides = pos 1 ∷ pos 2 ∷ [] } }

each_at_its_index : indexed_items two_columns
    ≡ (0 ∷ 0 ∷ [], Some 5) ∷ (0 ∷ 1 ∷ [], Some 7) ∷ (1 ∷ 0 ∷ [], Some 6) ∷ (1 ∷ 1 ∷ [], Some 8) ∷ []
each_at_its_index = refl

abbrev no_columns : ArrayValue ℕ
no_columns = record { items = 5 ∷ []; view = record { start = 0; shape = 2 ∷ 0 ∷ []; strides = pos 1 ∷ pos 1 ∷ [] } }

none_of_no_index : indexed_items no_columns ≡ []
none_of_no_index = refl
