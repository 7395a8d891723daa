-- The items of an array as they are stored.
use Rattle.std.specs.Prelude.{◌≡◌, ℕ, pos, negsuc, List, [], ◌∷◌, take, drop, refl}
use Rattle.ndarray_layout.specs.Size.{size}
use Rattle.nd_access.specs.Items.{ArrayValue}
use Rattle.nd_lent.specs.SplitItems.{lowest}

-- the items from the lowest place of the view on, as many as it has indices
abbrev pub items_in_memory_order : {T : Type 0} → ArrayValue T → List T
items_in_memory_order array = take (size array.view.shape) (drop (lowest array.view) array.items)

-- examples
back_to_front : items_in_memory_order {T = ℕ}
    (record { items = 7 ∷ 8 ∷ 9 ∷ []; view = record { start = 2; shape = 2 ∷ []; strides = negsuc 0 ∷ [] } })
    ≡ 8 ∷ 9 ∷ []
back_to_front = refl

transposed : items_in_memory_order {T = ℕ}
    (record { items = 5 ∷ 6 ∷ 7 ∷ 8 ∷ 9 ∷ []; view = record { start = 1; shape = 2 ∷ 2 ∷ []; strides = pos 1 ∷ pos 2 ∷ [] } })
    ≡ 6 ∷ 7 ∷ 8 ∷ 9 ∷ []
transposed = refl

no_index : items_in_memory_order {T = ℕ} (record { items = 7 ∷ []; view = record { start = 4; shape = 0 ∷ []; strides = pos 1 ∷ [] } }) ≡ []
no_index = refl

no_axes : items_in_memory_order {T = ℕ} (record { items = 7 ∷ 8 ∷ []; view = record { start = 1; shape = []; strides = [] } }) ≡ 8 ∷ []
no_axes = refl
