-- What a contract sees of an array whose items are lent beside those of another one.
use Rattle.std.specs.Prelude.{◌≡◌, ℕ, Option, Some, List, [], ◌∷◌, refl}
use Rattle.std.specs.Option.{option_zip}
use Rattle.ndarray_layout.specs.View.{view_of}
use Rattle.nd_access.specs.Items.{ArrayValue, item_at}

-- its items, where it starts, and its lengths and strides as they are kept
pub record LentLayout (T : Type 0) : Type 0 where
  pub items : List T
  pub start : ℕ
  pub lens : List ℕ
  pub strides : List ℕ

-- the array that it is
abbrev pub array_of_lent : {T : Type 0} → LentLayout T → ArrayValue T
array_of_lent lent = record { items = lent.items; view = view_of lent.start lent.lens lent.strides }

-- the items of an index in two of them
abbrev pub both_at : {T U : Type 0} → LentLayout T → LentLayout U → List ℕ → Option (T × U)
both_at one other index = option_zip (item_at (array_of_lent one) index) (item_at (array_of_lent other) index)

-- examples
abbrev backwards : LentLayout ℕ
backwards = record { items = 7 ∷ 8 ∷ []; start = 1; lens = 2 ∷ []; strides = 18446744073709551615 ∷ [] }

last_one_first : item_at (array_of_lent backwards) (0 ∷ []) ≡ Some 8
last_one_first = refl

same_index_of_both : both_at backwards backwards (1 ∷ []) ≡ Some (7, 7)
same_index_of_both = refl
