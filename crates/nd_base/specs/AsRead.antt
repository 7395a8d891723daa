-- The axes of a shape in the order in which they are read: that of the axis that moves slowest first.
use Rattle.std.specs.Prelude.{◌≡◌, ℕ, List, [], ◌∷◌, reverse, refl}
use Rattle.nd_base.specs.declared.order.Order.{Order}
use Rattle.nd_base.specs.declared.order.Order.TheVariants.{RowMajor, ColumnMajor}

-- a list with an item for each axis, that of the axis that moves slowest in the order first
abbrev pub as_read : {A : Type 0} → Order → List A → List A
as_read RowMajor items = items
as_read ColumnMajor items = reverse items

-- examples
first_axis_first : as_read {A = ℕ} RowMajor (2 ∷ 3 ∷ 4 ∷ []) ≡ 2 ∷ 3 ∷ 4 ∷ []
first_axis_first = refl

last_axis_first : as_read {A = ℕ} ColumnMajor (2 ∷ 3 ∷ 4 ∷ []) ≡ 4 ∷ 3 ∷ 2 ∷ []
last_axis_first = refl
