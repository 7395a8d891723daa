-- Shapes that say in which order their indices lie, or along which strides.
use Rattle.std.specs.Prelude.{◌≡◌, ℕ, Option, Some, None, List, [], ◌∷◌, refl}
use Rattle.nd_base.specs.declared.order.Order.{Order}
use Rattle.nd_base.specs.declared.order.Order.TheVariants.{RowMajor, ColumnMajor}
use Rattle.nd_dim.specs.Strides.{default_strides, fortran_strides}
use Rattle.nd_shape.specs.declared.shape_builder.Shape.{Shape}
use Rattle.nd_shape.specs.declared.shape_builder.Strides.{Strides}
use Rattle.nd_shape.specs.declared.shape_builder.Strides.TheVariants.{C, F, Custom}

-- the lengths of a shape with an order
abbrev pub dim_of : {D : Type 0} → Shape D → D
dim_of shape = shape.dim

-- the order of a shape that has one
abbrev pub order_of : {D : Type 0} → Shape D → Order
order_of shape = shape.order

-- the strides that are given, if they are
abbrev pub custom_strides : {D : Type 0} → Strides D → Option D
custom_strides C = None
custom_strides F = None
custom_strides (Custom strides) = Some strides

-- the strides along which the indices lie one after another in an order
abbrev pub strides_in : {D : Type 0} → Order → Strides D
strides_in RowMajor = C
strides_in ColumnMajor = F

-- the strides that a shape has by itself in an order
abbrev pub standard_strides : Order → List ℕ → List ℕ
standard_strides RowMajor shape = default_strides shape
standard_strides ColumnMajor shape = fortran_strides shape

-- the list of strides of a shape, where given strides stand for a list
abbrev pub strides_list : {D : Type 0} → (D → List ℕ) → List ℕ → Strides D → List ℕ
strides_list list shape C = standard_strides RowMajor shape
strides_list list shape F = standard_strides ColumnMajor shape
strides_list list shape (Custom strides) = list strides

-- examples
by_rows : strides_list {D = List ℕ} (λ strides. strides) (2 ∷ 3 ∷ []) C ≡ 3 ∷ 1 ∷ []
by_rows = refl

by_columns : strides_list {D = List ℕ} (λ strides. strides) (2 ∷ 3 ∷ []) F ≡ 1 ∷ 2 ∷ []
by_columns = refl

as_given : strides_list (λ strides. strides) (2 ∷ 3 ∷ []) (Custom (1 ∷ 7 ∷ [])) ≡ 1 ∷ 7 ∷ []
as_given = refl
