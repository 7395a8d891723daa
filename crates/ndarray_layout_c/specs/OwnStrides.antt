-- The strides that a shape has by itself, by an order.
use Rattle.std.specs.Prelude.{◌≡◌, ℕ, nat_lt, Option, Some, None, if◌then◌else◌, List, [], ◌∷◌, refl}
use Rattle.ndarray_layout.specs.declared.ErrorKind.{ErrorKind}
use Rattle.ndarray_layout.specs.declared.ErrorKind.TheVariants.{Overflow}
use Rattle.ndarray_layout.specs.declared.Order.{Order}
use Rattle.ndarray_layout.specs.declared.Order.TheVariants.{RowMajor, ColumnMajor}
use Rattle.ndarray_layout.specs.Size.{nonzero_size, limit}
use Rattle.ndarray_layout.specs.Strides.{default_strides, fortran_strides}

-- the fault of a shape: the product of the lengths that are not 0 is past the limit
abbrev pub own_strides_fault : List ℕ → Option ErrorKind
own_strides_fault shape = if nat_lt limit (nonzero_size shape) then Some Overflow else None

-- the strides by which the places of all indices, in an order, follow one another
abbrev pub own_strides : Order → List ℕ → List ℕ
own_strides RowMajor shape = default_strides shape
own_strides ColumnMajor shape = fortran_strides shape

-- examples
by_rows : own_strides RowMajor (3 ∷ 4 ∷ 5 ∷ []) ≡ 20 ∷ 5 ∷ 1 ∷ []
by_rows = refl

by_columns : own_strides ColumnMajor (3 ∷ 4 ∷ 5 ∷ []) ≡ 1 ∷ 3 ∷ 12 ∷ []
by_columns = refl

too_large : own_strides_fault (9223372036854775807 ∷ 2 ∷ []) ≡ Some Overflow
too_large = refl
