-- Orders of indices.
use Rattle.std.specs.Prelude.{◌≡◌, refl}
use Rattle.nd_base.specs.declared.order.Order.{Order}
use Rattle.nd_base.specs.declared.order.Order.TheVariants.{RowMajor, ColumnMajor}

-- the other order
abbrev pub transposed : Order → Order
transposed RowMajor = ColumnMajor
transposed ColumnMajor = RowMajor

-- example
of_rows : transposed RowMajor ≡ ColumnMajor
of_rows = refl
