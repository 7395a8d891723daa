-- A row of items as an array of one axis.
use Rattle.std.specs.Prelude.{List}
use Rattle.ndarray_layout.specs.declared.Row.{Row}
use Rattle.ndarray_layout.specs.Rows.{row_view}
use Rattle.nd_access.specs.Items.{ArrayValue}

-- a row of these items
abbrev pub row_array : {T : Type 0} → List T → Row → ArrayValue T
row_array items row = record { items = items; view = row_view row }
