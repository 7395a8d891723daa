-- What the numbers mean by which C names an order, a mode and a fit.
use Rattle.std.specs.Prelude.{◌≡◌, ℤ, pos, negsuc, Bool, true, false, ◌||◌, if◌then◌else◌, refl}
use Rattle.std.specs.Ordering.{int_eq}
use Rattle.ndarray_layout.specs.declared.Order.{Order}
use Rattle.ndarray_layout.specs.declared.Order.TheVariants.{RowMajor, ColumnMajor}
use Rattle.ndarray_layout.specs.declared.CanIndexCheckMode.{CanIndexCheckMode}
use Rattle.ndarray_layout.specs.declared.CanIndexCheckMode.TheVariants.{OwnedMutable, ReadOnly}
use Rattle.ndarray_layout.specs.declared.Fit.{Fit}
use Rattle.ndarray_layout.specs.declared.Fit.TheVariants.{Strict, Clamp}

-- a number names one of two choices
abbrev pub is_choice : ℤ → Bool
is_choice code = int_eq code (pos 0) || int_eq code (pos 1)

-- the order of a number: row-major order for 0, else column-major order
abbrev pub order_named : ℤ → Order
order_named code = if int_eq code (pos 0) then RowMajor else ColumnMajor

-- the mode of a number: only read for 0, else owned
abbrev pub mode_named : ℤ → CanIndexCheckMode
mode_named code = if int_eq code (pos 0) then ReadOnly else OwnedMutable

-- the fit of a number: strict for 0, else clamped
abbrev pub fit_named : ℤ → Fit
fit_named code = if int_eq code (pos 0) then Strict else Clamp

-- examples
column_major : order_named (pos 1) ≡ ColumnMajor
column_major = refl

owned : mode_named (pos 1) ≡ OwnedMutable
owned = refl

strict : fit_named (pos 0) ≡ Strict
strict = refl

a_choice : is_choice (pos 1) ≡ true
a_choice = refl

no_third_choice : is_choice (pos 2) ≡ false
no_third_choice = refl

none_below_zero : is_choice (negsuc 0) ≡ false
none_below_zero = refl
