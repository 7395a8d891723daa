-- The rows of a slice that is ready to be moved: what the contracts of private functions speak of.
use Rattle.std.specs.Prelude.{◌≡◌, ℕ, ◌<◌, ◌≤◌, ℤ, pos, negsuc, ◌+ℤ◌, None, List, [], ◌∷◌, length, map, refl}
use Rattle.std.specs.List.{All}
use Rattle.ndarray_layout.specs.declared.Fit.TheVariants.{Strict}
use Rattle.ndarray_layout.specs.declared.Order.TheVariants.{RowMajor}
use Rattle.ndarray_layout.specs.declared.Row.{Row}
use Rattle.ndarray_layout.specs.declared.SliceInfoElem.{SliceInfoElem}
use Rattle.ndarray_layout.specs.Offset.{offset_of}
use Rattle.ndarray_layout.specs.Rows.{rows_places}
use Rattle.ndarray_layout.specs.Signed.{magnitude}
use Rattle.ndarray_layout.specs.Size.{limit, size}
use Rattle.ndarray_layout.specs.SliceFault.{argument_fault}
use Rattle.ndarray_layout.specs.SlicedLayout.{sliced_shape}
use Rattle.ndarray_layout.specs.SlicedView.{slice_of}
use Rattle.ndarray_layout.specs.View.{IsPlace, View, view_places}
use Rattle.nd_owned.specs.Moved.{Ready, moves}

-- a row at an offset from another one
abbrev pub moved_row : ℤ → Row → Row
moved_row offset row = record { start = magnitude (pos row.start +ℤ offset); stride = row.stride; len = row.len }

-- rows at an offset from others
abbrev pub moved_rows : ℤ → List Row → List Row
moved_rows offset rows = map (moved_row offset) rows

-- a row that begins at a place, before and after
abbrev pub CanMove : ℤ → Row → Type 0
CanMove offset row = (row.start ≤ limit) × IsPlace (pos row.start +ℤ offset)

-- how far the items of a slice lie from those of the slice moved by an index: any number where there are none
abbrev pub IsOffset : Ready → List ℕ → ℤ → Type 0
IsOffset ready index offset =
    0 < size (sliced_shape Strict ready.elems ready.view.shape) → offset ≡ offset_of ready.view.strides index

-- a slice fits a view, and rows have its places
pub record AreReady (view : View) (elems : List SliceInfoElem) (counts : List ℕ) (rows : List Row) (places_in_all : ℕ)
    : Type 0 where
  pub fits : argument_fault Strict view.shape elems ≡ None
  pub moves : counts ≡ moves elems view.shape
  pub places : rows_places rows ≡ view_places RowMajor (slice_of Strict elems view)
  pub some : All (λ row. 0 < row.len) rows
  pub count : places_in_all ≡ length (rows_places rows)

-- examples
one_on : rows_places (moved_rows (pos 1) (record { start = 3; stride = negsuc 0; len = 2 } ∷ [])) ≡ pos 4 ∷ pos 3 ∷ []
one_on = refl

back : rows_places (moved_rows (negsuc 1) (record { start = 3; stride = pos 5; len = 2 } ∷ [])) ≡ pos 1 ∷ pos 6 ∷ []
back = refl
