-- Rows that lie a stride apart: what the contracts of private functions speak of.
use Rattle.std.specs.Prelude.{◌≡◌, ℕ, ℤ, pos, negsuc, List, [], ◌∷◌, map, refl}
use Rattle.ndarray_layout.specs.declared.Row.{Row}
use Rattle.ndarray_layout.specs.declared.Slice.{Slice}
use Rattle.ndarray_layout.specs.declared.SliceInfoElem.{SliceInfoElem}
use Rattle.ndarray_layout.specs.declared.SliceInfoElem.TheVariants as elem
use Rattle.ndarray_layout.specs.Rows.{row_places, rows_places}
use Rattle.ndarray_layout.specs.Signed.{magnitude}
use Rattle.ndarray_layout.specs.View.{View, view_of}

-- the row of so many places from a place on
abbrev pub row_from : ℤ → ℕ → ℤ → Row
row_from step len start = record { start = magnitude start; stride = step; len = len }

-- as many rows as a count says, all of one length and each a stride after the one before it
abbrev pub even_rows : ℕ → ℤ → ℕ → ℕ → ℤ → List Row
even_rows start step len count stride = map (row_from step len) (row_places start stride count)

-- the element of a slice argument that a range is
abbrev pub range_elem : Slice → SliceInfoElem
range_elem range = elem.Slice range.start range.end range.step

-- a view of two axes, with its strides as the `usize` of the same bits
abbrev pub view_of_two : ℕ → ℕ × ℕ → ℕ × ℕ → View
view_of_two start lens strides = view_of start (lens.0 ∷ lens.1 ∷ []) (strides.0 ∷ strides.1 ∷ [])

-- examples
two_backwards : rows_places (even_rows 10 (pos 1) 3 2 (negsuc 9))
    ≡ pos 10 ∷ pos 11 ∷ pos 12 ∷ pos 0 ∷ pos 1 ∷ pos 2 ∷ []
two_backwards = refl

no_row : even_rows 10 (pos 1) 3 0 (negsuc 9) ≡ []
no_row = refl
