-- What a picture is: its extent, and a pixel at each position of it.
use Rattle.std.specs.Prelude.{◌≡◌, ℕ, ◌+◌, ◌*◌, ◌<◌, Bool, true, false, ◌&&◌, nat_lt, if◌then◌else◌, Option, Some, None}
use Rattle.std.specs.Prelude.{List, [], ◌∷◌, slice_get, refl}
use Rattle.std.proofs.Common.{arith}
use Rattle.example_tiles_edits.specs.declared.picture.Extent.{Extent}

-- a picture by what it holds: its extent, the value of white, and its pixels row by row
pub record Image : Type 0 where
  pub extent : Extent
  pub white : ℕ
  pub pixels : List ℕ

-- how many pixels a picture of an extent has
abbrev pub pixel_count : Extent → ℕ
pixel_count extent = extent.rows * extent.columns

-- a row and a column, each counted from 0
pub record Position : Type 0 where
  pub row : ℕ
  pub column : ℕ

-- a position is one of an extent
pub record IsWithin (extent : Extent) (at : Position) : Type 0 where
  pub row_below : at.row < extent.rows
  pub column_below : at.column < extent.columns

-- whether a position is one of an extent
abbrev pub is_within : Extent → Position → Bool
is_within extent at = nat_lt at.row extent.rows && nat_lt at.column extent.columns

-- the place of a position among the pixels, row by row
abbrev pub place_in : Extent → Position → ℕ
place_in extent at = at.row * extent.columns + at.column

-- the pixel at a position of the extent
abbrev pub pixel_at : Image → Position → Option ℕ
pixel_at image at = if is_within image.extent at then slice_get image.pixels (place_in image.extent at) else None

-- examples
abbrev two_by_three : Image
two_by_three = record { extent = record { rows = 2; columns = 3 }; white = 9; pixels = 1 ∷ 2 ∷ 3 ∷ 4 ∷ 5 ∷ 6 ∷ [] }

six_pixels : pixel_count two_by_three.extent ≡ 6
six_pixels = refl

first_of_second_row : pixel_at two_by_three (record { row = 1; column = 0 }) ≡ Some 4
first_of_second_row = refl

second_of_second_row : place_in two_by_three.extent (record { row = 1; column = 1 }) ≡ 4
second_of_second_row = refl

past_the_last_column : pixel_at two_by_three (record { row = 0; column = 3 }) ≡ None
past_the_last_column = refl

in_the_last_corner : is_within two_by_three.extent (record { row = 1; column = 2 }) ≡ true
in_the_last_corner = refl

past_both : is_within two_by_three.extent (record { row = 2; column = 3 }) ≡ false
past_both = refl

below_the_last_row : IsWithin two_by_three.extent (record { row = 2; column = 0 }) → ⊥
below_the_last_row within = absurd (omega (arith, within.row_below))
