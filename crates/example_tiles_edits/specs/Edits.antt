-- What edits make of a picture: whether they fit, what extent they leave, and where in the source each pixel of the result comes from.
use Rattle.std.specs.Prelude.{◌≡◌, ℕ, zero, suc, ◌+◌, ◌-◌, ◌*◌, ◌<◌, Bool, true, false, ◌&&◌, nat_eq, nat_le, nat_lt}
use Rattle.std.specs.Prelude.{if◌then◌else◌, Option, Some, None, unwrap_or, List, [], ◌∷◌, refl}
use Rattle.std.proofs.Common.{ap, eq-eqb, lit<}
use Rattle.std.proofs.Math.Nat.{not-suc-le-zero, le_of_suc-le-suc}
use Rattle.std.proofs.lemmas.Bool.{both_ways}
use Rattle.std.specs.Int.{div_ceil}
use Rattle.std.specs.Option.{option_map}
use Rattle.example_tiles_edits.specs.declared.picture.Extent.{Extent}
use Rattle.example_tiles_edits.specs.Picture.{Image, IsWithin, Position, pixel_at}
use Rattle.example_tiles_edits.specs.declared.edit.Edit.{Edit}
use Rattle.example_tiles_edits.specs.declared.edit.Edit.TheVariants.{Crop, FlipRows, FlipColumns, Every}
use Rattle.example_tiles_edits.specs.declared.edit.Misfit.{Misfit}
use Rattle.example_tiles_edits.specs.declared.edit.Span.{Span}

-- no bound of a span is past so many rows or columns
abbrev pub is_span : ℕ → Span → Bool
is_span count span = nat_le span.start count && nat_le span.end count

-- whether an edit fits a picture of an extent
abbrev pub fits : Extent → Edit → Bool
fits extent (Crop rows columns) = is_span extent.rows rows && is_span extent.columns columns
fits extent FlipRows = true
fits extent FlipColumns = true
fits extent (Every count) = nat_lt 0 count

-- the extent that an edit which fits leaves
abbrev pub extent_after : Extent → Edit → Extent
extent_after extent (Crop rows columns) = record { rows = rows.end - rows.start; columns = columns.end - columns.start }
extent_after extent FlipRows = extent
extent_after extent FlipColumns = extent
extent_after extent (Every count) = record { rows = div_ceil extent.rows count; columns = div_ceil extent.columns count }

-- where in a picture of an extent the pixel of a position comes from that an edit leaves
abbrev pub source : Extent → Edit → Position → Position
source extent (Crop rows columns) at = record { row = rows.start + at.row; column = columns.start + at.column }
source extent FlipRows at = record { row = extent.rows - 1 - at.row; column = at.column }
source extent FlipColumns at = record { row = at.row; column = extent.columns - 1 - at.column }
source extent (Every count) at = record { row = at.row * count; column = at.column * count }

-- a misfit among the edits after one, as it is counted with that one
abbrev pub one_later : Misfit → Misfit
one_later misfit = record { number = misfit.number + 1; edit = misfit.edit; extent = misfit.extent }

-- the first edit that doesn't fit what those before it leave, counted from 1
abbrev pub first_misfit : List Edit → Extent → Option Misfit
first_misfit [] extent = None
first_misfit (edit ∷ edits) extent =
    if fits extent edit then option_map one_later (first_misfit edits (extent_after extent edit))
    else Some (record { number = 1; edit = edit; extent = extent })

-- the extent that edits leave, one after another
abbrev pub extent_of : List Edit → Extent → Extent
extent_of [] extent = extent
extent_of (edit ∷ edits) extent = extent_of edits (extent_after extent edit)

-- where the pixel of a position comes from that edits leave
abbrev pub source_of : List Edit → Extent → Position → Position
source_of [] extent at = at
source_of (edit ∷ edits) extent at = source extent edit (source_of edits (extent_after extent edit) at)

-- a picture that edits make of another: its extent is the one that they leave, white stays white, and each pixel is that
-- of the position in the source where the edits say that it comes from
pub record IsEdited (edits : List Edit) (before after : Image) : Type 0 where
  pub extent : after.extent ≡ extent_of edits before.extent
  pub white : after.white ≡ before.white
  pub pixels : (at : Position) → IsWithin after.extent at → pixel_at after at ≡ pixel_at before (source_of edits before.extent at)

-- examples
abbrev four_by_six : Extent
four_by_six = record { rows = 4; columns = 6 }

abbrev span : ℕ → ℕ → Span
span start end = record { start = start; end = end }

past_the_bound : is_span 4 (span 1 5) ≡ false
past_the_bound = refl

crop_fits : fits four_by_six (Crop (span 1 4) (span 6 6)) ≡ true
crop_fits = refl

every_none : fits four_by_six (Every 0) ≡ false
every_none = refl

every_fourth : extent_after four_by_six (Every 4) ≡ record { rows = 1; columns = 2 }
every_fourth = refl

end_before_start : extent_after four_by_six (Crop (span 3 1) (span 0 2)) ≡ record { rows = 0; columns = 2 }
end_before_start = refl

last_row_first : source four_by_six FlipRows (record { row = 0; column = 2 }) ≡ record { row = 3; column = 2 }
last_row_first = refl

last_column_first : source four_by_six FlipColumns (record { row = 2; column = 0 }) ≡ record { row = 2; column = 5 }
last_column_first = refl

third_of_every_second : source four_by_six (Every 2) (record { row = 1; column = 2 }) ≡ record { row = 2; column = 4 }
third_of_every_second = refl

of_a_flipped_crop : source_of (Crop (span 1 4) (span 2 4) ∷ FlipColumns ∷ []) four_by_six (record { row = 0; column = 0 })
    ≡ record { row = 1; column = 3 }
of_a_flipped_crop = refl

left_of_both : extent_of (Crop (span 1 4) (span 2 4) ∷ Every 2 ∷ []) four_by_six ≡ record { rows = 2; columns = 1 }
left_of_both = refl

abbrev too_wide : Misfit
too_wide = record { number = 1; edit = Crop (span 0 0) (span 0 3); extent = record { rows = 3; columns = 2 } }

as_the_second : one_later too_wide ≡ record too_wide { number = 2 }
as_the_second = refl

second_misfit : first_misfit (Crop (span 1 4) (span 2 4) ∷ Crop (span 0 0) (span 0 3) ∷ Every 0 ∷ []) four_by_six
    ≡ Some (record too_wide { number = 2 })
second_misfit = refl

abbrev pair : ℕ → ℕ → Image
pair left right = record { extent = record { rows = 1; columns = 2 }; white = 9; pixels = left ∷ right ∷ [] }

swapped : (row column : ℕ) → row < 1 → column < 2
    → pixel_at (pair 4 7) (record { row = row; column = column }) ≡ pixel_at (pair 7 4) (record { row = row; column = 1 - column })
swapped zero zero below left = refl
swapped zero (suc zero) below left = refl
swapped zero (suc (suc column)) below left = absurd (not-suc-le-zero (le_of_suc-le-suc (le_of_suc-le-suc left)))
swapped (suc row) column below left = absurd (not-suc-le-zero (le_of_suc-le-suc below))

pair_flipped : IsEdited (FlipColumns ∷ []) (pair 7 4) (pair 4 7)
pair_flipped = record {
  extent = refl;
  white = refl;
  pixels = λ at within. swapped at.row at.column within.row_below within.column_below;
}

pair_as_it_was : IsEdited (FlipColumns ∷ []) (pair 7 4) (pair 7 4) → ⊥
pair_as_it_was is =
    let first = is.pixels (record { row = 0; column = 0 }) (record { row_below = lit< tt; column_below = lit< tt }) in
    both_ways (nat_eq 7 4) refl (eq-eqb 7 4 (ap (λ pixel. unwrap_or pixel 0) first))

pair_cut_off : IsEdited [] (pair 7 4) (record { extent = record { rows = 1; columns = 1 }; white = 9; pixels = 7 ∷ [] }) → ⊥
pair_cut_off is = both_ways (nat_eq 1 2) refl (eq-eqb 1 2 (ap (λ (extent : Extent). extent.columns) is.extent))
