-- Edits as slices of a view of the pixels.
use Rattle.std.specs.Prelude.{◌≡◌, ℕ, ℤ, pos, negsuc, Some, None, List, [], ◌∷◌, map, nat_eq, slice_index, refl}
use Rattle.std.proofs.Common.{ap, eq-eqb}
use Rattle.std.proofs.lemmas.Bool.{both_ways}
use Rattle.ndarray_layout.specs.declared.SliceInfoElem.{SliceInfoElem}
use Rattle.ndarray_layout.specs.declared.SliceInfoElem.TheVariants.{Slice}
use Rattle.ndarray_layout.specs.Strides.{default_strides}
use Rattle.ndarray_layout.specs.View.{View, place_at}
use Rattle.example_tiles_edits.specs.declared.picture.Extent.{Extent}
use Rattle.example_tiles_edits.specs.Picture.{IsWithin, Position}
use Rattle.example_tiles_edits.specs.declared.edit.Edit.{Edit}
use Rattle.example_tiles_edits.specs.declared.edit.Edit.TheVariants.{Crop, FlipRows, FlipColumns, Every}
use Rattle.example_tiles_edits.specs.declared.edit.Span.{Span}
use Rattle.example_tiles_edits.specs.Edits.{extent_of, source_of}

-- the coordinates of a span
abbrev pub of_span : Span → SliceInfoElem
of_span span = Slice (pos span.start) (Some (pos span.end)) (pos 1)

-- all coordinates of an axis, by a step
abbrev pub by_step : ℤ → SliceInfoElem
by_step step = Slice (pos 0) None step

-- what an edit picks of the rows and of the columns
abbrev pub elements_of : Edit → List SliceInfoElem
elements_of (Crop rows columns) = of_span rows ∷ of_span columns ∷ []
elements_of FlipRows = by_step (negsuc 0) ∷ by_step (pos 1) ∷ []
elements_of FlipColumns = by_step (pos 1) ∷ by_step (negsuc 0) ∷ []
elements_of (Every count) = by_step (pos count) ∷ by_step (pos count) ∷ []

-- an extent as the shape of the pixels
abbrev pub shape_of : Extent → List ℕ
shape_of extent = extent.rows ∷ extent.columns ∷ []

-- a position as an index of that shape
abbrev pub index_of : Position → List ℕ
index_of at = at.row ∷ at.column ∷ []

-- the view of all pixels of an extent, row by row
abbrev pub whole_view : Extent → View
whole_view extent = record { start = 0; shape = shape_of extent; strides = map pos (default_strides (shape_of extent)) }

-- edits of a view of an extent leave another extent and another view: each position of it has the place of its source
pub record Leave (edits : List Edit) (extent : Extent) (view : View) (left : Extent) (after : View) : Type 0 where
  pub is_left : left ≡ extent_of edits extent
  pub shape : after.shape ≡ shape_of left
  pub within : (at : Position) → IsWithin left at → IsWithin extent (source_of edits extent at)
  pub places : (at : Position) → IsWithin left at → place_at after (index_of at) ≡ place_at view (index_of (source_of edits extent at))

-- examples
some_rows : of_span (record { start = 2; end = 6 }) ≡ Slice (pos 2) (Some (pos 6)) (pos 1)
some_rows = refl

every_third : elements_of (Every 3) ≡ by_step (pos 3) ∷ by_step (pos 3) ∷ []
every_third = refl

abbrev two_by_three : Extent
two_by_three = record { rows = 2; columns = 3 }

rows_of_three : (whole_view two_by_three).strides ≡ pos 3 ∷ pos 1 ∷ []
rows_of_three = refl

second_row : place_at (whole_view two_by_three) (index_of (record { row = 1; column = 2 })) ≡ pos 5
second_row = refl

no_edits : Leave [] two_by_three (whole_view two_by_three) two_by_three (whole_view two_by_three)
no_edits = record { is_left = refl; shape = refl; within = λ at within. within; places = λ at within. refl }

other_shape : Leave [] two_by_three (whole_view two_by_three) two_by_three (whole_view (record { rows = 3; columns = 2 })) → ⊥
other_shape leave = both_ways (nat_eq 3 2) refl (eq-eqb 3 2 (ap (λ shape. slice_index shape 0) leave.shape))
