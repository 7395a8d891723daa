-- The pixels at the places of the view that edits leave.
use Rattle.std.proofs.Common.{◌≡◌, ℕ, ◌<◌, ℤ, pos, Option, Some, None, List, length, map, refl, sym, ap, ◌∙◌, subst, zero-add, arith}
use Rattle.std.specs.Option.{option_map}
use Rattle.std.specs.Prelude.{slice_get}
use Rattle.std.proofs.lemmas.Bool.{lt-ltb}
use Rattle.std.proofs.lemmas.List.{length-map}
use Rattle.std.proofs.lemmas.Option.{slice_get-map}
use Rattle.ndarray_layout.specs.FlatIndex.{index_of_flat, flat_index}
use Rattle.ndarray_layout.specs.Size.{size}
use Rattle.ndarray_layout.specs.View.{View, place_at}
use Rattle.ndarray_layout.proofs.Laws.FlatIndex.{index_of_flat-flat_index, flat_index-lt-size}
use Rattle.ndarray_layout.proofs.Laws.Strides.{offset_of-default_strides}
use Rattle.example_tiles_edits.specs.declared.edit.Edit.{Edit}
use Rattle.example_tiles_edits.specs.declared.picture.Extent.{Extent}
use Rattle.example_tiles_edits.specs.Edits.{IsEdited, source_of}
use Rattle.example_tiles_edits.specs.Picture.{Image, IsWithin, Position, pixel_at, pixel_count, place_in}
use Rattle.example_tiles_edits.specs.Views.{Leave, index_of, shape_of, whole_view}
use Rattle.example_tiles_edits.proofs.Leaving.{is_index_of}

-- ---- a position, its pixel and its place
pixel_within : (image : Image) (at : Position) → IsWithin image.extent at
    → pixel_at image at ≡ slice_get image.pixels (place_in image.extent at)
pixel_within image at within =
    rw (lt-ltb at.row image.extent.rows within.row_below, lt-ltb at.column image.extent.columns within.column_below) refl

flat_index_of : (extent : Extent) (at : Position) → flat_index (shape_of extent) (index_of at) ≡ place_in extent at
flat_index_of extent at = omega arith

place_of_whole : (extent : Extent) (at : Position) → IsWithin extent at
    → place_at (whole_view extent) (index_of at) ≡ pos (place_in extent at)
place_of_whole extent at within =
    rw (offset_of-default_strides (shape_of extent) (index_of at) (is_index_of extent at within))
    (ap pos (zero-add _ ∙ flat_index_of extent at))

pub size_of : (extent : Extent) → size (shape_of extent) ≡ pixel_count extent
size_of extent = omega arith

-- ---- the place at a flat index
record IsFlat (view : View) (at : Position) (place : ℕ) : Type 0 where
  below : place < size view.shape
  index : index_of_flat view.shape place ≡ index_of at

flat_of : (left : Extent) (view : View) (at : Position) → view.shape ≡ shape_of left → IsWithin left at
    → IsFlat view at (place_in left at)
flat_of left view at shape within =
    let flat = flat_index_of left at in
    let is = is_index_of left at within in
    record {
      below = rw shape (subst (λ r. r < size (shape_of left)) flat (flat_index-lt-size (shape_of left) (index_of at) is));
      index = rw shape
          (ap (index_of_flat (shape_of left)) (sym flat) ∙ index_of_flat-flat_index (shape_of left) (index_of at) is);
    }

-- ---- pixels at places
some_number : (o : Option ℕ) (n : ℕ) → option_map pos o ≡ Some (pos n) → o ≡ Some n
some_number None n e = absurd (cc)
some_number (Some m) n e = cc

of_some : (o x : Option ℕ) → option_map Some o ≡ Some x → o ≡ x
of_some None x e = absurd (cc)
of_some (Some n) x e = cc

read_at : (pixels stored places : List ℕ) (r q : ℕ) → map Some pixels ≡ map (slice_get stored) places → slice_get places r ≡ Some q
    → slice_get pixels r ≡ slice_get stored q
read_at pixels stored places r q gathered at =
    of_some (slice_get pixels r) (slice_get stored q)
    (sym (slice_get-map Some pixels r) ∙ ap (λ (xs : List (Option ℕ)). slice_get xs r) gathered ∙ slice_get-map (slice_get stored) places r
    ∙ ap (option_map (slice_get stored)) at)

pub length_gathered : (pixels stored places : List ℕ) → map Some pixels ≡ map (slice_get stored) places → length pixels ≡ length places
length_gathered pixels stored places gathered = sym (length-map pixels Some) ∙ ap length gathered ∙ length-map places (slice_get stored)

-- places are those of a view, one at each flat index
abbrev pub AreAtFlatIndex : View → List ℕ → Type 0
AreAtFlatIndex view places = (r : ℕ) → r < size view.shape
    → option_map pos (slice_get places r) ≡ Some (place_at view (index_of_flat view.shape r))

-- the pixels at the places of the view that edits leave of all pixels are those of an edited picture
pub is_edited : {edits : List Edit} {before : Image} {left : Extent} {view : View} {pixels : List ℕ} (places : List ℕ)
    → Leave edits before.extent (whole_view before.extent) left view → AreAtFlatIndex view places
    → map Some pixels ≡ map (slice_get before.pixels) places
    → IsEdited edits before (record { extent = left; white = before.white; pixels = pixels })
is_edited {edits} {before} {left} {view} {pixels} places leave at_flat_index gathered = record {
  extent = leave.is_left;
  white = refl;
  pixels = λ at within. (
      let from = source_of edits before.extent at in
      let there = leave.within at within in
      let flat = flat_of left view at leave.shape within in
      let place : slice_get places (place_in left at) ≡ Some (place_in before.extent from) =
      some_number (slice_get places (place_in left at)) (place_in before.extent from)
      (at_flat_index _ flat.below
      ∙ ap (λ (z : ℤ). Some z) (ap (place_at view) flat.index ∙ leave.places at within ∙ place_of_whole before.extent from there)) in
      pixel_within (record { extent = left; white = before.white; pixels = pixels }) at within
      ∙ read_at pixels before.pixels places _ _ gathered place
      ∙ sym (pixel_within before from there));
}
