-- The pixels at the places so far.
use Rattle.std.proofs.Common.{◌≡◌, Some, map, take, length, vec_len, vec_capacity}
use Rattle.std.specs.Prelude.{slice_get}
use Rattle.example_tiles_edits.proofs.editing.pixels_at.Given as goal

abbrev pub invariant-loop-place : goal.invariant-loop-place
invariant-loop-place l = record {
  items : map Some l.found.items ≡ map (slice_get l.pixels) (take l.place-index l.places);
  len : vec_len l.found ≡ l.place-index;
  capacity : vec_capacity l.found ≡ length l.places;
}
