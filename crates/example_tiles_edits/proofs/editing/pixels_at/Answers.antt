-- One place more gives one pixel more.
use Rattle.std.proofs.Common.{◌≡◌, ℕ, ◌+◌, ◌<◌, Some, List, [], ◌∷◌, ◌++◌, length, get_or, map, take, sym, ap, ◌∙◌, arith}
use Rattle.std.proofs.lemmas.List.{map-append, map_more}
use Rattle.std.proofs.lemmas.Option.{slice_get-get_or}
use Rattle.std.specs.Prelude.{slice_get}
use Rattle.example_tiles_edits.proofs.editing.pixels_at.Goals as goal

one_more : (pixels places found : List ℕ) (i : ℕ) → i < length places → get_or places i 0 < length pixels
    → map Some found ≡ map (slice_get pixels) (take i places)
    → map Some (found ++ get_or pixels (get_or places i 0) 0 ∷ []) ≡ map (slice_get pixels) (take (i + 1) places)
one_more pixels places found i at below same =
    map-append Some found (get_or pixels (get_or places i 0) 0 ∷ [])
    ∙ ap (λ xs. xs ++ Some (get_or pixels (get_or places i 0) 0) ∷ []) same
    ∙ ap (λ o. map (slice_get pixels) (take i places) ++ o ∷ []) (sym (slice_get-get_or pixels (get_or places i 0) 0 below))
    ∙ sym (map_more (slice_get pixels) places i 0 at)

pub loop-place-preserved : goal.loop-place-preserved
loop-place-preserved c =
    let pushed = c.push_reserved.ensures in
    let before = c.loop-place.invariant in
    let i = c.loop-place.place-index in
    let there = c.loop-place-test.true in
    record {
      items = rw pushed.items
          (one_more c.args.pixels.now c.args.places.now c.loop-place.found.items i there (c.requires i 0 there) before.items);
      len = omega (arith, pushed.len, before.len);
      capacity = pushed.capacity ∙ before.capacity;
    }
