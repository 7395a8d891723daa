-- The pixels are those at the places that the edits leave, as many as the extent has.
use Rattle.std.proofs.Common.{◌∙◌, length, sym, ap, subst, arith}
use Rattle.ndarray_layout.specs.Size.{size}
use Rattle.ndarray_layout.specs.View.{LiesWithin}
use Rattle.example_tiles_edits.specs.Edits.{IsEdited}
use Rattle.example_tiles_edits.specs.Picture.{Image}
use Rattle.example_tiles_edits.proofs.Pixels.{is_edited, length_gathered, size_of}
use Rattle.example_tiles_edits.proofs.editing.edited.Goals as goal

pub pixels_at-requires : goal.pixels_at-requires
pixels_at-requires c =
    let within = subst (λ len. LiesWithin len c.whole_view-whole.result) (sym c.picture.invariant) c.whole_view-whole.ensures.in_bounds in
    rw (c.as_slice.ensures.value, c.as_slice-2.ensures.value)
    (c.in_ok-places.ensures.in_bounds (length c.picture.inside.pixels.items) (c.in_ok-extent.ensures.in_bounds _ within))

pub invariant_of-result : goal.invariant_of-result
invariant_of-result c =
    let places = c.in_ok-places.places in
    let gathered = rw (c.as_slice.ensures.value, c.as_slice-2.ensures.value) at c.in_ok-pixels.ensures in
    let count = length_gathered c.in_ok-pixels.pixels.items c.picture.inside.pixels.items places.items gathered in
    let leave = c.in_ok-extent.ensures.left.1 in
    let same = ap size leave.shape ∙ size_of c.in_ok-extent.extent in
    omega (arith, count, same, c.in_ok-places.ensures.len, places.ok.0)

pub returns-clause-edited : goal.returns-clause-edited
returns-clause-edited c =
    let gathered = rw (c.as_slice.ensures.value, c.as_slice-2.ensures.value) at c.in_ok-pixels.ensures in
    let leave = rw c.whole_view-whole.ensures.view at c.in_ok-extent.ensures.left.1 in
    let made : Image =
    record { extent = c.in_ok-extent.extent; white = c.picture.inside.white; pixels = c.in_ok-pixels.pixels.items } in
    subst (λ before. IsEdited c.args.edits.now before made) c.picture.view_is
    (is_edited c.in_ok-places.places.items leave c.in_ok-places.ensures.at_flat_index gathered)
