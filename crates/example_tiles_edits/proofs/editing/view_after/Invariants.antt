-- What the edits from here on leave of this view is what all leave of the first one, and the first misfit is among them.
use Rattle.std.proofs.Common.{◌≡◌, ℕ, drop}
use Rattle.ndarray_layout.specs.View.{LiesWithin, View}
use Rattle.example_tiles_edits.specs.declared.picture.Extent.{Extent}
use Rattle.example_tiles_edits.specs.Edits.{first_misfit}
use Rattle.example_tiles_edits.specs.Views.{Leave, shape_of}
use Rattle.example_tiles_edits.proofs.Misfits.{from_first}
use Rattle.example_tiles_edits.proofs.editing.view_after.Given as goal

abbrev pub invariant-loop-at : goal.invariant-loop-at
invariant-loop-at l = record {
  misfit : from_first l.at (first_misfit (drop l.at l.edits) l.extent) ≡ first_misfit l.edits l.initial.extent;
  shape : l.view.shape ≡ shape_of l.extent;
  goes_on : (left : Extent) (after : View) → Leave (drop l.at l.edits) l.extent l.view left after
      → Leave l.edits l.initial.extent l.initial.view left after;
  in_bounds : (len : ℕ) → LiesWithin len l.initial.view → LiesWithin len l.view;
}
