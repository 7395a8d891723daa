-- Each index has the pixel of its mirrored one, but for those that are still to be swapped.
use Rattle.std.proofs.Common.{◌≡◌}
use Rattle.ndarray_layout.specs.InvertedView.{invert_source}
use Rattle.nd_lent.proofs.Laws.FlippedItems.{IsFlippedBut}
use Rattle.nd_owned.specs.Lent.{access_of, array_of}
use Rattle.example_callers.proofs.flips.swap_rows.Given as goal

abbrev pub invariant-loop-row : goal.invariant-loop-row
invariant-loop-row l = record {
  flipped : IsFlippedBut (invert_source 0 (array_of l.fn.picture).view.shape) l.row-iterator (array_of l.fn.picture) (array_of l.picture);
  same_right : access_of l.picture ≡ access_of l.fn.picture;
}
