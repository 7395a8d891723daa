-- Once the function is called at the places that are left, it is at all; it may be called at them.
use Rattle.std.proofs.Common.{pos, length}
use Rattle.std.specs.Iterator.{CallableInFold}
use Rattle.ndarray_layout.specs.Folded.{HasFolded, gives}
use Rattle.ndarray_layout.proofs.strided.places_of_rows.PlacesOf.fold_rest.Given as goal

abbrev pub invariant-loop-row : goal.invariant-loop-row
invariant-loop-row g l = record {
  folded : (h : _) (result : _) → HasFolded pos g.F.FnMut (l.f, l.total) l.places (h, result)
      → HasFolded pos g.F.FnMut (l.initial.f, l.initial.total) l.initial.places (h, result);
  callable : CallableInFold (gives pos) g.F.FnMut l.places l.f l.total;
}

abbrev pub decreases-loop-row : goal.decreases-loop-row
decreases-loop-row g l = length l.places
