-- Each place of a part has a mark, and an item: so a part is read as an array is.
use Rattle.std.proofs.Common.{◌≡◌, ℕ, ℤ, pos, negsuc, Bool, List, true, length, subst, sym}
use Rattle.std.proofs.lemmas.Bool.{false≢true}
use Rattle.ndarray_layout.specs.Bounds.{IsInBounds}
use Rattle.ndarray_layout.specs.View.{View, place_at}
use Rattle.nd_access.specs.Part.{has_mark, IsPart}
use Rattle.nd_access.specs.Read.{IsRead}
use Rattle.nd_access.proofs.Laws.SliceOfPart.{mark_in_bounds}

marked_in_bounds : (marks : List Bool) (place : ℤ) → has_mark marks place ≡ true → IsInBounds (length marks) place
marked_in_bounds marks (pos place) h = mark_in_bounds marks place h
marked_in_bounds marks (negsuc below) h = absurd (false≢true h)

pub part_read : (marks : List Bool) (view : View) (count : ℕ) → count ≡ length marks → IsPart marks view → IsRead marks count view
part_read marks view count many part = record {
  has = record {
    is_view = part.is_view;
    within = λ index here. subst (λ (n : ℕ). IsInBounds n (place_at view index)) (sym many)
        (marked_in_bounds marks (place_at view index) (part.marked index here));
  };
  marked = part.marked;
}
