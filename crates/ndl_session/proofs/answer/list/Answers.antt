-- The text is the three lines, one after another.
use Rattle.std.proofs.Common.{codes, decimal, refl, rules, ◌∙◌}
use Rattle.std.specs.Fmt.{signed_decimal}
use Rattle.std.proofs.lemmas.Iterator.{YieldsList-from_map, YieldsList-from_slice}
use Rattle.std.proofs.lemmas.Iterator.Consumers.{YieldsList-at, YieldsList-from_copied, YieldsList-from_first}
use Rattle.ndarray_layout.specs.Axes.{axes_left}
use Rattle.ndl_session.proofs.Listing.{line_of_all, listing_text}
use Rattle.ndl_session.proofs.answer.list.Goals as goal

pub returns : goal.returns
returns c = record {
  text = listing_text c.in_ok-places.places.items c.axes.ensures.is_view c.in_ok-places.ensures.items
      c.new-text.ensures.items
      (line_of_all decimal (codes "shape") (codes ",") _ _
      (YieldsList-from_map _ (λ axis. axis.len)
      (YieldsList-at c.map-lens.ensures.source (YieldsList-from_first (λ axis. axis) axes_left _ c.axes.ensures.list))
      c.map-lens.ensures.closure (λ x r q k. search rules))
      c.in_ok-push_line.ensures.line)
      (line_of_all signed_decimal (codes "strides") (codes ",") _ _
      (YieldsList-from_map _ (λ axis. axis.stride)
      (YieldsList-at c.map-strides.ensures.source (YieldsList-from_first (λ axis. axis) axes_left _ c.axes-2.ensures.list))
      c.map-strides.ensures.closure (λ x r q k. search rules))
      c.in_ok-push_line-2.ensures.line)
      (line_of_all decimal (codes "places") (codes " ") _ _
      (YieldsList-from_copied (YieldsList-at c.copied.ensures.source
      (YieldsList-from_slice _ (c.iter.ensures.rest ∙ c.deref.ensures.value))))
      c.in_ok-push_places.ensures);
  status = refl;
}
