-- All items are left, and come from the front on, in order.
use Rattle.std.proofs.Common.{List, Option, Some, ap, length, map, ◌∙◌}
use Rattle.std.specs.Borrow.{Bor}
use Rattle.std.specs.Iterator.{YieldsFirstBy}
use Rattle.std.proofs.iter.runs.Sources.{from_front}
use Rattle.nd_access.specs.Items.{item_at_place}
use Rattle.nd_access.proofs.Laws.Read.{places_read}
use Rattle.nd_lent.proofs.array_view.items.ArrayViewIntoIterator.into_iter.Goals as goal

pub of_reader-requires : goal.of_reader-requires
of_reader-requires g c = places_read c.self.inside.view c.self.invariant c.into_places.ensures.items

pub returns : goal.returns
returns g c =
    let left = λ (items : List (Option g.row.T.Denot)). items in
    let shown = λ (item : Bor g.row.T.Denot). Some item.now in
    record {
      into_iter_gives = (
        rw (← c.self.view_is) (c.of_reader.ensures ∙ ap (map (item_at_place c.self.inside.reader.items)) c.into_places.ensures.items),
        from_front (YieldsFirstBy shown left) shown left (λ s t h. ap length h.0) (λ s x t h. h),
      );
    }
