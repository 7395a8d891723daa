-- All items of the row are left, and come from its front on, in order.
use Rattle.std.proofs.Common.{List, Option, Some, ap, length, ◌-◌, ◌∙◌, arith}
use Rattle.std.proofs.lemmas.List.{take_all}
use Rattle.std.specs.Borrow.{Bor}
use Rattle.std.specs.Iterator.{YieldsFirstBy}
use Rattle.std.proofs.iter.runs.Sources.{from_front}
use Rattle.nd_access.specs.LentRow.{row_items, row_of}
use Rattle.nd_access.proofs.Laws.RowsLent.{count_of_items}
use Rattle.nd_access.proofs.row_items.LentRowIntoIterator.into_iter.Goals as goal

pub returns : goal.returns
returns g c =
    let left = λ (items : List (Option g.row.T.Denot)). items in
    let shown = λ (item : Bor g.row.T.Denot). Some item.now in
    let items = row_items (row_of c.self.inside.reader.items c.self.inside.row) in
    record {
      into_iter_gives = (
        take_all (c.self.inside.row.len - 0) items (omega (arith, count_of_items c.self.inside.reader.items c.self.inside.row))
            ∙ ap row_items c.self.view_is,
        from_front (YieldsFirstBy shown left) shown left (λ s t h. ap length h.0) (λ s x t h. h),
      );
    }
