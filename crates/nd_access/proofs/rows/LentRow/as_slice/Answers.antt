-- A contiguous row is a stretch of the items, each of which has a mark.
use Rattle.std.proofs.Common.{map, Some, sym, refl, ap, ◌∙◌}
use Rattle.nd_access.proofs.Laws.Read.{contiguous_read}
use Rattle.nd_access.proofs.Laws.RowsLent.{contiguous_items}
use Rattle.nd_access.proofs.rows.LentRow.as_slice.Goals as goal

pub slice-requires : goal.slice-requires
slice-requires g c =
    contiguous_read c.self.inside.row c.self.invariant (sym c.is_contiguous.ensures ∙ c.if-not-is_contiguous.false)

pub returns-clause-items : goal.returns-clause-items
returns-clause-items g c =
    rw (← c.self.view_is)
    (ap (map Some) c.slice.ensures.all.0
    ∙ contiguous_items c.self.inside.reader.items c.self.inside.row c.self.invariant.has
    (sym c.is_contiguous.ensures ∙ c.if-not-is_contiguous.false) refl)
