-- A row that has its items is an array that has them.
use Rattle.std.proofs.Common.{length, subst, sym}
use Rattle.nd_access.specs.Read.{IsRead}
use Rattle.nd_access.proofs.Laws.Read.{row_read}
use Rattle.nd_access.proofs.Laws.RowArrays.{row_is_view}
use Rattle.nd_lent.proofs.array_view.rows.LentRowIntoArray.into_array.Goals as goal

pub layout-requires : goal.layout-requires
layout-requires g c = row_is_view c.self.inside.row c.self.invariant.has

pub invariant_of-result : goal.invariant_of-result
invariant_of-result g c =
    let reader = c.self.inside.reader in
    subst (IsRead reader.marks (length reader.items)) (sym c.layout.ensures.view) (row_read c.self.inside.row c.self.invariant)
