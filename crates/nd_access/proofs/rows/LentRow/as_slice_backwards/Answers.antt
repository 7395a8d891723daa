-- Such a row is a stretch of the items, which ends with its first one.
use Rattle.std.proofs.Common.{◌≡◌, ◌+◌, ◌-◌, ◌<◌, ◌^◌, negsuc, map, reverse, Some, refl, ap, ◌∙◌, arith}
use Rattle.std.proofs.lemmas.Int.{ints}
use Rattle.nd_access.proofs.Backwards.{backwards_items, lies_backwards}
use Rattle.nd_access.proofs.Laws.RowItems.{begins}
use Rattle.nd_access.proofs.Laws.Read.{backwards_read}
use Rattle.nd_access.proofs.rows.LentRow.as_slice_backwards.Goals as goal

pub overflow_add-row : goal.overflow_add-row
overflow_add-row g c =
    let row = c.self.inside.row in
    let has = c.self.invariant.has in
    let small : row.start < 2 ^ 63 = begins (2 ^ 63) row.start row.stride row.len has.fit has.some in
    omega (arith, small)

pub overflow_sub-row : goal.overflow_sub-row
overflow_sub-row g c =
    let step : c.self.inside.row.stride ≡ negsuc 0 = omega (arith, ints, c.if-row.false) in
    (lies_backwards c.self.inside.row c.self.invariant.has step).last

pub slice-requires : goal.slice-requires
slice-requires g c =
    let step : c.self.inside.row.stride ≡ negsuc 0 = omega (arith, ints, c.if-row.false) in
    let lies = lies_backwards c.self.inside.row c.self.invariant.has step in
    backwards_read c.self.inside.row c.self.invariant step lies.last

pub returns-clause-items : goal.returns-clause-items
returns-clause-items g c =
    let row = c.self.inside.row in
    let step : row.stride ≡ negsuc 0 = omega (arith, ints, c.if-row.false) in
    let lies = lies_backwards row c.self.invariant.has step in
    rw (← c.self.view_is)
    (ap (λ items. reverse (map Some items)) c.slice.ensures.all.0
    ∙ backwards_items c.self.inside.reader.items row (row.start + 1 - row.len) c.self.invariant.has step refl (omega (arith, lies.last)))
