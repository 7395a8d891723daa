-- The slice has the items of the row, backwards.
use Rattle.std.proofs.Common.{◌≡◌, Some, List, ap, length, map, reverse, subst, arith}
use Rattle.std.specs.Fn.{CalledAt}
use Rattle.std.proofs.lemmas.List.{length-map, length-reverse}
use Rattle.nd_access.specs.LentRow.{RowValue, row_items}
use Rattle.nd_access.specs.Pushed.{HasPushed}
use Rattle.nd_access.proofs.Laws.Pushed.{length-row_items}
use Rattle.nd_loops.proofs.copying.push_turned.Goals as goal

long : {X : Type 0} (slice : List X) (row : RowValue X) → reverse (map Some slice) ≡ row_items row → length slice ≡ row.row.len
long slice row items =
    omega (arith, ap length items, length-reverse (map Some slice), length-map slice Some, length-row_items row)

pub push_backwards-requires-clause-room : goal.push_backwards-requires-clause-room
push_backwards-requires-clause-room g c =
    omega (arith, c.requires.room, long c.in-Some.items.now c.args.row.now c.in-Some.ensures.items)

pub returns-in-Some-clause-pushed : goal.returns-in-Some-clause-pushed
returns-in-Some-clause-pushed g c =
    subst (λ given. HasPushed (λ p x y q. CalledAt g.F.FnMut p x y q) c.args.f given c.args.made.items c.push_backwards.result.0.items
    c.push_backwards.result.1) c.in-Some.ensures.items c.push_backwards.ensures.pushed

pub returns-in-Some-clause-len : goal.returns-in-Some-clause-len
returns-in-Some-clause-len g c =
    omega (arith, c.push_backwards.ensures.len, long c.in-Some.items.now c.args.row.now c.in-Some.ensures.items)

-- by a stride that is known, the row is the same one
pub push_apart-requires-clause-callable : goal.push_apart-requires-clause-callable
push_apart-requires-clause-callable g c = rw c.in-Some-lent_by_stride.ensures c.requires.callable

pub returns-in-Some-lent_by_stride-clause-pushed : goal.returns-in-Some-lent_by_stride-clause-pushed
returns-in-Some-lent_by_stride-clause-pushed g c = rw (← c.in-Some-lent_by_stride.ensures) c.push_apart.ensures.pushed
