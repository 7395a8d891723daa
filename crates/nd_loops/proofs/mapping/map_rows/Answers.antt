-- The closure is called at the item alone.
use Rattle.std.proofs.Common.{rules}
use Rattle.std.specs.Fn.{CalledAtMut}
use Rattle.nd_loops.proofs.Laws.CalledInside.{callable_inside, maps_inside}
use Rattle.nd_loops.proofs.RowsBeside.{count_alone, items_of_alone}
use Rattle.nd_loops.proofs.mapping.map_rows.Goals as goal

pub call_rows-requires-clause-count : goal.call_rows-requires-clause-count
call_rows-requires-clause-count g c = count_alone c.args.rows

pub call_rows-requires-clause-callable : goal.call_rows-requires-clause-callable
call_rows-requires-clause-callable g c =
    callable_inside (λ shown. tt) _ (λ p x y q. CalledAtMut g.F.FnMut p x tt q y) (λ each. each.0) (λ one. one.0)
    (λ s t shown left beside called. search rules) (λ s shown beside takes. search rules) _
    (items_of_alone c.args.cells.now.items c.args.rows) c.requires.callable

pub returns-clause-ran : goal.returns-clause-ran
returns-clause-ran g c =
    maps_inside (λ shown. tt) _ (λ p x y q. CalledAtMut g.F.FnMut p x tt q y) (λ each. each.0) (λ one. one.0)
    (λ s t shown left beside called. search rules) _ (items_of_alone c.args.cells.now.items c.args.rows) c.call_rows.ensures.ran
