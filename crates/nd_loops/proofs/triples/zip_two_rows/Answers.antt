-- The closure is called at the item and at the two beside it.
use Rattle.std.proofs.Common.{rules}
use Rattle.nd_loops.specs.Beside.{shown_beside}
use Rattle.nd_loops.specs.ZippedTwo.{CalledAtTriple}
use Rattle.nd_loops.proofs.Laws.CalledInside.{all_given, callable_inside, maps_inside}
use Rattle.nd_loops.proofs.triples.zip_two_rows.Goals as goal

pub call_rows-requires-clause-callable : goal.call_rows-requires-clause-callable
call_rows-requires-clause-callable g c =
    callable_inside (shown_beside (λ both. (both.0.now, both.1.now))) _ (CalledAtTriple g.F.FnMut) (λ each. each.0) (λ one. one)
    (λ s t shown left beside called. search rules) (λ s shown beside takes. search rules) _ (all_given _) c.requires.callable

pub returns-clause-ran : goal.returns-clause-ran
returns-clause-ran g c =
    maps_inside (shown_beside (λ both. (both.0.now, both.1.now))) _ (CalledAtTriple g.F.FnMut) (λ each. each.0) (λ one. one)
    (λ s t shown left beside called. search rules) _ (all_given _) c.call_rows.ensures.ran
