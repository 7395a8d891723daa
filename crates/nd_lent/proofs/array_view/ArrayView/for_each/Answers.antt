-- The closure is called where its function is.
use Rattle.std.proofs.Common.{rules}
use Rattle.nd_access.proofs.Laws.Folding.{callable_inside, called_inside}
use Rattle.nd_lent.proofs.array_view.ArrayView.for_each.Goals as goal

pub fold-requires : goal.fold-requires
fold-requires g c = record {
  callable = callable_inside g.F.FnMut _ (λ f. f.0) (λ s x p. search rules) (λ s t x e. search rules) _ c.requires.callable;
}

pub returns : goal.returns
returns g c = record { ran = called_inside g.F.FnMut _ (λ f. f.0) (λ s t x e. search rules) _ c.fold.ensures.ran }
