-- The closure is called where its function is.
use Rattle.std.proofs.Common.{rules}
use Rattle.nd_access.proofs.Laws.Folding.{callable_inside, called_inside}
use Rattle.nd_lent.proofs.array_view.ArrayView.for_each_nearest.Goals as goal

pub fold_nearest-requires : goal.fold_nearest-requires
fold_nearest-requires g c = record {
  callable = λ others moved. callable_inside g.F.FnMut _ (λ f. f.0) (λ s x p. search rules) (λ s t x e. search rules) _
      (c.requires.callable others moved);
}

pub returns : goal.returns
returns g c =
    let all = c.fold_nearest.ensures.ran in
    record { ran = (all.0, all.1, called_inside g.F.FnMut _ (λ f. f.0) (λ s t x e. search rules) _ all.2) }
