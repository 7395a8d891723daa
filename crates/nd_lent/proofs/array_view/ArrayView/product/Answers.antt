-- The closure keeps the product of what came before, as far as it fits.
use Rattle.std.proofs.Common.{rules, ℕ, Option}
use Rattle.std.specs.Option.{option_map_or}
use Rattle.nd_loops.proofs.Laws.Sums.{summed_fits, summed_is}
use Rattle.nd_lent.proofs.Times.{multiplied}
use Rattle.nd_lent.proofs.array_view.ArrayView.product.Goals as goal

pub returns-clause-fits : goal.returns-clause-fits
returns-clause-fits g c =
    let value : Option g.row.T.Denot → ℕ = λ item. option_map_or g.T.Unsigned.number item 1 in
    summed_fits _ (multiplied _ value (λ item f total. search rules)
    (λ item f h total next called. search (rules, called)) c.fold.ensures.ran)

pub returns-clause-product : goal.returns-clause-product
returns-clause-product g c =
    let value : Option g.row.T.Denot → ℕ = λ item. option_map_or g.T.Unsigned.number item 1 in
    summed_is _ (multiplied _ value (λ item f total. search rules)
    (λ item f h total next called. search (rules, called)) c.fold.ensures.ran)
