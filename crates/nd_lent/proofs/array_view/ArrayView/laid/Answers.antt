-- All items are read.
use Rattle.std.proofs.Common.{length, subst, sym, true}
use Rattle.std.specs.Prelude.{replicate}
use Rattle.nd_access.specs.Read.{IsRead}
use Rattle.nd_access.proofs.Laws.Read.{all_read}
use Rattle.nd_lent.proofs.array_view.ArrayView.laid.Goals as goal

pub invariant_of-result : goal.invariant_of-result
invariant_of-result g c =
    let all = c.of_slice.ensures.all in
    subst (λ marks. IsRead marks (length c.of_slice.result.items) c.args.view) (sym all.1)
    (subst (λ items. IsRead (replicate (length c.args.items.now) true) (length items) c.args.view) (sym all.0) (all_read c.requires))
