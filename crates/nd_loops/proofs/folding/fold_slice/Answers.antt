-- One item more is folded.
use Rattle.std.proofs.Common.{rules}
use Rattle.nd_access.proofs.Laws.Folding.{item_of_slice, may_be_called, one_more_called, still_callable}
use Rattle.nd_loops.proofs.folding.fold_slice.Goals as goal

pub turn-requires : goal.turn-requires
turn-requires g c κs =
    let at = item_of_slice c.args.items.now c.loop-item-test.true c.item-item.is in
    search (rules, may_be_called at c.loop-item.invariant.callable)

pub loop-item-preserved : goal.loop-item-preserved
loop-item-preserved g c =
    let at = item_of_slice c.args.items.now c.loop-item-test.true c.item-item.is in
    record {
      folded = one_more_called _ at c.turn.ensures c.loop-item.invariant.folded;
      callable = still_callable _ at c.turn.ensures c.loop-item.invariant.callable;
    }
