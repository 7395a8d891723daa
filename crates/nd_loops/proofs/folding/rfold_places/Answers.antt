-- One item more is folded.
use Rattle.std.proofs.Common.{rules}
use Rattle.nd_access.specs.LentRow.{row_items}
use Rattle.nd_loops.proofs.FoldedBack.{item_from_last}
use Rattle.nd_access.proofs.Laws.Folding.{may_be_called, one_more_called, still_callable}
use Rattle.nd_loops.proofs.folding.rfold_places.Goals as goal

pub turn-requires : goal.turn-requires
turn-requires g c κs =
    let at = item_from_last (row_items c.args.row.now) c.len-len.ensures.count c.loop-coordinate-test.true c.item-item.ensures in
    search (rules, may_be_called at c.loop-coordinate.invariant.callable)

pub loop-coordinate-preserved : goal.loop-coordinate-preserved
loop-coordinate-preserved g c =
    let at = item_from_last (row_items c.args.row.now) c.len-len.ensures.count c.loop-coordinate-test.true c.item-item.ensures in
    record {
      folded = one_more_called _ at c.turn.ensures c.loop-coordinate.invariant.folded;
      callable = still_callable _ at c.turn.ensures c.loop-coordinate.invariant.callable;
    }
