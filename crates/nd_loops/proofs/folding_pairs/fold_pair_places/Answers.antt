-- One pair more is folded.
use Rattle.std.proofs.Common.{rules, Bor, Some, refl, subst, arith}
use Rattle.std.proofs.lemmas.List.{take_all}
use Rattle.ndarray_layout.proofs.Laws.Folding.{IsItemAt, may_be_called, one_more_called, still_callable}
use Rattle.nd_access.specs.LentRow.{row_items}
use Rattle.nd_access.specs.Zipped.{pairs_of}
use Rattle.nd_loops.specs.FoldedPairs.{HasFoldedPairs}
use Rattle.nd_loops.proofs.PairsFolded.{length-pairs_of_rows, pair_in_rows}
use Rattle.nd_loops.proofs.folding_pairs.fold_pair_places.Given.{Over}
use Rattle.nd_loops.proofs.folding_pairs.fold_pair_places.Goals as goal
use Rattle.nd_loops.proofs.folding_pairs.fold_pair_places.Goals.{After-item-in-loop-coordinate}

-- the pair whose items are lent
next : (g : Over) (c : After-item-in-loop-coordinate g)
    → IsItemAt (pairs_of (row_items c.args.row.now) (row_items c.args.other.now)) c.loop-coordinate.coordinate
    (Some (c.item.result.now, c.item-in-loop-coordinate.result.now))
next g c =
    pair_in_rows c.args.row.now c.args.other.now c.requires.count
    (omega (arith, c.loop-coordinate-test.true, c.len-coordinate-end.ensures.len)) c.item.ensures c.item-in-loop-coordinate.ensures

pub f-total-requires : goal.f-total-requires
f-total-requires g c =
    let at = (goal.at.f-total-requires g c).After-item-in-loop-coordinate in
    let takes = may_be_called (next g at) c.loop-coordinate.invariant.callable (c.item.result, c.item-in-loop-coordinate.result) refl in
    search (rules, takes)

pub loop-coordinate-preserved : goal.loop-coordinate-preserved
loop-coordinate-preserved g c =
    let at = next g (goal.at.loop-coordinate-preserved g c).After-item-in-loop-coordinate in
    let lent : Bor g.row.T.Denot × Bor g.row.U.Denot = (c.item.result, c.item-in-loop-coordinate.result) in
    record {
      folded = one_more_called lent at c.f-total.ensures c.loop-coordinate.invariant.folded;
      callable = still_callable lent at c.f-total.ensures c.loop-coordinate.invariant.callable;
    }

pub returns : goal.returns
returns g c =
    let row = c.args.row.now in
    let other = c.args.other.now in
    let pairs = pairs_of (row_items row) (row_items other) in
    let all = take_all c.loop-coordinate.coordinate pairs
    (omega (arith, length-pairs_of_rows row other c.requires.count, c.len-coordinate-end.ensures.len, c.loop-coordinate-test.false)) in
    subst (λ pairs. HasFoldedPairs g.F.FnMut (c.args.f, c.args.init) pairs (c.loop-coordinate.f, c.loop-coordinate.total)) all
    c.loop-coordinate.invariant.folded
