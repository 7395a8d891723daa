-- One item more has passed, or it is the first that is looked for.
use Rattle.std.proofs.Common.{rules, Some, refl, arith}
use Rattle.std.proofs.lemmas.Fn.{called}
use Rattle.std.proofs.lemmas.List.{length-map}
use Rattle.nd_access.proofs.Laws.Folding.{item_of_slice, may_be_called, one_more_called, still_callable}
use Rattle.nd_loops.proofs.Laws.Searching.{all_passed, found, found_here, passed}
use Rattle.nd_loops.proofs.searching.search_slice.Goals as goal

pub f-requires : goal.f-requires
f-requires g c =
    let at = item_of_slice c.args.items.now c.loop-item-test.true c.item-item.is in
    search (rules, may_be_called at c.loop-item.invariant.callable)

pub returns-then-f-wanted : goal.returns-then-f-wanted
returns-then-f-wanted g c =
    let at = item_of_slice c.args.items.now c.loop-item-test.true c.item-item.is in
    let turn = called g.F.FnMut c.f.ensures refl in
    found_here _ at c.loop-item.invariant.passed (found c.f.result c.args.wanted c.if-f-wanted.true turn)

pub loop-item-preserved : goal.loop-item-preserved
loop-item-preserved g c =
    let at = item_of_slice c.args.items.now c.loop-item-test.true c.item-item.is in
    let turn = called g.F.FnMut c.f.ensures refl in
    record {
      passed = one_more_called _ at (passed c.f.result c.args.wanted c.if-f-wanted.false turn) c.loop-item.invariant.passed;
      callable = still_callable _ at (passed c.f.result c.args.wanted c.if-f-wanted.false turn) c.loop-item.invariant.callable;
    }

pub returns : goal.returns
returns g c = all_passed (omega (arith, c.loop-item-test.false, length-map c.args.items.now Some)) c.loop-item.invariant.passed
