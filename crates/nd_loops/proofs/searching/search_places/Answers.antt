-- One item more has passed, or it is the first that is looked for.
use Rattle.std.proofs.Common.{rules, ◌<◌, subst, refl, arith}
use Rattle.std.proofs.lemmas.Fn.{called}
use Rattle.nd_access.proofs.Laws.Folding.{item_in_list, may_be_called, one_more_called, still_callable}
use Rattle.nd_loops.proofs.Laws.Searching.{all_passed, found, found_here, passed}
use Rattle.nd_loops.proofs.searching.search_places.Goals as goal

pub f-requires : goal.f-requires
f-requires g c =
    let below = subst (λ n. c.loop-coordinate.coordinate < n) c.len-coordinate-end.ensures.count c.loop-coordinate-test.true in
    search (rules, may_be_called (item_in_list below c.item-item.ensures) c.loop-coordinate.invariant.callable)

pub returns-then-f-wanted : goal.returns-then-f-wanted
returns-then-f-wanted g c =
    let below = subst (λ n. c.loop-coordinate.coordinate < n) c.len-coordinate-end.ensures.count c.loop-coordinate-test.true in
    let turn = called g.F.FnMut c.f.ensures refl in
    found_here _ (item_in_list below c.item-item.ensures) c.loop-coordinate.invariant.passed
    (found c.f.result c.args.wanted c.if-f-wanted.true turn)

pub loop-coordinate-preserved : goal.loop-coordinate-preserved
loop-coordinate-preserved g c =
    let below = subst (λ n. c.loop-coordinate.coordinate < n) c.len-coordinate-end.ensures.count c.loop-coordinate-test.true in
    let at = item_in_list below c.item-item.ensures in
    let turn = called g.F.FnMut c.f.ensures refl in
    record {
      passed = one_more_called _ at (passed c.f.result c.args.wanted c.if-f-wanted.false turn) c.loop-coordinate.invariant.passed;
      callable = still_callable _ at (passed c.f.result c.args.wanted c.if-f-wanted.false turn) c.loop-coordinate.invariant.callable;
    }

pub returns : goal.returns
returns g c =
    all_passed (omega (arith, c.loop-coordinate-test.false, c.len-coordinate-end.ensures.count)) c.loop-coordinate.invariant.passed
