-- One item more is folded.
use Rattle.std.proofs.Common.{rules, ◌<◌, subst, sym, ◌∙◌, arith}
use Rattle.std.proofs.lemmas.List.{take_all}
use Rattle.nd_access.specs.Folded.{HasFolded}
use Rattle.nd_access.specs.LentRow.{row_items}
use Rattle.nd_access.proofs.Laws.Pushed.{length-row_items}
use Rattle.nd_access.proofs.Laws.Folding.{item_in_list, may_be_called, one_more_called, still_callable}
use Rattle.nd_loops.proofs.folding.fold_places.Goals as goal

pub turn-requires : goal.turn-requires
turn-requires g c κs =
    let many = c.requires.len ∙ sym (length-row_items c.args.row.now) in
    let below = subst (λ n. c.loop-coordinate.coordinate < n) many c.loop-coordinate-test.true in
    search (rules, may_be_called (item_in_list below c.item-item.ensures) c.loop-coordinate.invariant.callable)

pub loop-coordinate-preserved : goal.loop-coordinate-preserved
loop-coordinate-preserved g c =
    let many = c.requires.len ∙ sym (length-row_items c.args.row.now) in
    let below = subst (λ n. c.loop-coordinate.coordinate < n) many c.loop-coordinate-test.true in
    let at = item_in_list below c.item-item.ensures in
    record {
      folded = one_more_called _ at c.turn.ensures c.loop-coordinate.invariant.folded;
      callable = still_callable _ at c.turn.ensures c.loop-coordinate.invariant.callable;
    }

pub returns : goal.returns
returns g c =
    let items = row_items c.args.row.now in
    let all = take_all c.loop-coordinate.coordinate items
    (omega (arith, length-row_items c.args.row.now, c.requires.len, c.loop-coordinate-test.false)) in
    subst (λ items. HasFolded g.F.FnMut (c.args.f, c.args.init) items (c.loop-coordinate.f, c.loop-coordinate.total)) all
    c.loop-coordinate.invariant.folded
