-- The result at one coordinate more is appended.
use Rattle.std.proofs.Common.{rules, refl, arith, ◌∙◌}
use Rattle.std.specs.Fn.{CalledAt}
use Rattle.std.proofs.lemmas.List.{drop_all}
use Rattle.nd_access.specs.LentRow.{row_items}
use Rattle.nd_access.proofs.Laws.Pushed.{all_pushed, first_pushed, left_from, length-row_items, takes_first}
use Rattle.nd_loops.proofs.copying.push_few.Goals as goal

pub f-requires : goal.f-requires
f-requires g c =
    let first = left_from (row_items c.args.row.now) c.loop-coordinate.coordinate
    (omega (arith, c.requires.count, c.loop-coordinate-test.true, length-row_items c.args.row.now)) c.item.ensures in
    search (rules, takes_first first c.loop-coordinate.invariant.are)

pub loop-coordinate-preserved : goal.loop-coordinate-preserved
loop-coordinate-preserved g c =
    let first = left_from (row_items c.args.row.now) c.loop-coordinate.coordinate
    (omega (arith, c.requires.count, c.loop-coordinate-test.true, length-row_items c.args.row.now)) c.item.ensures in
    let called : CalledAt g.F.FnMut c.loop-coordinate.f c.item.result.now c.f.result c.f.new.self =
    record { shown = _; shows = refl; called = c.f.ensures } in
    record {
      are = first_pushed c.f.result first called c.push_reserved.ensures.items c.loop-coordinate.invariant.are;
      len = omega (arith, c.push_reserved.ensures.len, c.loop-coordinate.invariant.len);
      capacity = c.push_reserved.ensures.capacity ∙ c.loop-coordinate.invariant.capacity;
    }

pub returns-clause-pushed : goal.returns-clause-pushed
returns-clause-pushed g c =
    all_pushed (drop_all c.loop-coordinate.coordinate (row_items c.args.row.now)
    (omega (arith, c.requires.count, c.loop-coordinate-test.false, length-row_items c.args.row.now))) c.loop-coordinate.invariant.are
