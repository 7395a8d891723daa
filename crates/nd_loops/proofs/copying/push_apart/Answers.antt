-- The result at one coordinate more is appended.
use Rattle.std.proofs.Common.{rules, ◌<◌, ◌≤◌, refl, arith, ◌∙◌}
use Rattle.std.specs.Fn.{CalledAt}
use Rattle.std.proofs.lemmas.List.{drop_all}
use Rattle.nd_access.specs.LentRow.{row_items}
use Rattle.nd_access.proofs.Laws.Pushed.{all_pushed, first_pushed, left_from, length-row_items, takes_first}
use Rattle.nd_loops.proofs.copying.push_apart.Given.{Over}
use Rattle.nd_loops.proofs.copying.push_apart.Goals as goal
use Rattle.nd_loops.proofs.copying.push_apart.Goals.{After-item}

below : (g : Over) (c : After-item g) → c.loop-made.coordinate < c.args.row.now.row.len
below g c = omega (
  arith,
  c.capacity.ensures,
  c.len.ensures,
  c.len-2.ensures.len,
  c.min-end.ensures,
  c.len-in-loop-made.ensures,
  c.loop-made-test.true,
  c.loop-made.invariant.len,
)

pub f-requires : goal.f-requires
f-requires g c =
    let under = below g (goal.at.f-requires g c).After-item in
    let first = left_from (row_items c.args.row.now) c.loop-made.coordinate (omega (arith, under, length-row_items c.args.row.now))
    c.item.ensures in
    search (rules, takes_first first c.loop-made.invariant.are)

pub loop-made-preserved : goal.loop-made-preserved
loop-made-preserved g c =
    let under = below g (goal.at.loop-made-preserved g c).After-item in
    let first = left_from (row_items c.args.row.now) c.loop-made.coordinate (omega (arith, under, length-row_items c.args.row.now))
    c.item.ensures in
    let called : CalledAt g.F.FnMut c.loop-made.f c.item.result.now c.f.result c.f.new.self =
    record { shown = _; shows = refl; called = c.f.ensures } in
    record {
      are = first_pushed c.f.result first called c.push_reserved.ensures.items c.loop-made.invariant.are;
      within = omega (arith, under);
      len = omega (arith, c.push_reserved.ensures.len, c.loop-made.invariant.len);
      capacity = c.push_reserved.ensures.capacity ∙ c.loop-made.invariant.capacity;
    }

pub returns-clause-pushed : goal.returns-clause-pushed
returns-clause-pushed g c =
    let ended : c.args.row.now.row.len ≤ c.loop-made.coordinate = omega (
      arith,
      c.requires.room,
      c.capacity.ensures,
      c.len.ensures,
      c.len-2.ensures.len,
      c.min-end.ensures,
      c.len-in-loop-made.ensures,
      c.loop-made-test.false,
      c.loop-made.invariant.len,
    ) in
    all_pushed (drop_all c.loop-made.coordinate (row_items c.args.row.now) (omega (arith, ended, length-row_items c.args.row.now)))
    c.loop-made.invariant.are

pub returns-clause-len : goal.returns-clause-len
returns-clause-len g c = omega (
  arith,
  c.requires.room,
  c.capacity.ensures,
  c.len.ensures,
  c.len-2.ensures.len,
  c.min-end.ensures,
  c.len-in-loop-made.ensures,
  c.loop-made-test.false,
  c.loop-made.invariant.len,
  c.loop-made.invariant.within,
)
