-- The item at one coordinate more is copied.
use Rattle.std.proofs.Common.{◌<◌, ◌≤◌, ◌++◌, Some, ap, map, arith, ◌∙◌}
use Rattle.std.proofs.lemmas.List.{take_all}
use Rattle.nd_access.specs.LentRow.{row_items}
use Rattle.nd_items.proofs.Copied.{one_more_copied}
use Rattle.nd_access.proofs.Laws.Pushed.{length-row_items}
use Rattle.nd_items.proofs.copying.copy_apart.Goals as goal

pub loop-made-preserved : goal.loop-made-preserved
loop-made-preserved g c =
    let under : c.loop-made.coordinate < c.args.row.now.row.len = omega (
      arith,
      c.capacity.ensures,
      c.len.ensures,
      c.len-2.ensures.len,
      c.min-end.ensures,
      c.len-in-loop-made.ensures,
      c.loop-made-test.true,
      c.loop-made.invariant.len,
    ) in
    record {
      are = one_more_copied c.args.list.items c.loop-made.made.items (row_items c.args.row.now)
          (omega (arith, under, length-row_items c.args.row.now)) c.item.ensures c.push_reserved.ensures.items c.loop-made.invariant.are;
      within = omega (arith, under);
      len = omega (arith, c.push_reserved.ensures.len, c.loop-made.invariant.len);
      capacity = c.push_reserved.ensures.capacity ∙ c.loop-made.invariant.capacity;
    }

pub returns-clause-items : goal.returns-clause-items
returns-clause-items g c =
    let ended : c.args.row.now.row.len ≤ c.loop-made.coordinate = omega (
      arith,
      c.requires.room,
      c.capacity.ensures,
      c.len.ensures,
      c.len-2.ensures.len,
      c.min-end.ensures,
      c.len-in-loop-made.ensures,
      c.loop-made-test.false,
      c.loop-made.invariant.len,
    ) in
    c.loop-made.invariant.are
    ∙ ap (λ xs. map Some c.args.list.items ++ xs)
    (take_all c.loop-made.coordinate (row_items c.args.row.now) (omega (arith, ended, length-row_items c.args.row.now)))

pub returns-clause-len : goal.returns-clause-len
returns-clause-len g c = omega (
  arith,
  c.requires.room,
  c.capacity.ensures,
  c.len.ensures,
  c.len-2.ensures.len,
  c.min-end.ensures,
  c.len-in-loop-made.ensures,
  c.loop-made-test.false,
  c.loop-made.invariant.len,
  c.loop-made.invariant.within,
)
