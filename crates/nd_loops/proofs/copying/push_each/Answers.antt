-- The results at the items of one row more are appended, for which there is room.
use Rattle.std.proofs.Common.{◌≡◌, ap, length, subst, sym, arith}
use Rattle.std.specs.List.{All}
use Rattle.std.proofs.lemmas.List.{length-append}
use Rattle.nd_access.specs.LentRow.{row_items, rows_items}
use Rattle.nd_access.proofs.Laws.Pushed.{all_left, all_pushed, length-row_items, part_callable, part_pushed}
use Rattle.nd_loops.proofs.Laws.Few.{first_few, others_few}
use Rattle.nd_loops.proofs.copying.push_each.Goals as goal

pub loop-row-init : goal.loop-row-init
loop-row-init g c = record {
  are = all_left (ap rows_items c.into_iter-row-iterator.ensures.into_iter_gives) c.requires.callable;
  few = λ some. subst (All (λ row. c.args.few ≡ row.row.len)) (sym c.into_iter-row-iterator.ensures.into_iter_gives) (c.requires.few some);
  room = omega (arith, c.requires.room, ap (λ rows. length (rows_items rows)) c.into_iter-row-iterator.ensures.into_iter_gives);
}

pub push_row-requires-clause-few : goal.push_row-requires-clause-few
push_row-requires-clause-few g c some =
    first_few (λ row. c.args.few ≡ row.row.len) c.in-Some.ensures.steps c.loop-row.invariant.few some

pub push_row-requires-clause-callable : goal.push_row-requires-clause-callable
push_row-requires-clause-callable g c =
    part_callable (row_items c.in-Some.row) (rows_items c.next.new.self) (ap rows_items c.in-Some.ensures.steps) c.loop-row.invariant.are

pub push_row-requires-clause-room : goal.push_row-requires-clause-room
push_row-requires-clause-room g c = omega (
  arith,
  c.loop-row.invariant.room,
  ap (λ rows. length (rows_items rows)) c.in-Some.ensures.steps,
  length-append (row_items c.in-Some.row) (rows_items c.next.new.self),
  length-row_items c.in-Some.row,
)

pub loop-row-preserved : goal.loop-row-preserved
loop-row-preserved g c = record {
  are = part_pushed (ap rows_items c.in-Some.ensures.steps) c.push_row.ensures.pushed c.loop-row.invariant.are;
  few = others_few (λ row. c.args.few ≡ row.row.len) c.in-Some.ensures.steps c.loop-row.invariant.few;
  room = omega (
    arith,
    c.loop-row.invariant.room,
    c.push_row.ensures.len,
    c.push_row.ensures.capacity,
    ap (λ rows. length (rows_items rows)) c.in-Some.ensures.steps,
    length-append (row_items c.in-Some.row) (rows_items c.next.new.self),
    length-row_items c.in-Some.row,
  );
}

pub returns : goal.returns
returns g c = (c.loop-row.f, all_pushed (ap rows_items c.in-None.ensures.steps.0) c.loop-row.invariant.are)
