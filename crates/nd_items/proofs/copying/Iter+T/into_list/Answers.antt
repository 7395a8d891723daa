-- The items of one row more are copied, for which there is room.
use Rattle.std.proofs.Common.{ap, length, arith}
use Rattle.std.proofs.lemmas.List.{length-append}
use Rattle.nd_access.specs.LentRow.{row_items}
use Rattle.nd_items.proofs.Copied.{row_copied}
use Rattle.nd_access.proofs.Laws.Pushed.{length-row_items}
use Rattle.nd_items.proofs.copying.Iter+T.into_list.Goals as goal

pub loop-row-smaller-in-Continue-branch-2 : goal.loop-row-smaller-in-Continue-branch-2
loop-row-smaller-in-Continue-branch-2 g c = omega (
  arith,
  c.in-Some.ensures.0,
  ap length c.in-Some.ensures.1,
  length-append (row_items c.in-Some.row) c.next_row.new.self,
  length-row_items c.in-Some.row,
)

pub copy_apart-list-requires : goal.copy_apart-list-requires
copy_apart-list-requires g c = record {
  room = omega (
    arith,
    c.loop-row.invariant.room,
    ap length c.in-Some.ensures.1,
    length-append (row_items c.in-Some.row) c.next_row.new.self,
    length-row_items c.in-Some.row,
  );
}

pub loop-row-preserved : goal.loop-row-preserved
loop-row-preserved g c = record {
  are = row_copied c.loop-row.list.items c.copy_apart-list.result.items (row_items c.in-Some.row) c.next_row.new.self
      c.copy_apart-list.ensures.items c.in-Some.ensures.1 c.loop-row.invariant.are;
  room = omega (
    arith,
    c.loop-row.invariant.room,
    c.copy_apart-list.ensures.len,
    c.copy_apart-list.ensures.capacity,
    ap length c.in-Some.ensures.1,
    length-append (row_items c.in-Some.row) c.next_row.new.self,
    length-row_items c.in-Some.row,
  );
}
