-- After the last index of a row comes the first one of the next row.
use Rattle.std.proofs.Common.{length, ap, ◌∙◌, arith}
use Rattle.ndarray_layout.specs.FlatIndex.{index_of_flat}
use Rattle.nd_items.proofs.IndexRow.{last_counts, last_here, some_in_row}
use Rattle.nd_items.proofs.next_index.row_after.Goals as goal

pub overflow_sub-len : goal.overflow_sub-len
overflow_sub-len g c =
    some_in_row (g.D.Lengths.list c.args.dim.now) (g.D.Lengths.list c.args.row.now) c.requires.here c.requires.len

pub advance_row_major-has_next-requires : goal.advance_row_major-has_next-requires
advance_row_major-has_next-requires g c =
    let list = g.D.Lengths.list in
    rw (c.slice.ensures.list, c.slice_mut.ensures.list)
    (last_here (list c.args.dim.now) (list c.args.row.now) c.requires.here c.requires.len c.in_ok-index.ensures.index)

pub returns-clause-next : goal.returns-clause-next
returns-clause-next g c =
    let list = g.D.Lengths.list in
    let shape = list c.args.dim.now in
    let counts = last_counts shape (list c.args.row.now) c.requires.here c.requires.len c.in_ok-index.ensures.index in
    let more = (rw (c.slice.ensures.list, c.slice_mut.ensures.list) at c.advance_row_major-has_next.ensures.more).1
    (omega (arith, counts, c.requires.more)) in
    let kept = g.met.D.Lengths.list_of_with_list c.in_ok-index.index c.advance_row_major-has_next.new.index
    (c.advance_row_major-has_next.auto.index ∙ ap length c.slice_mut.ensures.list) in
    kept ∙ rw (c.slice.ensures.list, c.slice_mut.ensures.list, more) at c.advance_row_major-has_next.ensures.next
    ∙ ap (index_of_flat shape) counts
