-- The results at the rest of one row more are appended.
use Rattle.std.proofs.Common.{◌≡◌, ◌-◌, Some, ap, drop, get_or, length, map, replicate, refl, sym, arith, ◌∙◌}
use Rattle.std.proofs.lemmas.Bool.{false≢true}
use Rattle.std.proofs.lemmas.List.{drop_all}
use Rattle.ndarray_layout.specs.declared.Order.TheVariants.{RowMajor}
use Rattle.ndarray_layout.specs.FlatIndex.{flat_index}
use Rattle.ndarray_layout.specs.Indices.{indices_in, is_index}
use Rattle.ndarray_layout.proofs.Laws.FlatIndex.{flat_index-zeros, length-indices_in}
use Rattle.ndarray_layout.proofs.Laws.IsIndex.{is_index-zeros}
use Rattle.nd_access.proofs.Laws.Pushed.{all_left, all_pushed, part_callable, part_pushed}
use Rattle.nd_owned.specs.private.IndexRow.{next_row_of, rest_of_row}
use Rattle.nd_owned.proofs.IndicesByRow.{fewer, len_of_shape, length_of_index, row_counts, row_within, split_off}
use Rattle.nd_owned.proofs.owned.by_index.push_rows.Goals as goal

pub loop-has_row-init : goal.loop-has_row-init
loop-has_row-init g c =
    let shape = g.D.Lengths.list c.args.dim.now in
    let zeros : g.D.Lengths.list c.in_ok-index.index ≡ replicate (length shape) 0 =
    c.in_ok-index.ensures.list ∙ ap (λ n. replicate n 0) c.ndim-2.ensures.count in (
      0,
      record {
        at = record {
          here = λ turn. (
            ap (is_index shape) zeros ∙ is_index-zeros shape c.requires.some,
            sym (ap (flat_index shape) zeros ∙ flat_index-zeros shape),
          );
          ended = λ no. absurd (false≢true (sym no));
        };
        are = all_left refl c.requires.callable;
        room = omega (arith, c.requires.room);
      },
    )

pub push_row-requires-clause-axes : goal.push_row-requires-clause-axes
push_row-requires-clause-axes g c =
    let shape = g.D.Lengths.list c.args.dim.now in
    let here = c.loop-has_row.invariant.1.at.here c.loop-has_row-test.true in
    let many = length_of_index shape (g.D.Lengths.list c.loop-has_row.index) here.0 in omega (arith, many, c.requires.axes)

pub push_row-requires-clause-callable : goal.push_row-requires-clause-callable
push_row-requires-clause-callable g c =
    let shape = g.D.Lengths.list c.args.dim.now in
    let index = g.D.Lengths.list c.loop-has_row.index in
    let kept = c.loop-has_row.invariant in
    let here = kept.1.at.here c.loop-has_row-test.true in
    let lens = len_of_shape shape index c.requires.axes here.0 in
    rw (c.slice.ensures.list, c.ndim.ensures.count, ← lens)
    (part_callable (map Some (rest_of_row index (get_or shape (length index - 1) 0)))
    (map Some (drop (next_row_of shape index) (indices_in RowMajor shape)))
    (split_off shape index c.requires.axes here.0 kept.0 here.1) kept.1.are)

pub push_row-requires-clause-room : goal.push_row-requires-clause-room
push_row-requires-clause-room g c =
    let shape = g.D.Lengths.list c.args.dim.now in
    let index = g.D.Lengths.list c.loop-has_row.index in
    let kept = c.loop-has_row.invariant in
    let here = kept.1.at.here c.loop-has_row-test.true in
    let lens = len_of_shape shape index c.requires.axes here.0 in
    let counts = row_counts shape index c.requires.axes here.0 in
    let within = row_within shape index c.requires.axes here.0 in
    let room = kept.1.room in
    rw (c.slice.ensures.list, c.ndim.ensures.count, ← lens) (omega (arith, counts, within, room, here.1))

pub loop-has_row-smaller : goal.loop-has_row-smaller
loop-has_row-smaller g c =
    let shape = g.D.Lengths.list c.args.dim.now in
    let index = g.D.Lengths.list c.loop-has_row.index in
    let here = c.loop-has_row.invariant.1.at.here c.loop-has_row-test.true in
    fewer shape index (g.D.Lengths.list c.next_row-has_row.new.index) c.requires.axes here.0 c.loop-has_row.has_row
    c.next_row-has_row.result c.loop-has_row-test.true c.next_row-has_row.ensures.next

pub loop-has_row-preserved : goal.loop-has_row-preserved
loop-has_row-preserved g c =
    let shape = g.D.Lengths.list c.args.dim.now in
    let index = g.D.Lengths.list c.loop-has_row.index in
    let kept = c.loop-has_row.invariant in
    let here = kept.1.at.here c.loop-has_row-test.true in
    let lens = len_of_shape shape index c.requires.axes here.0 in
    let counts = row_counts shape index c.requires.axes here.0 in
    let within = row_within shape index c.requires.axes here.0 in
    let room = kept.1.room in
    let pushed = rw (c.slice.ensures.list, c.ndim.ensures.count, ← lens) at c.in_ok-more.ensures.pushed in
    let more = rw (c.slice.ensures.list, c.ndim.ensures.count, ← lens) at c.in_ok-more.ensures.len in (
      next_row_of shape index,
      record {
        at = record {
          here = λ turn. let row = c.next_row-has_row.ensures.next turn in (row.here, sym row.flat);
          ended = c.next_row-has_row.ensures.end;
        };
        are = part_pushed (split_off shape index c.requires.axes here.0 kept.0 here.1) pushed kept.1.are;
        room = omega (arith, counts, within, room, here.1, more, c.in_ok-more.ensures.capacity);
      },
    )

pub returns : goal.returns
returns g c =
    let shape = g.D.Lengths.list c.args.dim.now in
    let kept = c.loop-has_row.invariant in
    let past = kept.1.at.ended c.loop-has_row-test.false in
    let none = drop_all kept.0 (indices_in RowMajor shape) (omega (arith, past, length-indices_in RowMajor shape)) in
    (c.loop-has_row.f, all_pushed (ap (map Some) none) kept.1.are)
