-- A row of neighbours is one copy; else it is one more item at each turn.
use Rattle.std.proofs.Common.{rules, ◌≡◌, ◌+◌, ◌-◌, ◌≤◌, ◌<◌, ◌++◌, ◌^◌, pos, ◌+ℤ◌, ◌*ℤ◌, length, get_or, length-set, take, drop, sym, ap}
use Rattle.std.proofs.Common.{subst, ◌∙◌, arith}
use Rattle.std.proofs.lemmas.List.{take_all}
use Rattle.ndarray_layout.specs.Bounds.{IsInBounds}
use Rattle.ndarray_layout.specs.Rows.{row_places}
use Rattle.nd_owned.specs.private.Written.{HasWritten}
use Rattle.nd_owned.proofs.Placed.{none_written}
use Rattle.nd_owned.proofs.RowPlaces.{after_first, at_coordinate, copied_within, next_there, write_more}
use Rattle.nd_lent.proofs.Laws.RowItems.{begins, coordinate_in_bounds, start_there}
use Rattle.nd_owned.proofs.RowPlaces.{write_neighbours}
use Rattle.nd_owned.proofs.rows.write_row.Goals as goal

pub overflow_add-start : goal.overflow_add-start
overflow_add-start g c =
    let within = copied_within (length c.args.stored.now) c.args.row.start (length c.args.items.now) c.requires.within
    (c.is_copied.ensures c.if-is_copied.true) (omega (arith, c.in-Some.ensures.cases.1)) in
    let small : length c.args.stored.now < 2 ^ 64 = search rules in
    omega arith

pub slice_bounds-copy_from_slice-end : goal.slice_bounds-copy_from_slice-end
slice_bounds-copy_from_slice-end g c =
    let items = length c.args.items.now in
    let one = c.is_copied.ensures c.if-is_copied.true in
    let some : 0 < items = omega (arith, c.in-Some.ensures.cases.1) in
    let within : c.args.row.start + items ≤ length c.args.stored.now =
    copied_within (length c.args.stored.now) c.args.row.start items c.requires.within one some in
    search rules

pub offset_bounds-stored-start : goal.offset_bounds-stored-start
offset_bounds-stored-start g c =
    let under : c.args.row.start < length c.args.stored.now =
    begins (length c.args.stored.now) c.args.row.start c.args.row.stride (length c.args.items.now) c.requires.within
    (omega (arith, c.in-Some.ensures.cases.1)) in
    search rules

pub returns-then-is_copied : goal.returns-then-is_copied
returns-then-is_copied g c =
    let count = length c.args.stored.now in
    let start = c.args.row.start in
    let items = c.args.items.now in
    let old = c.args.stored.now in
    let one : c.args.row.stride ≡ pos 1 = c.is_copied.ensures c.if-is_copied.true in
    let within = copied_within count start (length items) c.requires.within one (omega (arith, c.in-Some.ensures.cases.1)) in
    let same : start + length items - start ≡ length items = omega arith in
    λ distinct. subst (λ stride. HasWritten (row_places start stride (length items)) items old
    (take start old ++ (c.copy_from_slice.new.self ++ drop (start + length items - start) (drop start old)))) (sym one)
    (subst (λ n. HasWritten (row_places start (pos 1) (length items)) items old
    (take start old ++ (c.copy_from_slice.new.self ++ drop n (drop start old)))) (sym same)
    (subst (λ new. HasWritten (row_places start (pos 1) (length items)) items old
    (take start old ++ (new ++ drop (length items) (drop start old)))) (sym c.copy_from_slice.ensures.after)
    (write_neighbours items start within)))

pub bounds-stored-start : goal.bounds-stored-start
bounds-stored-start g c =
    begins (length c.args.stored.now) c.args.row.start c.args.row.stride (length c.args.items.now) c.requires.within
    (omega (arith, c.in-Some.ensures.cases.1))

pub offset_bounds-stored-start-2 : goal.offset_bounds-stored-start-2
offset_bounds-stored-start-2 g c =
    let under : c.args.row.start < length c.args.stored.now = bounds-stored-start g c in
    search rules

pub loop-item-init : goal.loop-item-init
loop-item-init g c =
    let stored = c.args.stored.now in
    let start = c.args.row.start in
    let stride = c.args.row.stride in
    let items = c.args.items.now in
    let first = c.in-Some.first.now in
    let some : 0 < length items = omega (arith, c.in-Some.ensures.cases.1) in
    record {
      small = begins (2 ^ 63) start stride (length items) c.requires.fit some;
      next = next_there start 0 stride (start_there stride);
      written = λ distinct. write_more (length stored) c.requires.within distinct
          (record { below = some; is = sym (ap (λ xs. get_or xs 0 first) c.in-Some.ensures.cases.0) })
          (begins (length stored) start stride (length items) c.requires.within some) (at_coordinate start stride 0 (start_there stride))
          none_written;
    }

pub place_after-place-requires-clause-in_bounds : goal.place_after-place-requires-clause-in_bounds
place_after-place-requires-clause-in_bounds g c =
    subst (IsInBounds (2 ^ 63)) (sym c.loop-item.invariant.next)
    (coordinate_in_bounds (2 ^ 63) c.args.row.start c.args.row.stride (length c.args.items.now) (c.loop-item.item-index + 1) c.requires.fit
    (omega (arith, c.in-Some.ensures.cases.1, c.loop-item-test.true)))

pub bounds-stored-place : goal.bounds-stored-place
bounds-stored-place g c =
    let count = length c.args.stored.now in
    let under : c.place_after-place.result < count = subst (IsInBounds count)
    (sym (c.place_after-place.ensures ∙ c.loop-item.invariant.next))
    (coordinate_in_bounds count c.args.row.start c.args.row.stride (length c.args.items.now) (c.loop-item.item-index + 1) c.requires.within
    (omega (arith, c.in-Some.ensures.cases.1, c.loop-item-test.true))) in
    omega (arith, under, c.loop-item.auto.stored, length-set c.args.stored.now c.args.row.start c.in-Some.first.now)

pub offset_bounds-stored-place : goal.offset_bounds-stored-place
offset_bounds-stored-place g c =
    let under : c.place_after-place.result < length c.args.stored.now =
    omega (arith, bounds-stored-place g c, c.loop-item.auto.stored, length-set c.args.stored.now c.args.row.start c.in-Some.first.now) in
    search rules

pub loop-item-preserved : goal.loop-item-preserved
loop-item-preserved g c =
    let stored = c.args.stored.now in
    let start = c.args.row.start in
    let stride = c.args.row.stride in
    let items = c.args.items.now in
    let i = c.loop-item.item-index in
    let place = c.place_after-place.result in
    let below : i + 1 < length items = omega (arith, c.in-Some.ensures.cases.1, c.loop-item-test.true) in
    let here : pos place ≡ pos start +ℤ (pos (i + 1) *ℤ stride) = c.place_after-place.ensures ∙ c.loop-item.invariant.next in
    let within : place < length c.loop-item.stored = bounds-stored-place g c in
    record {
      small = subst (IsInBounds (2 ^ 63)) (sym here)
          (coordinate_in_bounds (2 ^ 63) start stride (length items) (i + 1) c.requires.fit below);
      next = next_there start (i + 1) stride here;
      written = λ distinct. write_more (length stored) c.requires.within distinct
          (record { below = below; is = after_first i c.in-Some.ensures.cases.0 c.item-item.is }) within
          (at_coordinate start stride (i + 1) here) (c.loop-item.invariant.written distinct);
    }

pub returns : goal.returns
returns g c =
    let places = row_places c.args.row.start c.args.row.stride in
    let items = c.args.items.now in
    let all : c.loop-item.item-index + 1 ≡ length items = omega (
      arith,
      c.loop-item-test.false,
      c.loop-item.auto.item-index-end,
      c.in-Some.ensures.cases.1,
    ) in
    λ distinct. subst (λ done. HasWritten (places (length items)) done c.args.stored.now c.loop-item.stored)
    (take_all (length items) items (omega arith))
    (subst (λ n. HasWritten (places n) (take n items) c.args.stored.now c.loop-item.stored) all (c.loop-item.invariant.written distinct))
