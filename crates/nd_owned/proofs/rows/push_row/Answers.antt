-- A row of neighbours is one copy, for which there is room; else it is one more item at each turn.
use Rattle.std.proofs.Common.{rules, ◌≡◌, ◌+◌, ◌-◌, ◌≤◌, ◌<◌, ◌++◌, ◌^◌, pos, ◌+ℤ◌, ◌*ℤ◌, Some, length, map, take, drop, sym, ap, subst}
use Rattle.std.proofs.Common.{◌∙◌, arith}
use Rattle.std.proofs.lemmas.List.{append-nil, map-append}
use Rattle.ndarray_layout.specs.Bounds.{IsInBounds}
use Rattle.ndarray_layout.specs.Rows.{row_places}
use Rattle.nd_lent.specs.Items.{item_at_place}
use Rattle.nd_owned.proofs.RowPlaces.{at_coordinate, copied_within, next_there, read_more}
use Rattle.nd_lent.proofs.Laws.RowItems.{begins, coordinate_in_bounds, read_neighbours, start_there}
use Rattle.nd_owned.proofs.rows.push_row.Goals as goal

pub overflow_add-start : goal.overflow_add-start
overflow_add-start g c =
    let within = copied_within (length c.args.stored.now) c.args.row.start c.args.row.len c.requires.in_bounds.within
    (c.is_copied.ensures c.if-is_copied.true) (omega arith) in
    let small : length c.args.stored.now < 2 ^ 64 = search rules in
    omega arith

pub slice_bounds-extend_from_slice-end : goal.slice_bounds-extend_from_slice-end
slice_bounds-extend_from_slice-end g c =
    let one = c.is_copied.ensures c.if-is_copied.true in
    let within : c.args.row.start + c.args.row.len ≤ length c.args.stored.now =
    copied_within (length c.args.stored.now) c.args.row.start c.args.row.len c.requires.in_bounds.within one (omega arith) in
    search rules

pub returns-then-is_copied-clause-items : goal.returns-then-is_copied-clause-items
returns-then-is_copied-clause-items g c =
    let stored = c.args.stored.now in
    let items = c.args.items.items in
    let start = c.args.row.start in
    let len = c.args.row.len in
    let one : c.args.row.stride ≡ pos 1 = c.is_copied.ensures c.if-is_copied.true in
    let within = copied_within (length stored) start len c.requires.in_bounds.within one (omega arith) in
    let same : start + len - start ≡ len = omega arith in
    let pushed : c.extend_from_slice.new.self.items ≡ items ++ take (start + len - start) (drop start stored) = search rules in
    ap (map Some) pushed
    ∙ map-append Some items (take (start + len - start) (drop start stored))
    ∙ ap (λ n. map Some items ++ map Some (take n (drop start stored))) same
    ∙ ap (λ read. map Some items ++ read) (sym (read_neighbours stored start len within))
    ∙ ap (λ stride. map Some items ++ map (item_at_place stored) (row_places start stride len)) (sym one)

pub bounds-stored-start : goal.bounds-stored-start
bounds-stored-start g c = begins (length c.args.stored.now) c.args.row.start c.args.row.stride c.args.row.len c.requires.in_bounds.within
    (omega arith)

pub push_reserved-requires : goal.push_reserved-requires
push_reserved-requires g c = omega (arith, c.requires.room)

pub loop-coordinate-init : goal.loop-coordinate-init
loop-coordinate-init g c =
    let stored = c.args.stored.now in
    let start = c.args.row.start in
    let stride = c.args.row.stride in
    record {
      small = begins (2 ^ 63) start stride c.args.row.len c.requires.in_bounds.fit (omega arith);
      next = next_there start 0 stride (start_there stride);
      items = read_more c.args.items.items c.args.items.items (record {
        below = begins (length stored) start stride c.args.row.len c.requires.in_bounds.within (omega arith);
        is = c.index-stored-start.is;
      }) (at_coordinate start stride 0 (start_there stride)) c.push_reserved.ensures.items (sym (append-nil (map Some c.args.items.items)));
      len = c.push_reserved.ensures.len;
      capacity = c.push_reserved.ensures.capacity;
    }

pub place_after-place-requires-clause-in_bounds : goal.place_after-place-requires-clause-in_bounds
place_after-place-requires-clause-in_bounds g c =
    subst (IsInBounds (2 ^ 63)) (sym c.loop-coordinate.invariant.next)
    (coordinate_in_bounds
    (2 ^ 63) c.args.row.start c.args.row.stride c.args.row.len c.loop-coordinate._coordinate c.requires.in_bounds.fit
    c.loop-coordinate-test.true)

pub bounds-stored-place : goal.bounds-stored-place
bounds-stored-place g c =
    let count = length c.args.stored.now in
    subst (IsInBounds count) (sym (c.place_after-place.ensures ∙ c.loop-coordinate.invariant.next))
    (coordinate_in_bounds count c.args.row.start c.args.row.stride c.args.row.len c.loop-coordinate._coordinate c.requires.in_bounds.within
    c.loop-coordinate-test.true)

pub offset_bounds-stored-place : goal.offset_bounds-stored-place
offset_bounds-stored-place g c =
    let within : c.place_after-place.result < length c.args.stored.now = bounds-stored-place g c in
    search rules

pub push_reserved-requires-in-loop-coordinate : goal.push_reserved-requires-in-loop-coordinate
push_reserved-requires-in-loop-coordinate g c = omega (
  arith,
  c.requires.room,
  c.loop-coordinate.invariant.len,
  c.loop-coordinate.invariant.capacity,
  c.loop-coordinate-test.true,
)

pub loop-coordinate-preserved : goal.loop-coordinate-preserved
loop-coordinate-preserved g c =
    let stored = c.args.stored.now in
    let start = c.args.row.start in
    let stride = c.args.row.stride in
    let i = c.loop-coordinate._coordinate in
    let place = c.place_after-place.result in
    let here : pos place ≡ pos start +ℤ (pos i *ℤ stride) = c.place_after-place.ensures ∙ c.loop-coordinate.invariant.next in
    record {
      small = subst (IsInBounds (2 ^ 63)) (sym here) (coordinate_in_bounds (2 ^ 63) start stride c.args.row.len i c.requires.in_bounds.fit
          c.loop-coordinate-test.true);
      next = next_there start i stride here;
      items = read_more c.args.items.items c.loop-coordinate.items.items (record {
        below = subst (IsInBounds (length stored)) (sym here) (coordinate_in_bounds (length stored) start stride c.args.row.len i
            c.requires.in_bounds.within c.loop-coordinate-test.true);
        is = c.index-stored-place.is;
      }) (at_coordinate start stride i here) c.push_reserved-in-loop-coordinate.ensures.items c.loop-coordinate.invariant.items;
      len = omega (arith, c.push_reserved-in-loop-coordinate.ensures.len, c.loop-coordinate.invariant.len);
      capacity = c.push_reserved-in-loop-coordinate.ensures.capacity ∙ c.loop-coordinate.invariant.capacity;
    }

pub returns-clause-items : goal.returns-clause-items
returns-clause-items g c =
    let all : c.loop-coordinate._coordinate ≡ c.args.row.len = omega
    (arith, c.loop-coordinate-test.false, c.loop-coordinate.auto._coordinate-end) in
    c.loop-coordinate.invariant.items
    ∙ ap (λ n. map Some c.args.items.items ++ map (item_at_place c.args.stored.now) (row_places c.args.row.start c.args.row.stride n)) all

pub returns-clause-len : goal.returns-clause-len
returns-clause-len g c = omega
    (arith, c.loop-coordinate.invariant.len, c.loop-coordinate-test.false, c.loop-coordinate.auto._coordinate-end)
