-- One more call is made, at the item of the next coordinate and what stands beside it.
use Rattle.std.proofs.Common.{rules, ◌≡◌, false, pos, length, get_or, refl, sym, ap, ◌∙◌, arith}
use Rattle.std.proofs.lemmas.List.{length-set}
use Rattle.ndarray_layout.proofs.Laws.Rows.{get_or-row_places, length-row_places}
use Rattle.nd_access.specs.LentRow.{places_of}
use Rattle.nd_access.specs.Part.{has_mark}
use Rattle.nd_access.specs.Zipped.{CalledBeside, TakesBeside}
use Rattle.nd_loops.specs.Beside.{items_beside, shown_beside}
use Rattle.nd_loops.proofs.ItemsBeside.{given_count, next_given}
use Rattle.nd_loops.proofs.Laws.RowsOwned.{place_of_row}
use Rattle.nd_access.proofs.Laws.SwappedCells.{got}
use Rattle.nd_access.proofs.Laws.MapsTo.{IsNext, all_run, begins, one_more, takes_next}
use Rattle.nd_loops.proofs.calling.call_few.Given.{Over}
use Rattle.nd_loops.proofs.calling.call_few.Goals as goal
use Rattle.nd_loops.proofs.calling.call_few.Goals.{After-item}

abbrev call : (g : Over) → g.row.F.Denot → g.row.T.Denot × g.C.Beside.Value → g.row.T.Denot → g.row.F.Denot → Type 0
call g = CalledBeside (shown_beside g.C.Beside.value) g.F.FnMut

abbrev takes : (g : Over) → g.row.F.Denot → g.row.T.Denot × g.C.Beside.Value → Type 0
takes g = TakesBeside (shown_beside g.C.Beside.value) g.F.FnMut

pub loop-coordinate-init : goal.loop-coordinate-init
loop-coordinate-init g c =
    let old = c.args.cells.now.items in
    let places = places_of c.args.row in
    record {
      run = begins (call g) (takes g) c.args.f places
          (items_beside old places (g.C.Beside.values c.args.beside.now)) old c.requires.callable;
      long = refl;
      keeps_access = refl;
    }

pub place_in_row-place-requires-clause-first : goal.place_in_row-place-requires-clause-first
place_in_row-place-requires-clause-first g c =
    (place_of_row c.args.cells.now.marks c.args.row c.loop-coordinate.coordinate c.requires.row c.loop-coordinate-test.true).first

pub place_in_row-place-requires-clause-small : goal.place_in_row-place-requires-clause-small
place_in_row-place-requires-clause-small g c =
    (place_of_row c.args.cells.now.marks c.args.row c.loop-coordinate.coordinate c.requires.row c.loop-coordinate-test.true).small

pub place_in_row-place-requires-clause-in_bounds : goal.place_in_row-place-requires-clause-in_bounds
place_in_row-place-requires-clause-in_bounds g c =
    (place_of_row c.args.cells.now.marks c.args.row c.loop-coordinate.coordinate c.requires.row c.loop-coordinate-test.true).fits

pub item_mut-requires : goal.item_mut-requires
item_mut-requires g c =
    let marked =
    (place_of_row c.args.cells.now.marks c.args.row c.loop-coordinate.coordinate c.requires.row c.loop-coordinate-test.true).marked in
    ap (λ right. get_or right.marks c.place_in_row-place.result false) c.loop-coordinate.invariant.keeps_access
    ∙ ap (has_mark c.args.cells.now.marks) c.place_in_row-place.ensures
    ∙ marked

pub item-requires : goal.item-requires
item-requires g c = omega (arith, c.loop-coordinate-test.true, c.requires.count)

-- as many values as places
as_many : (g : Over) (c : After-item g) → length (g.C.Beside.values c.args.beside.now) ≡ length (places_of c.args.row)
as_many g c = c.requires.count ∙ sym (length-row_places c.args.row.start c.args.row.stride c.args.row.len)

-- the item that is lent, and what is shown beside it, are those of the next coordinate
next : (g : Over) (c : After-item g) → IsNext (call g) (takes g) c.args.f
    (places_of c.args.row) (items_beside c.args.cells.now.items (places_of c.args.row) (g.C.Beside.values c.args.beside.now))
    c.args.cells.now.items c.loop-coordinate.coordinate c.place_in_row-place.result
    (c.item_mut.result.now, g.C.Beside.value c.item.result)
next g c =
    let row = c.args.row in
    let place = c.place_in_row-place.result in
    let here = got c.loop-coordinate.cells.items place c.item_mut.result.now c.item_mut.ensures.value.0 in
    next_given c.args.cells.now.items (places_of row) (g.C.Beside.values c.args.beside.now) (as_many g c)
    (call g) (takes g) c.args.f c.requires.row.own.apart
    (omega (arith, c.loop-coordinate-test.true, length-row_places row.start row.stride row.len))
    (get_or-row_places row.start row.stride row.len c.loop-coordinate.coordinate (pos place) c.loop-coordinate-test.true
    ∙ sym c.place_in_row-place.ensures) (omega (arith, here.0, c.loop-coordinate.invariant.long))
    c.item_mut.ensures.value.0 c.item.ensures c.loop-coordinate.invariant.run

pub f-requires : goal.f-requires
f-requires g c =
    let at = (goal.at.f-requires g c).After-item in
    let old = c.args.cells.now.items in
    let places = places_of c.args.row in
    let values = g.C.Beside.values c.args.beside.now in
    let next_takes = takes_next (call g) (takes g) c.args.f places
    (items_beside old places values) old (given_count old places values (as_many g at)) c.requires.row.own.apart (next g at)
    c.loop-coordinate.invariant.run in
    search (rules, next_takes)

pub loop-coordinate-preserved : goal.loop-coordinate-preserved
loop-coordinate-preserved g c =
    let at = (goal.at.loop-coordinate-preserved g c).After-item in
    let old = c.args.cells.now.items in
    let places = places_of c.args.row in
    let values = g.C.Beside.values c.args.beside.now in
    let called : call g c.loop-coordinate.f (c.item_mut.result.now, g.C.Beside.value c.item.result) c.f.new.arg2 c.f.new.self =
    record { shown = _; beside = _; shows = (refl, refl); left = _; called = c.f.ensures; leaves = refl } in
    record {
      run = one_more (call g) (takes g) c.args.f places
          (items_beside old places values) old (given_count old places values (as_many g at)) c.requires.row.own.apart (next g at)
          c.loop-coordinate.invariant.run c.f.new.arg2 c.loop-coordinate.invariant.long called;
      long = length-set c.loop-coordinate.cells.items c.place_in_row-place.result c.f.new.arg2 ∙ c.loop-coordinate.invariant.long;
      keeps_access = c.loop-coordinate.invariant.keeps_access;
    }

pub returns-clause-ran : goal.returns-clause-ran
returns-clause-ran g c =
    let old = c.args.cells.now.items in
    let row = c.args.row in
    let values = g.C.Beside.values c.args.beside.now in
    let long = length-row_places row.start row.stride row.len in
    all_run (call g) (takes g) c.args.f (places_of row)
    (items_beside old (places_of row) values) old (given_count old (places_of row) values (c.requires.count ∙ sym long))
    (omega (arith, c.loop-coordinate-test.false, long)) c.loop-coordinate.invariant.run

pub returns-clause-keeps_access : goal.returns-clause-keeps_access
returns-clause-keeps_access g c = c.loop-coordinate.invariant.keeps_access
