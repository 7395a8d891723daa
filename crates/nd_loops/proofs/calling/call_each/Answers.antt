-- The calls at one row more are made.
use Rattle.std.proofs.Common.{◌≡◌, ◌++◌, ◌∷◌, List, Option, length, map, refl, sym, ap, subst, ◌∙◌}
use Rattle.std.specs.List.{All, AllZip, flat_map}
use Rattle.std.proofs.lemmas.List.{length-map}
use Rattle.ndarray_layout.specs.Rows.{rows_places}
use Rattle.ndarray_layout.proofs.Laws.Rows.{length-row_places}
use Rattle.nd_access.specs.Items.{item_at_place}
use Rattle.nd_access.specs.LentRow.{places_of}
use Rattle.nd_access.specs.MapsTo.{MapsTo}
use Rattle.nd_access.specs.Zipped.{CallableBesideEach, CalledBeside, pairs_of}
use Rattle.nd_loops.specs.Beside.{items_beside, shown_beside}
use Rattle.nd_loops.specs.OwnedRows.{OwnsEachRow, OwnsRow}
use Rattle.nd_loops.proofs.ItemsBeside.{given_count, given_more}
use Rattle.nd_loops.proofs.Laws.Few.{others_few}
use Rattle.nd_loops.proofs.Laws.RowsOwned.{owns_first, owns_others}
use Rattle.nd_access.proofs.Laws.MapsTo.{Distinct, both_run, callable_after, callable_in_part, no_run, others_stay}
use Rattle.nd_loops.proofs.calling.call_each.Given.{Over}
use Rattle.nd_loops.proofs.calling.call_each.Goals as goal
use Rattle.nd_loops.proofs.calling.call_each.Goals.{In-Some-next_beside}

pub loop-row-init : goal.loop-row-init
loop-row-init g c =
    let items = c.args.cells.now.items in
    let values = g.C.Beside.values in
    let ones = g.C.Beside.ones c.args.beside in
    let call = CalledBeside (shown_beside g.C.Beside.value) g.F.FnMut in
    let same = c.into_iter-row-iterator.ensures.into_iter_gives in
    record {
      few = λ some. subst (All (λ row. g.row.FEW ≡ row.len)) (sym same) (c.requires.few some);
      callable = subst (λ rows. CallableBesideEach (shown_beside g.C.Beside.value) g.F.FnMut
          (items_beside items (rows_places rows) (flat_map values (ones rows))) c.args.f) (sym same) c.requires.callable;
      rows = subst (OwnsEachRow c.args.cells.now.marks) (sym same) c.requires.rows;
      count = subst (λ rows. AllZip (λ row one. length (values one) ≡ row.len) rows (ones rows)) (sym same) c.requires.count;
      keeps_access = refl;
      run = λ new last run.
          subst (λ rows. MapsTo call c.args.f (rows_places rows) (items_beside items (rows_places rows) (flat_map values (ones rows))) items
          new last) same run;
    }

-- the row, and the others
rows : (g : Over) (c : In-Some-next_beside g) → OwnsEachRow c.args.cells.now.marks (c.in-Some.row ∷ c.next.new.self)
rows g c = subst (OwnsEachRow c.args.cells.now.marks) c.in-Some.ensures.steps c.loop-row.invariant.rows

places : (g : Over) (c : In-Some-next_beside g)
    → rows_places c.loop-row.row-iterator ≡ places_of c.in-Some.row ++ rows_places c.next.new.self
places g c = ap rows_places c.in-Some.ensures.steps

distinct : (g : Over) (c : In-Some-next_beside g) → Distinct (places_of c.in-Some.row ++ rows_places c.next.new.self)
distinct g c = subst Distinct (places g c) c.loop-row.invariant.rows.own.apart

-- what stands beside them
ones : (g : Over) (c : In-Some-next_beside g) → g.C.Beside.ones c.loop-row.beside c.loop-row.row-iterator
    ≡ c.in-Some-next_beside.beside ∷ g.C.Beside.ones c.next_beside.new.rows c.next.new.self
ones g c =
    ap (g.C.Beside.ones c.loop-row.beside) c.in-Some.ensures.steps ∙ c.in-Some-next_beside.ensures c.next.new.self

counts : (g : Over) (c : In-Some-next_beside g) → AllZip (λ row one. length (g.C.Beside.values one) ≡ row.len)
    (c.in-Some.row ∷ c.next.new.self) (c.in-Some-next_beside.beside ∷ g.C.Beside.ones c.next_beside.new.rows c.next.new.self)
counts g c =
    subst (λ rows. AllZip (λ row one. length (g.C.Beside.values one) ≡ row.len) rows
    (c.in-Some-next_beside.beside ∷ g.C.Beside.ones c.next_beside.new.rows c.next.new.self)) c.in-Some.ensures.steps
    (subst (AllZip (λ row one. length (g.C.Beside.values one) ≡ row.len) c.loop-row.row-iterator) (ones g c)
    c.loop-row.invariant.count)

as_many : (g : Over) (c : In-Some-next_beside g)
    → length (g.C.Beside.values c.in-Some-next_beside.beside) ≡ length (places_of c.in-Some.row)
as_many g c = (counts g c).0 ∙ sym (length-row_places c.in-Some.row.start c.in-Some.row.stride c.in-Some.row.len)

-- the values beside the others
abbrev left : (g : Over) (c : In-Some-next_beside g) → List (Option g.C.Beside.Value)
left g c = flat_map g.C.Beside.values (g.C.Beside.ones c.next_beside.new.rows c.next.new.self)

-- what is given at the row, and then at the others
given : (g : Over) (c : In-Some-next_beside g)
    → items_beside c.loop-row.cells.items (rows_places c.loop-row.row-iterator)
    (flat_map g.C.Beside.values (g.C.Beside.ones c.loop-row.beside c.loop-row.row-iterator))
    ≡ items_beside c.loop-row.cells.items (places_of c.in-Some.row) (g.C.Beside.values c.in-Some-next_beside.beside)
    ++ items_beside c.loop-row.cells.items (rows_places c.next.new.self) (left g c)
given g c =
    let items = c.loop-row.cells.items in
    let values = g.C.Beside.values in
    ap (λ places. items_beside items places (flat_map values (g.C.Beside.ones c.loop-row.beside c.loop-row.row-iterator))) (places g c)
    ∙ ap (λ ones. items_beside items (places_of c.in-Some.row ++ rows_places c.next.new.self) (flat_map values ones)) (ones g c)
    ∙ given_more items (places_of c.in-Some.row) (values c.in-Some-next_beside.beside) (as_many g c) (rows_places c.next.new.self)
    (left g c)

callable : (g : Over) (c : In-Some-next_beside g) → CallableBesideEach (shown_beside g.C.Beside.value) g.F.FnMut
    (items_beside c.loop-row.cells.items (places_of c.in-Some.row) (g.C.Beside.values c.in-Some-next_beside.beside)
    ++ items_beside c.loop-row.cells.items (rows_places c.next.new.self) (left g c)) c.loop-row.f
callable g c =
    subst (λ given. CallableBesideEach (shown_beside g.C.Beside.value) g.F.FnMut given c.loop-row.f) (given g c)
    c.loop-row.invariant.callable

pub call_row-f-requires-clause-row : goal.call_row-f-requires-clause-row
call_row-f-requires-clause-row g c =
    let at = (goal.at.call_row-f-requires-clause-row g c).In-Some-next_beside in
    subst (λ right. OwnsRow right.marks c.in-Some.row) (sym c.loop-row.invariant.keeps_access) (owns_first (rows g at))

pub call_row-f-requires-clause-count : goal.call_row-f-requires-clause-count
call_row-f-requires-clause-count g c = (counts g (goal.at.call_row-f-requires-clause-count g c).In-Some-next_beside).0

pub call_row-f-requires-clause-callable : goal.call_row-f-requires-clause-callable
call_row-f-requires-clause-callable g c =
    let at = (goal.at.call_row-f-requires-clause-callable g c).In-Some-next_beside in
    callable_in_part
    (items_beside c.loop-row.cells.items (places_of c.in-Some.row) (g.C.Beside.values c.in-Some-next_beside.beside))
    (items_beside c.loop-row.cells.items (rows_places c.next.new.self) (left g at)) (callable g at)

pub loop-row-preserved-in-Some-next_beside : goal.loop-row-preserved-in-Some-next_beside
loop-row-preserved-in-Some-next_beside g c =
    let at = (goal.at.loop-row-preserved-in-Some-next_beside g c).In-Some-next_beside in
    let call = CalledBeside (shown_beside g.C.Beside.value) g.F.FnMut in
    let old = c.loop-row.cells.items in
    let mid = c.call_row-f.new.cells.items in
    let these = places_of c.in-Some.row in
    let others = rows_places c.next.new.self in
    let values = g.C.Beside.values c.in-Some-next_beside.beside in
    let first = items_beside old these values in
    let more = items_beside old others (left g at) in
    let run = c.call_row-f.ensures.ran in
    let count = given_count old these values (as_many g at) in
    let stay : items_beside mid others (left g at) ≡ more =
    ap (λ items. pairs_of items (left g at)) (others_stay these others old mid (distinct g at) run.others) in
    record {
      few = others_few (λ row. g.row.FEW ≡ row.len) c.in-Some.ensures.steps c.loop-row.invariant.few;
      callable = subst (λ given. CallableBesideEach (shown_beside g.C.Beside.value) g.F.FnMut given c.call_row-f.result) (sym stay)
          (callable_after (λ p q x y called. (y, called)) c.loop-row.f c.call_row-f.result first (map (item_at_place mid) these) more
          (count ∙ sym (length-map these (item_at_place mid))) run.calls (callable g at));
      rows = owns_others (rows g at);
      count = (counts g at).1;
      keeps_access = c.call_row-f.ensures.keeps_access ∙ c.loop-row.invariant.keeps_access;
      run = λ new last rest.
          c.loop-row.invariant.run new last
          (subst (λ all. MapsTo call c.loop-row.f (rows_places c.loop-row.row-iterator) all old new last) (sym (given g at))
          (subst (λ zs. MapsTo call c.loop-row.f zs (first ++ more) old new last) (sym (places g at))
          (both_run count (distinct g at) run (subst (λ given. MapsTo call c.call_row-f.result others given mid new last) stay rest))));
    }

pub returns-clause-ran : goal.returns-clause-ran
returns-clause-ran g c =
    let call = CalledBeside (shown_beside g.C.Beside.value) g.F.FnMut in
    let items = c.loop-row.cells.items in
    let none = c.in-None.ensures.steps.0 in
    let run = c.loop-row.invariant.run items c.loop-row.f
    (subst (λ rows. MapsTo call c.loop-row.f (rows_places rows) (items_beside items (rows_places rows)
    (flat_map g.C.Beside.values (g.C.Beside.ones c.loop-row.beside rows))) items items c.loop-row.f) (sym none) no_run) in
    record { ran = record { last = c.loop-row.f; calls = run.calls }; others = run.others }

pub returns-clause-keeps_access : goal.returns-clause-keeps_access
returns-clause-keeps_access g c = c.loop-row.invariant.keeps_access
