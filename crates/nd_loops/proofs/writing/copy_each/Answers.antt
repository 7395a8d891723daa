-- The items of one row more are copied.
use Rattle.std.proofs.Common.{◌≡◌, ◌<◌, List, [], ◌∷◌, ◌++◌, length, refl, sym, ap, subst, ◌∙◌, arith}
use Rattle.std.specs.List.{All, AllZip}
use Rattle.std.proofs.lemmas.List.Elements.{All-tail}
use Rattle.ndarray_layout.specs.declared.Row.{Row}
use Rattle.ndarray_layout.specs.Rows.{rows_places}
use Rattle.nd_access.specs.LentRow.{RowValue, places_of, rows_items}
use Rattle.nd_access.specs.Written.{HasSet}
use Rattle.nd_access.proofs.Laws.MapsTo.{Distinct}
use Rattle.nd_loops.specs.OwnedRows.{OwnsEachRow, OwnsRow}
use Rattle.nd_loops.proofs.Laws.Few.{others_few}
use Rattle.nd_loops.proofs.Laws.RowsOwned.{owns_first, owns_others}
use Rattle.nd_loops.proofs.Laws.SetItems.{both_set, none_set}
use Rattle.nd_loops.proofs.writing.copy_each.Given.{Over}
use Rattle.nd_loops.proofs.writing.copy_each.Goals as goal
use Rattle.nd_loops.proofs.writing.copy_each.Goals.{In-Some}

pub loop-row-init : goal.loop-row-init
loop-row-init g c =
    let same = c.into_iter-row-iterator.ensures.into_iter_gives in
    record {
      few = λ some. subst (All (λ row. g.row.FEW ≡ row.len)) (sym same) (c.requires.few some);
      some = subst (All (λ row. 0 < row.len)) (sym same) c.requires.some;
      rows = subst (OwnsEachRow c.args.cells.now.marks) (sym same) c.requires.rows;
      count = subst (λ rows. AllZip (λ row source. row.len ≡ source.row.len) rows c.args.sources) (sym same) c.requires.count;
      long = refl;
      keeps_access = refl;
      copied = λ new left. subst (λ rows. HasSet (rows_places rows) (rows_items c.args.sources) c.args.cells.now.items new) same left;
    }

-- the row, and the others
rows : (g : Over) (c : In-Some g) → OwnsEachRow c.args.cells.now.marks (c.in-Some.row ∷ c.next.new.self)
rows g c = subst (OwnsEachRow c.args.cells.now.marks) c.in-Some.ensures.steps c.loop-row.invariant.rows

pub copy_row-requires-clause-row : goal.copy_row-requires-clause-row
copy_row-requires-clause-row g c =
    let at = (goal.at.copy_row-requires-clause-row g c).In-Some in
    subst (λ right. OwnsRow right.marks c.in-Some.row) (sym c.loop-row.invariant.keeps_access) (owns_first (rows g at))

pub loop-row-preserved-in-Some-next : goal.loop-row-preserved-in-Some-next
loop-row-preserved-in-Some-next g c =
    let at = (goal.at.loop-row-preserved-in-Some-next g c).In-Some in
    let old = c.loop-row.cells.items in
    let others = rows_places c.next.new.self in
    let first = ap rows_places c.in-Some.ensures.steps in
    let counts = subst (AllZip (λ row source. row.len ≡ source.row.len) (c.in-Some.row ∷ c.next.new.self)) c.in-Some-next.ensures.steps
    (subst (λ rows. AllZip (λ row source. row.len ≡ source.row.len) rows c.loop-row.sources) c.in-Some.ensures.steps
    c.loop-row.invariant.count) in
    record {
      few = others_few (λ row. g.row.FEW ≡ row.len) c.in-Some.ensures.steps c.loop-row.invariant.few;
      some = All-tail (λ row. 0 < row.len) c.in-Some.row c.next.new.self
          (subst (All (λ row. 0 < row.len)) c.in-Some.ensures.steps c.loop-row.invariant.some);
      rows = owns_others (rows g at);
      count = counts.1;
      long = c.copy_row.ensures.count ∙ c.loop-row.invariant.long;
      keeps_access = c.copy_row.ensures.keeps_access ∙ c.loop-row.invariant.keeps_access;
      copied = λ new left.
          c.loop-row.invariant.copied new
          (subst (λ places. HasSet places (rows_items c.loop-row.sources) old new) (sym first)
          (subst (λ given. HasSet (places_of c.in-Some.row ++ others) given old new) (sym (ap rows_items c.in-Some-next.ensures.steps))
          (both_set (subst Distinct first c.loop-row.invariant.rows.own.apart) c.copy_row.ensures.copied left)));
    }

-- where no row is left, no other one is
none_left : {T : Type 0} (rows : List Row) (sources : List (RowValue T)) → AllZip (λ row source. row.len ≡ source.row.len) rows sources
    → rows ≡ [] → rows_items sources ≡ []
none_left rows [] count ended = refl
none_left [] (source ∷ sources) count ended = absurd count
none_left (row ∷ rows) (source ∷ sources) count ended = absurd (omega (arith, ap length ended))

pub returns-clause-copied : goal.returns-clause-copied
returns-clause-copied g c =
    let items = c.loop-row.cells.items in
    let none = c.in-None.ensures.steps.0 in
    c.loop-row.invariant.copied items
    (subst (λ places. HasSet places (rows_items c.loop-row.sources) items items) (sym (ap rows_places none))
    (subst (λ given. HasSet [] given items items)
    (sym (none_left c.loop-row.row-iterator c.loop-row.sources c.loop-row.invariant.count none)) none_set))
