-- Once the calls at the rows that are left are made, those at all rows are.
use Rattle.std.proofs.Common.{◌≡◌, ◌<◌, List, length}
use Rattle.std.specs.List.{All, AllZip, flat_map}
use Rattle.ndarray_layout.specs.Rows.{rows_places}
use Rattle.nd_access.specs.Rights.{right_of}
use Rattle.nd_access.specs.MapsTo.{MapsTo}
use Rattle.nd_access.specs.Zipped.{CallableBesideEach, CalledBeside}
use Rattle.nd_loops.specs.Beside.{items_beside, shown_beside}
use Rattle.nd_loops.specs.OwnedRows.{OwnsEachRow}
use Rattle.nd_loops.proofs.calling.call_each.Given as goal

abbrev pub invariant-loop-row : goal.invariant-loop-row
invariant-loop-row g l = record {
  few : 0 < g.row.FEW → All (λ row. g.row.FEW ≡ row.len) l.row-iterator;
  callable : CallableBesideEach (shown_beside g.C.Beside.value) g.F.FnMut
      (items_beside l.cells.items (rows_places l.row-iterator)
      (flat_map g.C.Beside.values (g.C.Beside.ones l.beside l.row-iterator))) l.f;
  rows : OwnsEachRow l.fn.cells.marks l.row-iterator;
  count : AllZip (λ row one. length (g.C.Beside.values one) ≡ row.len) l.row-iterator
      (g.C.Beside.ones l.beside l.row-iterator);
  keeps_access : right_of l.cells ≡ right_of l.fn.cells;
  run : (new : List g.row.T.Denot) (last : g.row.F.Denot)
      → MapsTo (CalledBeside (shown_beside g.C.Beside.value) g.F.FnMut) l.f (rows_places l.row-iterator)
      (items_beside l.cells.items (rows_places l.row-iterator)
      (flat_map g.C.Beside.values (g.C.Beside.ones l.beside l.row-iterator))) l.cells.items new last
      → MapsTo (CalledBeside (shown_beside g.C.Beside.value) g.F.FnMut) l.fn.f (rows_places l.fn.rows)
      (items_beside l.fn.cells.items (rows_places l.fn.rows)
      (flat_map g.C.Beside.values (g.C.Beside.ones l.fn.beside l.fn.rows))) l.fn.cells.items new last;
}
