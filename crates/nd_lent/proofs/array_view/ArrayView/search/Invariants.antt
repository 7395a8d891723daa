-- Once the items of the rows that are left are searched, all are; the function may be called at them.
use Rattle.std.proofs.Common.{Bool, map}
use Rattle.std.specs.Iterator.{CallableWhile}
use Rattle.std.specs.Prelude.{not}
use Rattle.ndarray_layout.specs.declared.Order.TheVariants.{RowMajor}
use Rattle.ndarray_layout.specs.View.{view_places}
use Rattle.nd_access.specs.Items.{item_at_place}
use Rattle.nd_access.specs.LentRow.{rows_items}
use Rattle.nd_access.specs.Lending.{lends}
use Rattle.nd_loops.specs.Searched.{HasSearched}
use Rattle.nd_lent.proofs.array_view.ArrayView.search.Given as goal

abbrev pub invariant-loop-row : goal.invariant-loop-row
invariant-loop-row g l = record {
  searched : (found : Bool) (last : g.row.F.Denot) → HasSearched g.F.FnMut l.fn.wanted l.f (rows_items l.row-iterator) found last
      → HasSearched g.F.FnMut l.fn.wanted l.fn.f (map (item_at_place l.fn.self.items) (view_places RowMajor l.fn.self.view)) found last;
  callable : CallableWhile lends g.F.FnMut (not l.fn.wanted) (rows_items l.row-iterator) l.f;
}
