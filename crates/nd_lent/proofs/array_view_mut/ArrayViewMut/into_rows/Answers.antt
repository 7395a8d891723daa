-- At first the places of the rows are those of the part.
use Rattle.std.proofs.Common.{ap, length, map, sym, subst, ◌∙◌, arith}
use Rattle.std.proofs.lemmas.List.{take_all}
use Rattle.ndarray_layout.specs.declared.Order.TheVariants.{RowMajor}
use Rattle.ndarray_layout.specs.Rows.{rows_places, view_rows}
use Rattle.ndarray_layout.proofs.Laws.Rows.{rows_places-view_rows}
use Rattle.nd_access.specs.Own.{AreOwn}
use Rattle.nd_lent.specs.RowsLeft.{row_array}
use Rattle.nd_access.proofs.Laws.OwnPlaces.{own_of_part}
use Rattle.nd_lent.proofs.array_view_mut.ArrayViewMut.into_rows.Goals as goal

pub invariant_of-result : goal.invariant_of-result
invariant_of-result g c =
    let self = c.args.self in
    let rows = view_rows RowMajor self.view in
    let all = take_all c.len-end.result rows (omega (arith, c.len-end.ensures.value, ap length c.rows.ensures.items)) in
    record {
      own = record {
        number = omega arith;
        within = omega (arith, c.len-end.ensures.value, ap length c.rows.ensures.items);
        own = subst (AreOwn self.cells.marks) (sym (ap rows_places all ∙ rows_places-view_rows RowMajor self.part.is_view))
            (own_of_part self.cells.marks self.view self.part);
      };
    }

pub returns-clause-rows : goal.returns-clause-rows
returns-clause-rows g c =
    let self = c.args.self in
    let rows = view_rows RowMajor self.view in
    ap (map (row_array self.cells.items))
    (take_all c.len-end.result rows (omega (arith, c.len-end.ensures.value, ap length c.rows.ensures.items)))
