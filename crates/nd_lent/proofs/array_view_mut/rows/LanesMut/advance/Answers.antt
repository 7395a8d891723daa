-- The rows after so many.
use Rattle.std.proofs.Common.{◌-◌, drop, map, sym, take, ap, subst, ◌∙◌, arith}
use Rattle.std.proofs.Math.Nat.{min-le_right}
use Rattle.std.proofs.lemmas.List.{drop-map}
use Rattle.ndarray_layout.specs.declared.Order.TheVariants.{RowMajor}
use Rattle.ndarray_layout.specs.Rows.{rows_places, view_rows}
use Rattle.nd_access.specs.Own.{AreOwn}
use Rattle.nd_lent.specs.RowsLeft.{row_array}
use Rattle.nd_access.proofs.Laws.Between.{between_advanced}
use Rattle.nd_access.proofs.Laws.OwnRows.{own_rows_dropped}
use Rattle.nd_lent.proofs.array_view_mut.rows.LanesMut.advance.Goals as goal

pub overflow_add-self : goal.overflow_add-self
overflow_add-self g c =
    let self = c.args.self.now in
    omega (arith, self.own.number, c.min.ensures, min-le_right c.args.count (self.end - self.begun))

pub invariant_of-self : goal.invariant_of-self
invariant_of-self g c =
    let self = c.args.self.now in
    let rows = view_rows RowMajor self.view in
    record {
      own = record {
        number = omega (arith, self.own.number, c.min.ensures, min-le_right c.args.count (self.end - self.begun));
        within = self.own.within;
        own = subst (λ left. AreOwn self.cells.marks (rows_places left))
            (sym (between_advanced rows self.begun self.end self.own.number self.own.within c.args.count c.min.ensures))
            (own_rows_dropped c.args.count (drop self.begun (take self.end rows)) self.own.own);
      };
    }

pub returns-clause-left : goal.returns-clause-left
returns-clause-left g c =
    let self = c.args.self.now in
    let rows = view_rows RowMajor self.view in
    let array = row_array self.cells.items in
    ap (map array) (between_advanced rows self.begun self.end self.own.number self.own.within c.args.count c.min.ensures)
    ∙ sym (drop-map array c.args.count (drop self.begun (take self.end rows)))
