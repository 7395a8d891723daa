-- The rows before so many.
use Rattle.std.proofs.Common.{◌-◌, drop, length, map, sym, take, ap, subst, ◌∙◌, arith}
use Rattle.std.proofs.Math.Nat.{min-le_right}
use Rattle.std.proofs.lemmas.List.{length-map, take-map}
use Rattle.ndarray_layout.specs.declared.Order.TheVariants.{RowMajor}
use Rattle.ndarray_layout.specs.Rows.{rows_places, view_rows}
use Rattle.nd_access.specs.Own.{AreOwn}
use Rattle.nd_lent.specs.RowsLeft.{row_array}
use Rattle.nd_access.proofs.Laws.Between.{between_cut}
use Rattle.nd_access.proofs.Laws.OwnRows.{own_rows_taken}
use Rattle.nd_lent.proofs.array_view_mut.rows.LanesMut.advance_back.Goals as goal

pub overflow_sub-self-2 : goal.overflow_sub-self-2
overflow_sub-self-2 g c =
    let self = c.args.self.now in
    omega (arith, self.own.number, c.min.ensures, min-le_right c.args.count (self.end - self.begun))

pub invariant_of-self : goal.invariant_of-self
invariant_of-self g c =
    let self = c.args.self.now in
    let rows = view_rows RowMajor self.view in
    let left = drop self.begun (take self.end rows) in
    record {
      own = record {
        number = omega (arith, self.own.number, c.min.ensures, min-le_right c.args.count (self.end - self.begun));
        within = omega (arith, self.own.within);
        own = subst (λ left. AreOwn self.cells.marks (rows_places left))
            (sym (between_cut rows self.begun self.end self.own.number self.own.within c.args.count c.min.ensures))
            (own_rows_taken (length left - c.args.count) left self.own.own);
      };
    }

pub returns-clause-left : goal.returns-clause-left
returns-clause-left g c =
    let self = c.args.self.now in
    let rows = view_rows RowMajor self.view in
    let left = drop self.begun (take self.end rows) in
    let array = row_array self.cells.items in
    ap (map array) (between_cut rows self.begun self.end self.own.number self.own.within c.args.count c.min.ensures)
    ∙ sym (take-map array (length left - c.args.count) left)
    ∙ ap (λ n. take (n - c.args.count) (map array left)) (sym (length-map left array))
