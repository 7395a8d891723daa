-- The row before the end is a part of its own, and the right has those before it.
use Rattle.std.proofs.Common.{◌-◌, length, ap, ◌∙◌, arith}
use Rattle.std.proofs.lemmas.List.{length-drop, length_push}
use Rattle.ndarray_layout.specs.declared.Order.TheVariants.{RowMajor}
use Rattle.ndarray_layout.specs.Rows.{view_rows}
use Rattle.nd_access.proofs.Laws.OwnRows.{before_left, last_comes, last_is_part, none_left}
use Rattle.nd_lent.proofs.array_view_mut.rows.LanesMutDoubleEndedIterator.next_back.Goals as goal

pub returns-in_err-row-clause-steps : goal.returns-in_err-row-clause-steps
returns-in_err-row-clause-steps g c =
    let self = c.args.self.now in
    let rows = view_rows RowMajor self.view in
    let none = none_left rows (self.end - 1) c.in_err-row.ensures.row in
    let no : ⊥ = omega (arith, ap length none, length-drop (self.end - 1) rows, self.own.within, self.own.number) in
    absurd no

pub take_from-requires : goal.take_from-requires
take_from-requires g c =
    let self = c.args.self.now in
    let rows = view_rows RowMajor self.view in
    last_is_part self.cells.marks rows self.begun self.end (omega (arith, self.own.number)) self.own.own c.in_ok-row.ensures.row
    c.in_ok-row.ensures.row_is_view

pub invariant_of-self-2 : goal.invariant_of-self-2
invariant_of-self-2 g c =
    let self = c.args.self.now in
    let rows = view_rows RowMajor self.view in
    record {
      own = record {
        number = omega (arith, self.own.number);
        within = omega (arith, self.own.within);
        own = rw c.take_from.ensures.left
            (before_left self.cells.marks rows self.begun self.end (omega (arith, self.own.number)) self.own.own c.in_ok-row.ensures.row);
      };
    }

pub returns-clause-steps : goal.returns-clause-steps
returns-clause-steps g c =
    let self = c.args.self.now in
    let rows = view_rows RowMajor self.view in
    last_comes self.cells.marks rows self.begun self.end (omega (arith, self.own.number)) self.own.own c.in_ok-row.ensures.row
    self.cells.items c.take_from.ensures.array c.take_from.ensures.items

pub returns-clause-goes : goal.returns-clause-goes
returns-clause-goes g c =
    let shorter = ap length (returns-clause-steps g c) ∙ length_push _ _ in
    record { on = λ _. (tt, tt, omega (arith, shorter)); keeps = tt; rests = λ _. tt }
