-- The row of the next number is a part of its own, and the right has the others.
use Rattle.std.proofs.Common.{length, ap, option_map, sym, take, ◌∙◌, arith}
use Rattle.std.proofs.lemmas.List.{length-drop}
use Rattle.ndarray_layout.specs.declared.Order.TheVariants.{RowMajor}
use Rattle.ndarray_layout.specs.Rows.{row_view, view_rows}
use Rattle.ndarray_layout.proofs.Laws.Rows.{few_rows}
use Rattle.nd_access.proofs.Laws.Between.{slice_get-take}
use Rattle.nd_access.proofs.Laws.OwnRows.{next_comes, next_is_part, none_left, others_left}
use Rattle.nd_lent.proofs.array_view_mut.rows.LanesMutIterator.next.Goals as goal

pub returns-in_err-row-clause-steps : goal.returns-in_err-row-clause-steps
returns-in_err-row-clause-steps g c =
    let self = c.args.self.now in
    let rows = view_rows RowMajor self.view in
    let none = none_left rows self.begun c.in_err-row.ensures.row in
    let no : ⊥ = omega (arith, ap length none, length-drop self.begun rows, self.own.within, self.own.number) in
    absurd no

pub overflow_add-self : goal.overflow_add-self
overflow_add-self g c =
    let self = c.args.self.now in
    omega (arith, self.own.number, self.own.within, few_rows RowMajor c.nth_row.ensures.is_view)

pub take_from-requires : goal.take_from-requires
take_from-requires g c =
    let self = c.args.self.now in
    let rows = view_rows RowMajor self.view in
    let found =
    c.in_ok-row.ensures.row ∙ ap (option_map row_view) (sym (slice_get-take rows self.end self.begun (omega (arith, self.own.number)))) in
    next_is_part self.cells.marks (take self.end rows) self.begun self.own.own found c.in_ok-row.ensures.row_is_view

pub invariant_of-self-2 : goal.invariant_of-self-2
invariant_of-self-2 g c =
    let self = c.args.self.now in
    let rows = view_rows RowMajor self.view in
    let found =
    c.in_ok-row.ensures.row ∙ ap (option_map row_view) (sym (slice_get-take rows self.end self.begun (omega (arith, self.own.number)))) in
    record {
      own = record {
        number = omega (arith, self.own.number);
        within = self.own.within;
        own = rw c.take_from.ensures.left (others_left self.cells.marks (take self.end rows) self.begun self.own.own found);
      };
    }

pub returns-clause-steps : goal.returns-clause-steps
returns-clause-steps g c =
    let self = c.args.self.now in
    let rows = view_rows RowMajor self.view in
    let found =
    c.in_ok-row.ensures.row ∙ ap (option_map row_view) (sym (slice_get-take rows self.end self.begun (omega (arith, self.own.number)))) in
    next_comes self.cells.marks (take self.end rows) self.begun self.own.own found self.cells.items
    c.take_from.ensures.array c.take_from.ensures.items

pub returns-clause-goes : goal.returns-clause-goes
returns-clause-goes g c =
    let shorter = ap length (returns-clause-steps g c) in
    record { on = λ _. (tt, tt, omega (arith, shorter)); keeps = tt; rests = λ _. tt }
