-- The next index is in the row in progress, or is the first one of the next row.
use Rattle.std.proofs.Common.{◌≡◌, ◌+◌, length, ap, refl, sym, ◌∙◌, arith}
use Rattle.std.proofs.lemmas.Bool.{false≢true}
use Rattle.ndarray_layout.specs.declared.Order.TheVariants.{RowMajor}
use Rattle.ndarray_layout.specs.IndicesLeft.{indices_left}
use Rattle.ndarray_layout.specs.Memory.{NeedsNoMemory}
use Rattle.ndarray_layout.proofs.Laws.IndicesLeft.{indices_left-none}
use Rattle.nd_items.specs.private.IndexRow.{left_from}
use Rattle.nd_items.proofs.IndexRow.{holds_of_row, next_counts, next_first, next_here, next_in_row, next_many}
use Rattle.nd_items.proofs.next_index.NextIndex.take.Goals as goal

pub returns-in_err-index-clause-memory : goal.returns-in_err-index-clause-memory
returns-in_err-index-clause-memory g c = λ all.
    let self = c.self.inside in
    let list = g.D.Lengths.list in
    let needs = holds_of_row (list self.dim) (list self.row) self.at c.self.invariant (λ n. NeedsNoMemory g.D.FixedCount.NDIM n)
    (omega (arith, c.if-self.true)) (rw (← c.self.view_is) at all) in
    absurd (false≢true (c.in_err-index.ensures.memory needs))

pub returns-then-self-clause-first : goal.returns-then-self-clause-first
returns-then-self-clause-first g c =
    let self = c.self.inside in
    let list = g.D.Lengths.list in
    sym c.self.view_is
    ∙ next_in_row (list self.dim) (list self.row) self.at c.self.invariant c.if-self.true
    (record { last = self.at.last + 1; len = self.at.len; after = self.at.after }) refl refl refl c.in_ok-index.ensures.index

pub returns-then-self-eq0-clause-first : goal.returns-then-self-eq0-clause-first
returns-then-self-eq0-clause-first g c =
    let self = c.self.inside in
    let shape = g.D.Lengths.list self.dim in
    let none : left_from self.at ≡ 0 = omega (arith, c.if-self.false, c.if-self-eq0.true) in
    let nothing = sym c.self.view_is ∙ ap (indices_left RowMajor shape) none ∙ indices_left-none RowMajor shape in (nothing, nothing)

pub copy_from_slice-requires : goal.copy_from_slice-requires
copy_from_slice-requires g c =
    let self = c.self.inside in
    let list = g.D.Lengths.list in
    let many = next_many (list self.dim) (list self.row) self.at c.self.invariant c.if-self.false c.if-self-eq0.false
    c.in_ok-index-2.ensures.next in
    omega (arith, many, ap length c.slice_mut.ensures.list, ap length c.slice.ensures.list)

pub of-self-inside-requires-clause-here : goal.of-self-inside-requires-clause-here
of-self-inside-requires-clause-here g c =
    let self = c.self.inside in
    let list = g.D.Lengths.list in
    rw (c.slice-2.ensures.list, c.slice-3.ensures.list)
    (next_here (list self.dim) (list self.row) self.at c.self.invariant c.if-self.false c.if-self-eq0.false c.in_ok-index-2.ensures.next)

pub of-self-inside-requires-clause-left : goal.of-self-inside-requires-clause-left
of-self-inside-requires-clause-left g c =
    let self = c.self.inside in
    let list = g.D.Lengths.list in
    rw (c.slice-2.ensures.list, c.slice-3.ensures.list)
    (next_counts (list self.dim) (list self.row) self.at c.self.invariant c.if-self.false c.if-self-eq0.false c.in_ok-index-2.ensures.next)

pub returns-in_err-index-2-clause-memory : goal.returns-in_err-index-2-clause-memory
returns-in_err-index-2-clause-memory g c = λ all.
    let self = c.self.inside in
    let list = g.D.Lengths.list in
    let needs = holds_of_row (list self.dim) (list self.row) self.at c.self.invariant (λ n. NeedsNoMemory g.D.FixedCount.NDIM n)
    (omega (arith, c.if-self-eq0.false)) (rw (← c.self.view_is) at all) in
    absurd (false≢true (c.in_err-index-2.ensures.memory needs))

pub returns-clause-first : goal.returns-clause-first
returns-clause-first g c =
    let self = c.self.inside in
    let at = c.of-self-inside.result in
    let list = g.D.Lengths.list in
    sym c.self.view_is
    ∙ next_first (list self.dim) (list self.row) self.at c.self.invariant c.if-self.false c.if-self-eq0.false c.in_ok-index-2.ensures.next
    (record { last = at.last + 1; len = at.len; after = at.after }) at c.of-self-inside.ensures.left c.of-self-inside.ensures.last
    refl refl refl refl
