-- The last index of a row is followed by the first one of the next row.
use Rattle.std.proofs.Common.{◌≡◌, ◌+◌, ◌-◌, ◌<◌, List, ℕ, get_or, length, set, rules, sym, ap, subst, ◌∙◌, arith}
use Rattle.std.proofs.lemmas.Bool.{false≢true}
use Rattle.ndarray_layout.specs.FlatIndex.{flat_index}
use Rattle.ndarray_layout.specs.Size.{size}
use Rattle.nd_owned.specs.private.IndexRow.{IsNextRow, with_last}
use Rattle.nd_owned.proofs.IndicesByRow.{flat_of_last, last_of_row, len_of_shape, length_of_index, next_row_is, some_below}
use Rattle.nd_owned.proofs.owned.by_index.next_row.Given.{Over}
use Rattle.nd_owned.proofs.owned.by_index.next_row.Goals as goal
use Rattle.nd_owned.proofs.owned.by_index.next_row.Goals.{After-slice_mut-2}

pub overflow_sub-slice : goal.overflow_sub-slice
overflow_sub-slice g c =
    let shape = g.D.Lengths.list c.args.dim.now in
    let index = g.D.Lengths.list c.args.index.now in
    let some = some_below shape index c.requires.axes c.requires.here in
    rw (c.slice.ensures.list, c.ndim-last.ensures.count, ← len_of_shape shape index c.requires.axes c.requires.here) some

pub bounds-slice_mut-last : goal.bounds-slice_mut-last
bounds-slice_mut-last g c =
    let many = length_of_index (g.D.Lengths.list c.args.dim.now) (g.D.Lengths.list c.args.index.now) c.requires.here in
    omega (arith, c.ndim-last.ensures.count, ap length c.slice_mut.ensures.list, many, c.requires.axes)

-- the index is the last one of its row then
moved : (g : Over) (c : After-slice_mut-2 g) → c.slice_mut-2.result.now ≡ with_last (g.D.Lengths.list c.args.index.now)
    (get_or (g.D.Lengths.list c.args.dim.now) (length (g.D.Lengths.list c.args.index.now) - 1) 0 - 1)
moved g c =
    let shape = g.D.Lengths.list c.args.dim.now in
    let index = g.D.Lengths.list c.args.index.now in
    let lens = c.slice_mut.result.now in
    let last = c.ndim-last.result - 1 in
    let value = get_or c.slice.result.now last 0 - 1 in
    let count = c.ndim-last.ensures.count ∙ sym (length_of_index shape index c.requires.here) in
    c.slice_mut-2.ensures.list
    ∙ g.met.D.Lengths.list_of_with_list c.args.index.now (set lens last value) (search (rules, ap length c.slice_mut.ensures.list))
    ∙ ap (λ xs. set xs last value) c.slice_mut.ensures.list
    ∙ ap (λ xs. set index last (get_or xs last 0 - 1)) c.slice.ensures.list
    ∙ ap (λ n. set index (n - 1) (get_or shape (n - 1) 0 - 1)) count

pub advance_row_major-requires : goal.advance_row_major-requires
advance_row_major-requires g c =
    let shape = g.D.Lengths.list c.args.dim.now in
    let index = g.D.Lengths.list c.args.index.now in
    rw (c.slice-2.ensures.list, moved g (goal.at.advance_row_major-requires g c).After-slice_mut-2)
    (last_of_row shape index c.requires.axes c.requires.here)

pub returns-clause-next : goal.returns-clause-next
returns-clause-next g c = λ is.
    let shape = g.D.Lengths.list c.args.dim.now in
    let index = g.D.Lengths.list c.args.index.now in
    let new = c.advance_row_major.new.index in
    let at = moved g (goal.at.returns-clause-next g c).After-slice_mut-2 in
    let kept = g.met.D.Lengths.list_of_with_list _ new (c.advance_row_major.auto.index ∙ ap length c.slice_mut-2.ensures.list) in
    let more = rw (c.slice-2.ensures.list, at) at c.advance_row_major.ensures.more.0 is in
    let next = rw (c.slice-2.ensures.list, at, is) at c.advance_row_major.ensures.next in
    subst (λ (xs : List ℕ). IsNextRow shape index xs) (sym kept)
    (next_row_is shape index c.requires.axes c.requires.here new more next)

pub returns-clause-end : goal.returns-clause-end
returns-clause-end g c = λ no.
    let shape = g.D.Lengths.list c.args.dim.now in
    let index = g.D.Lengths.list c.args.index.now in
    let at = moved g (goal.at.returns-clause-end g c).After-slice_mut-2 in
    let flat = flat_of_last shape index c.requires.axes c.requires.here in
    let last = with_last index (get_or shape (length index - 1) 0 - 1) in
    let ended : flat_index shape last + 1 < size shape → ⊥ = λ below.
    false≢true (sym no ∙ (rw (c.slice-2.ensures.list, at) at c.advance_row_major.ensures.more).1 below) in
    grind (arith, flat, ended)
