-- Each element picks what lies between the bounds of its range, which end on the axis.
use Rattle.std.proofs.Common.{rules, arith, ◌≡◌}
use Rattle.nd_slice.specs.ElemRange.{elem_range}
use Rattle.nd_slice.proofs.Laws.ElemRange.{end_of_range, picks_of_range}
use Rattle.nd_slice.proofs.intersect.elems_share.Goals as goal
use Rattle.nd_slice.proofs.intersect.elems_share.Goals.{After-unwrap}

first_range : (c : After-unwrap) → (c.unwrap-picks.result.start, c.unwrap-picks.result.end, c.unwrap-picks.result.step)
    ≡ elem_range c.args.fit c.args.len c.args.first
first_range c = search rules

second_range : (c : After-unwrap) → (c.unwrap.result.start, c.unwrap.result.end, c.unwrap.result.step)
    ≡ elem_range c.args.fit c.args.len c.args.second
second_range c = search rules

pub intersects-requires-clause-small : goal.intersects-requires-clause-small
intersects-requires-clause-small c =
    omega (arith, c.requires.len_fits, end_of_range c.args.fit c.args.len c.args.first (first_range c) c.requires.first_fits)

pub intersects-requires-clause-other_small : goal.intersects-requires-clause-other_small
intersects-requires-clause-other_small c =
    omega (arith, c.requires.len_fits, end_of_range c.args.fit c.args.len c.args.second (second_range c) c.requires.second_fits)

pub returns : goal.returns
returns c =
    let at = c.before in
    let first = picks_of_range c.args.fit c.args.len c.args.first (first_range at) in
    let second = picks_of_range c.args.fit c.args.len c.args.second (second_range at) in
    rw (first, second) at c.intersects.ensures
