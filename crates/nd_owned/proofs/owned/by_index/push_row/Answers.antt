-- The result at one coordinate more is appended.
use Rattle.std.proofs.Common.{◌≡◌, ◌-◌, rules, ap, length, set, refl, arith, ◌∙◌}
use Rattle.nd_access.proofs.Laws.Pushed.{all_left, all_pushed, first_pushed, takes_first}
use Rattle.nd_owned.specs.ByIndex.{CalledAtIndex}
use Rattle.nd_owned.specs.private.IndexRow.{with_last}
use Rattle.nd_owned.proofs.IndexRows.{first_of_row, length-rest_of_row, none_of_row}
use Rattle.nd_owned.proofs.owned.by_index.push_row.Given.{Over}
use Rattle.nd_owned.proofs.owned.by_index.push_row.Goals as goal
use Rattle.nd_owned.proofs.owned.by_index.push_row.Goals.{After-into_pattern}

pub loop-coordinate-init : goal.loop-coordinate-init
loop-coordinate-init g c =
    let count = length-rest_of_row (g.D.Lengths.list c.args.index.now) c.args.len in
    rw (c.slice.ensures.list, c.ndim-last.ensures.count) (record {
      are = all_left refl c.requires.callable;
      count = omega (arith, count);
      capacity = omega arith;
    })

-- the pattern is that of the index with the coordinate
is_pattern : (g : Over) (c : After-into_pattern g)
    → g.D.Pattern.IntoDimension.lens c.into_pattern.result ≡ with_last (g.D.Lengths.list c.args.index.now) c.loop-coordinate.coordinate
is_pattern g c =
    let at = c.in_ok-at.at in
    let lens = c.slice_mut.result.now in
    let last = c.ndim-last.result - 1 in
    let coordinate = c.loop-coordinate.coordinate in
    c.into_pattern.ensures
    ∙ g.met.D.Lengths.list_of_with_list at (set lens last coordinate) (search (rules, ap length c.slice_mut.ensures.list))
    ∙ ap (λ xs. set xs last coordinate) (c.slice_mut.ensures.list ∙ c.in_ok-at.ensures.list)
    ∙ ap (λ n. set (g.D.Lengths.list c.args.index.now) (n - 1) coordinate) c.ndim-last.ensures.count

pub f-requires : goal.f-requires
f-requires g c =
    let first = first_of_row (g.D.Lengths.list c.args.index.now) c.loop-coordinate.coordinate c.args.len c.loop-coordinate-test.true in
    let is = is_pattern g (goal.at.f-requires g c).After-into_pattern in
    search (rules, takes_first first c.loop-coordinate.invariant.are c.into_pattern.result is)

pub push_reserved-requires : goal.push_reserved-requires
push_reserved-requires g c = omega (
  arith,
  c.requires.room,
  c.loop-coordinate.invariant.count,
  c.loop-coordinate.invariant.capacity,
  c.loop-coordinate-test.true,
)

pub loop-coordinate-preserved : goal.loop-coordinate-preserved
loop-coordinate-preserved g c =
    let index = g.D.Lengths.list c.args.index.now in
    let coordinate = c.loop-coordinate.coordinate in
    let first = first_of_row index coordinate c.args.len c.loop-coordinate-test.true in
    let is = is_pattern g (goal.at.loop-coordinate-preserved g c).After-into_pattern in
    let called : CalledAtIndex g.F.FnMut g.D.Pattern.IntoDimension.lens c.loop-coordinate.f (with_last index coordinate) c.f.result
    c.f.new.self = (c.into_pattern.result, is, c.f.ensures) in
    record {
      are = first_pushed c.f.result first called c.push_reserved.ensures.items c.loop-coordinate.invariant.are;
      count = omega (arith, c.loop-coordinate.invariant.count, c.loop-coordinate-test.true, c.push_reserved.ensures.len);
      capacity = omega (arith, c.loop-coordinate.invariant.capacity, c.push_reserved.ensures.capacity);
    }

pub returns-clause-pushed : goal.returns-clause-pushed
returns-clause-pushed g c =
    let none = none_of_row (g.D.Lengths.list c.args.index.now) c.loop-coordinate.coordinate c.args.len
    (omega (arith, c.loop-coordinate-test.false)) in
    all_pushed none c.loop-coordinate.invariant.are

pub returns-clause-len : goal.returns-clause-len
returns-clause-len g c = omega (arith, c.loop-coordinate.invariant.count, c.loop-coordinate-test.false)
