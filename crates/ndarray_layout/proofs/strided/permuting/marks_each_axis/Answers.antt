-- Each axis is marked once, or the list has not each of them.
use Rattle.std.proofs.Common.{rules, ◌≡◌, ◌<◌, length, get_or, refl, inl, inr, sym, ◌∙◌, arith}
use Rattle.std.proofs.lemmas.Bool.{cases_lt, false≢true}
use Rattle.std.proofs.lemmas.List.{get_or-map, length-map}
use Rattle.nd_dim.specs.AxesInOrder.{axis_numbers}
use Rattle.ndarray_layout.proofs.MarkedAxes.{all_marked, one_more_marked, order_of_axis_twice, order_of_no_axis}
use Rattle.ndarray_layout.proofs.strided.permuting.marks_each_axis.Goals as goal
use Rattle.ndarray_layout.proofs.strided.permuting.marks_each_axis.Goals.{After-index-number}

-- as many axes as marks
many : (g : After-index-number) → length (axis_numbers g.args.axes.now) ≡ length g.args.marks.now
many c = length-map c.args.axes.now (λ axis. axis.0) ∙ search rules

named : (c : After-index-number) → c.loop-position.position < length (axis_numbers c.args.axes.now)
named c =
    let in_bounds : c.loop-position.position < length c.args.axes.now = search rules in
    omega (arith, length-map c.args.axes.now (λ axis. axis.0))

number : (c : After-index-number) → get_or (axis_numbers c.args.axes.now) c.loop-position.position 0 ≡ c.index-number.result
number c =
    let in_bounds : c.loop-position.position < length c.args.axes.now = search rules in
    get_or-map (λ axis. axis.0) c.args.axes.now c.loop-position.position _ 0 in_bounds ∙ sym c.index-number.ensures

pub returns-then-not-is_unmarked : goal.returns-then-not-is_unmarked
returns-then-not-is_unmarked c =
    let n = length c.args.marks.now in
    let numbers = axis_numbers c.args.axes.now in
    let so_far = c.loop-position.invariant in
    let marks = c.loop-position.marks in
    let is = number c.before.before in
    elim (cases_lt (get_or numbers c.loop-position.position 0) n) [
      | inl there ↦ order_of_axis_twice so_far (named c.before.before) (λ free.
          false≢true (c.if-not-is_unmarked.ensures.1 (omega (arith, is, so_far.as_many), rw is at free)))
      | inr past ↦ order_of_no_axis n c.loop-position.position numbers (named c.before.before) past
    ]

pub loop-position-preserved : goal.loop-position-preserved
loop-position-preserved c =
    let is = number c.before.before in
    let free = c.if-not-is_unmarked.ensures.0 refl in
    let so_far = c.loop-position.invariant in
    rw (← is) (one_more_marked so_far (omega (arith, is, free.0, so_far.as_many)) (rw is free.1))

pub returns : goal.returns
returns c =
    let numbers = axis_numbers c.args.axes.now in
    let long : length numbers ≡ length c.args.marks.now = length-map c.args.axes.now (λ axis. axis.0) ∙ search rules in
    let done : c.loop-position.position ≡ length c.args.marks.now = search rules in
    sym (all_marked (rw done at c.loop-position.invariant) long)
