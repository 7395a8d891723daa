-- Each place gets the item of its axis, and so the list those of all axes in order.
use Rattle.std.proofs.Common.{rules, ◌≡◌, ℕ, ◌+◌, ◌<◌, List, length, get_or, set, sym, ap, ◌∙◌, inl, inr, arith}
use Rattle.std.proofs.lemmas.Bool.{cases_lt}
use Rattle.std.proofs.lemmas.List.{ext_get_or, get_or-map, get_or-set_other, get_or-set_same, length-map, length-set}
use Rattle.nd_base.specs.declared.axis.Axis.{Axis}
use Rattle.nd_dim.specs.AxesInOrder.{axis_numbers}
use Rattle.nd_dim.specs.AxesInOrder.{reordered as in_order}
use Rattle.nd_dim.proofs.Laws.AxesInOrder.{get_or_map_at, item_below}
use Rattle.ndarray_layout.proofs.strided.permuting.write_reordered.Goals as goal

-- the number of the axis at a place
number_at : (axes : List Axis) (position number : ℕ) (d : Axis) → position < length axes → number ≡ (get_or axes position d).0
    → number ≡ get_or (axis_numbers axes) position 0
number_at axes position number d in_bounds e = e ∙ sym (get_or-map (λ axis. axis.0) axes position d 0 in_bounds)

many : (axes : List Axis) → length (axis_numbers axes) ≡ length axes
many axes = length-map axes (λ axis. axis.0)

pub bounds-items-index : goal.bounds-items-index
bounds-items-index c =
    let axes = c.args.axes.now in
    let in_bounds : c.loop-position.position < length axes = search rules in
    let number = number_at axes c.loop-position.position c.index.result _ in_bounds c.index.ensures in
    rw number (item_below (length c.args.items.now) (axis_numbers axes) c.requires.order c.loop-position.position
    (omega (arith, many axes)))

pub offset_bounds-items-index : goal.offset_bounds-items-index
offset_bounds-items-index c =
    let axes = c.args.axes.now in
    let in_bounds : c.loop-position.position < length axes = search rules in
    let number = number_at axes c.loop-position.position c.index.result _ in_bounds c.index.ensures in
    let here : c.index.result < length c.args.items.now =
    rw number (item_below (length c.args.items.now) (axis_numbers axes) c.requires.order c.loop-position.position
    (omega (arith, many axes))) in
    omega (arith, c.type_inv.items)

-- the first places have their items
abbrev AreMoved : List ℕ → List ℕ → List ℕ → ℕ → Type 0
AreMoved moved numbers items count = (k : ℕ) → k < count → get_or moved k 0 ≡ get_or items (get_or numbers k 0) 0

-- and one more
one_more : (moved numbers items : List ℕ) (position : ℕ) {number : ℕ} → position < length moved → number ≡ get_or numbers position 0
    → AreMoved moved numbers items position → AreMoved (set moved position (get_or items number 0)) numbers items (position + 1)
one_more moved numbers items position {number} in_bounds is so_far k before = elim (cases_lt k position) [
  | inl earlier ↦ get_or-set_other moved position k (get_or items number 0) 0 (λ e. absurd (omega arith)) ∙ so_far k earlier
  | inr last ↦
      let same : k ≡ position = omega arith in
      rw same (get_or-set_same moved position (get_or items number 0) 0 in_bounds ∙ ap (λ n. get_or items n 0) is)
]

pub loop-position-preserved : goal.loop-position-preserved
loop-position-preserved c =
    let axes = c.args.axes.now in
    let moved = c.loop-position.moved in
    let in_bounds : c.loop-position.position < length axes = search rules in
    let number = number_at axes c.loop-position.position c.index.result _ in_bounds c.index.ensures in (
      length-set moved c.loop-position.position (get_or c.args.items.now c.index.result 0) ∙ c.loop-position.invariant.0,
      one_more moved (axis_numbers axes) c.args.items.now c.loop-position.position (omega (arith, c.loop-position.invariant.0)) number
          c.loop-position.invariant.1,
    )

pub returns : goal.returns
returns c =
    let numbers = axis_numbers c.args.axes.now in
    let items = c.args.items.now in
    let all = in_order {X = ℕ} 0 numbers items in
    let long : length all ≡ length numbers = length-map numbers (λ axis. get_or items axis 0) in
    ext_get_or 0 c.loop-position.moved all (omega (arith, c.loop-position.invariant.0, long, many c.args.axes.now)) (λ k in_bounds.
    let before : k < length c.args.axes.now = omega (arith, c.loop-position.invariant.0) in
    let done : k < c.loop-position.position = search rules in
    c.loop-position.invariant.1 k done ∙ sym (get_or_map_at numbers items k 0 (omega (arith, many c.args.axes.now))))
