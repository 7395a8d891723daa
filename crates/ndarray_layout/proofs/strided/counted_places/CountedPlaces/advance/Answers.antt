-- In the row that has begun, or past whole rows in the next one, or past all of them in the one at the back.
use Rattle.std.proofs.Common.{◌≡◌, ℕ, ◌<◌, ◌≤◌, ◌+◌, ◌-◌, ◌*◌, ◌/◌, ◌%◌, pos, ◌+ℤ◌, ◌*ℤ◌, of_z, to_z, w64, drop, length, sym, ap, subst}
use Rattle.std.proofs.Common.{◌∙◌, arith}
use Rattle.std.specs.List.{All}
use Rattle.std.proofs.lemmas.Int.{ints}
use Rattle.std.proofs.lemmas.List.Elements.{All-drop, All-tail}
use Rattle.std.proofs.lemmas.Nat.{div-add-mod'}
use Rattle.nd_base.proofs.Laws.Definitions.{signed}
use Rattle.ndarray_layout.specs.PlacesLeft.{ArePlacesLeft, places_after, rows_and}
use Rattle.ndarray_layout.specs.Rows.{rows_places}
use Rattle.ndarray_layout.proofs.BothEnds.{All-and, end_fits, end_in, enters_row, length-parts, past_all, past_rows, some_later, some_len}
use Rattle.ndarray_layout.proofs.BothEnds.{some_rows}
use Rattle.ndarray_layout.proofs.LaterPlaces.{coordinate_fits, left_entered, left_later, place_fits, place_in_row, row_entered}
use Rattle.ndarray_layout.proofs.LaterPlaces.{start_fits, within_row}
use Rattle.ndarray_layout.proofs.strided.counted_places.CountedPlaces.advance.Goals as goal

pub place_along_axis-self-inside-requires-clause-small : goal.place_along_axis-self-inside-requires-clause-small
place_along_axis-self-inside-requires-clause-small g c =
    let p = c.self.inside in
    let rows = p.rows in
    omega (arith, c.if-count-left.true, c.self.invariant.1.fits, length-parts p.place p.stride (p.left - 1) rows p.back)

pub place_along_axis-self-inside-requires-clause-there : goal.place_along_axis-self-inside-requires-clause-there
place_along_axis-self-inside-requires-clause-there g c =
    let p = c.self.inside in
    let step : signed c.unsigned.result ≡ p.stride = omega (arith, ints, c.unsigned.ensures.back) in
    let there = place_in_row c.args.count c.self.invariant.1 c.if-count-left.true in
    let same = ap (λ s. pos p.place +ℤ (pos c.args.count *ℤ s)) step in
    (omega (arith, ints, same, there.0), omega (arith, ints, same, there.1))

pub invariant_of-self : goal.invariant_of-self
invariant_of-self g c =
    let p = c.self.inside in
    let step : signed c.unsigned.result ≡ p.stride = omega (arith, ints, c.unsigned.ensures.back) in
    let at = c.place_along_axis-self-inside.ensures ∙ ap (λ s. pos p.place +ℤ (pos c.args.count *ℤ s)) step in
    let there = place_in_row c.args.count c.self.invariant.1 c.if-count-left.true in
    let same : p.left - 1 - c.args.count ≡ p.left - c.args.count - 1 = omega arith in
    let left = left_later c.self.invariant.1 c.args.count (omega (arith, ints, at, there.1)) c.self.invariant.1.some
    (within_row c.self.invariant.1 c.args.count c.if-count-left.true at) in (
      omega (arith, c.if-count-left.true, c.self.invariant.0),
      subst (λ n. ArePlacesLeft c.place_along_axis-self-inside.result p.stride n (rows_and p.rows p.back)) same left,
    )

pub returns-then-count-left : goal.returns-then-count-left
returns-then-count-left g c =
    let p = c.self.inside in
    let step : signed c.unsigned.result ≡ p.stride = omega (arith, ints, c.unsigned.ensures.back) in
    let at = c.place_along_axis-self-inside.ensures ∙ ap (λ s. pos p.place +ℤ (pos c.args.count *ℤ s)) step in
    let same : p.left - c.args.count - 1 ≡ p.left - 1 - c.args.count = omega arith in
    ap (λ n. places_after c.place_along_axis-self-inside.result p.stride n (rows_and p.rows p.back)) same
    ∙ sym (within_row c.self.invariant.1 c.args.count c.if-count-left.true at)
    ∙ ap (drop c.args.count) c.self.view_is

-- ---- past all rows
pub advance-requires-then-count-in_rows-clause-in_bounds : goal.advance-requires-then-count-in_rows-clause-in_bounds
advance-requires-then-count-in_rows-clause-in_bounds g c =
    let p = c.self.inside in
    end_in p.place (p.left - 1) p.stride p.rows p.back c.self.invariant.1

pub advance-requires-then-count-in_rows-clause-few : goal.advance-requires-then-count-in_rows-clause-few
advance-requires-then-count-in_rows-clause-few g c =
    let p = c.self.inside in
    end_fits p.place (p.left - 1) p.stride p.rows p.back c.self.invariant.1

pub returns-then-count-in_rows : goal.returns-then-count-in_rows
returns-then-count-in_rows g c =
    let p = c.self.inside in
    let rows = p.rows in
    let n = c.count_of_places-in_rows.ensures in
    let past : length (rows_places rows) ≤ c.args.count - (p.left - 1) = omega (arith, c.if-count-in_rows.true, n) in
    sym (past_all p.place (p.left - 1) p.stride rows p.back c.self.invariant.1 c.args.count c.advance.new.self
    c.advance-then-count-in_rows.new.self (omega (arith, c.if-count-left.false)) past (rw (← n) c.advance.ensures)
    (rw (← n) c.advance-then-count-in_rows.ensures))
    ∙ ap (drop c.args.count) c.self.view_is

pub invariant_of-self-then-count-in_rows : goal.invariant_of-self-then-count-in_rows
invariant_of-self-then-count-in_rows g c =
    let p = c.self.inside in
    let rows = p.rows in
    let n = c.count_of_places-in_rows.ensures in
    let past : length (rows_places rows) ≤ c.args.count - (p.left - 1) = omega (arith, c.if-count-in_rows.true, n) in
    let later = subst (All (λ row. 0 < row.len)) (sym c.advance.ensures) (All-drop (λ row. 0 < row.len) _ rows
    (some_rows p.place (p.left - 1) p.stride rows p.back c.self.invariant.1)) in
    let left = left_later c.self.invariant.1 c.args.count c.self.invariant.1.here
    (All-and c.advance.new.self c.advance-then-count-in_rows.new.self later)
    (past_all p.place (p.left - 1) p.stride rows p.back c.self.invariant.1 c.args.count c.advance.new.self
    c.advance-then-count-in_rows.new.self (omega (arith, c.if-count-left.false)) past (rw (← n) c.advance.ensures)
    (rw (← n) c.advance-then-count-in_rows.ensures)) in
    (omega arith, left)

-- ---- past whole ones
pub nonzero_div-count : goal.nonzero_div-count
nonzero_div-count g c =
    some_len c.row_len-len.result (c.args.count - (c.self.inside.left - 1)) c.self.inside.rows c.row_len-len.ensures
    (omega (arith, c.if-count-in_rows.false, c.count_of_places-in_rows.ensures))

pub nonzero_rem-in_row : goal.nonzero_rem-in_row
nonzero_rem-in_row g c =
    some_len c.row_len-len.result (c.args.count - (c.self.inside.left - 1)) c.self.inside.rows c.row_len-len.ensures
    (omega (arith, c.if-count-in_rows.false, c.count_of_places-in_rows.ensures))

pub returns-then-in_row-eq0 : goal.returns-then-in_row-eq0
returns-then-in_row-eq0 g c =
    let p = c.self.inside in
    let rows = p.rows in
    let len = c.row_len-len.result in
    let count = c.args.count - (p.left - 1) in
    let below : count < length (rows_places rows) = omega (arith, c.if-count-in_rows.false, c.count_of_places-in_rows.ensures) in
    let later = past_rows p.place (p.left - 1) p.stride rows p.back c.self.invariant.1 len count c.row_len-len.ensures below
    c.advance-2.ensures c.if-in_row-eq0.true in
    sym later ∙ ap (λ n. drop n (places_after p.place p.stride (p.left - 1) (rows_and rows p.back))) (omega (arith, c.if-count-left.false))
    ∙ ap (drop c.args.count) c.self.view_is

pub invariant_of-self-then-in_row-eq0 : goal.invariant_of-self-then-in_row-eq0
invariant_of-self-then-in_row-eq0 g c =
    let p = c.self.inside in
    let rows = p.rows in
    let len = c.row_len-len.result in
    let count = c.args.count - (p.left - 1) in
    let below : count < length (rows_places rows) = omega (arith, c.if-count-in_rows.false, c.count_of_places-in_rows.ensures) in
    let later = past_rows p.place (p.left - 1) p.stride rows p.back c.self.invariant.1 len count c.row_len-len.ensures below
    c.advance-2.ensures c.if-in_row-eq0.true in
    let some_of = subst (All (λ row. 0 < row.len)) (sym c.advance-2.ensures) (All-drop (λ row. 0 < row.len) _ rows
    (some_rows p.place (p.left - 1) p.stride rows p.back c.self.invariant.1)) in
    let left = left_later c.self.invariant.1 ((p.left - 1) + count) c.self.invariant.1.here
    (All-and c.advance-2.new.self p.back some_of) later in
    (omega arith, left)

-- ---- and in a row
pub place_along_axis-self-inside-requires-in-Some-clause-small : goal.place_along_axis-self-inside-requires-in-Some-clause-small
place_along_axis-self-inside-requires-in-Some-clause-small g c =
    let p = c.self.inside in
    let rows = p.rows in
    let len = c.row_len-len.result in
    let count = c.args.count - (p.left - 1) in
    let below : count < length (rows_places rows) = omega (arith, c.if-count-in_rows.false, c.count_of_places-in_rows.ensures) in
    let i = enters_row p.place (p.left - 1) p.stride rows p.back c.self.invariant.1 len count c.row_len-len.ensures below
    c.advance-2.ensures c.in-Some.ensures.steps (omega (arith, c.if-in_row-eq0.false)) in
    omega (arith, coordinate_fits c.self.invariant.1 i)

pub place_along_axis-self-inside-requires-in-Some-clause-first : goal.place_along_axis-self-inside-requires-in-Some-clause-first
place_along_axis-self-inside-requires-in-Some-clause-first g c =
    let p = c.self.inside in
    let rows = p.rows in
    let len = c.row_len-len.result in
    let count = c.args.count - (p.left - 1) in
    let below : count < length (rows_places rows) = omega (arith, c.if-count-in_rows.false, c.count_of_places-in_rows.ensures) in
    let i = enters_row p.place (p.left - 1) p.stride rows p.back c.self.invariant.1 len count c.row_len-len.ensures below
    c.advance-2.ensures c.in-Some.ensures.steps (omega (arith, c.if-in_row-eq0.false)) in
    start_fits c.self.invariant.1 i

pub place_along_axis-self-inside-requires-in-Some-clause-there : goal.place_along_axis-self-inside-requires-in-Some-clause-there
place_along_axis-self-inside-requires-in-Some-clause-there g c =
    let p = c.self.inside in
    let rows = p.rows in
    let len = c.row_len-len.result in
    let count = c.args.count - (p.left - 1) in
    let below : count < length (rows_places rows) = omega (arith, c.if-count-in_rows.false, c.count_of_places-in_rows.ensures) in
    let i = enters_row p.place (p.left - 1) p.stride rows p.back c.self.invariant.1 len count c.row_len-len.ensures below
    c.advance-2.ensures c.in-Some.ensures.steps (omega (arith, c.if-in_row-eq0.false)) in
    let step : signed c.unsigned-in-Some.result ≡ c.in-Some.row.stride = omega (arith, ints, c.unsigned-in-Some.ensures.back) in
    let there = place_fits c.self.invariant.1 i in
    let same = ap (λ s. pos c.in-Some.row.start +ℤ (pos (count % len - 1) *ℤ s)) step in
    (omega (arith, ints, same, there.0), omega (arith, ints, same, there.1))

pub overflow_sub-self-in-Some : goal.overflow_sub-self-in-Some
overflow_sub-self-in-Some g c =
    let p = c.self.inside in
    let rows = p.rows in
    let len = c.row_len-len.result in
    let count = c.args.count - (p.left - 1) in
    let below : count < length (rows_places rows) = omega (arith, c.if-count-in_rows.false, c.count_of_places-in_rows.ensures) in
    let i = enters_row p.place (p.left - 1) p.stride rows p.back c.self.invariant.1 len count c.row_len-len.ensures below
    c.advance-2.ensures c.in-Some.ensures.steps (omega (arith, c.if-in_row-eq0.false)) in
    omega (arith, i.few)

pub invariant_of-self-in-Some : goal.invariant_of-self-in-Some
invariant_of-self-in-Some g c =
    let p = c.self.inside in
    let rows = p.rows in
    let len = c.row_len-len.result in
    let count = c.args.count - (p.left - 1) in
    let below : count < length (rows_places rows) = omega (arith, c.if-count-in_rows.false, c.count_of_places-in_rows.ensures) in
    let i = enters_row p.place (p.left - 1) p.stride rows p.back c.self.invariant.1 len count c.row_len-len.ensures below
    c.advance-2.ensures c.in-Some.ensures.steps (omega (arith, c.if-in_row-eq0.false)) in
    let step : signed c.unsigned-in-Some.result ≡ c.in-Some.row.stride = omega (arith, ints, c.unsigned-in-Some.ensures.back) in
    let at = c.place_along_axis-self-inside-in-Some.ensures ∙ ap (λ s. pos c.in-Some.row.start +ℤ (pos (count % len - 1) *ℤ s)) step in
    let some_of = subst (All (λ row. 0 < row.len)) (sym c.advance-2.ensures ∙ c.in-Some.ensures.steps) (All-drop (λ row. 0 < row.len) _ rows
    (some_rows p.place (p.left - 1) p.stride rows p.back c.self.invariant.1)) in
    let left = left_entered c.self.invariant.1 i
    (All-and c.next.new.self p.back (All-tail (λ row. 0 < row.len) c.in-Some.row _ some_of)) at
    (omega (arith, ints)) in
    let same : c.in-Some.row.len - count % len ≡ c.in-Some.row.len - count % len + 1 - 1 = omega arith in
    let rest : ℕ → Type 0 = λ n. ArePlacesLeft c.place_along_axis-self-inside-in-Some.result (to_z w64 (of_z w64 c.in-Some.row.stride)) n
    (rows_and c.next.new.self p.back) in
    (omega arith, subst rest same left)

pub returns-in-Some : goal.returns-in-Some
returns-in-Some g c =
    let p = c.self.inside in
    let rows = p.rows in
    let len = c.row_len-len.result in
    let count = c.args.count - (p.left - 1) in
    let below : count < length (rows_places rows) = omega (arith, c.if-count-in_rows.false, c.count_of_places-in_rows.ensures) in
    let i = enters_row p.place (p.left - 1) p.stride rows p.back c.self.invariant.1 len count c.row_len-len.ensures below
    c.advance-2.ensures c.in-Some.ensures.steps (omega (arith, c.if-in_row-eq0.false)) in
    let step : signed c.unsigned-in-Some.result ≡ c.in-Some.row.stride = omega (arith, ints, c.unsigned-in-Some.ensures.back) in
    let at = c.place_along_axis-self-inside-in-Some.ensures ∙ ap (λ s. pos c.in-Some.row.start +ℤ (pos (count % len - 1) *ℤ s)) step in
    let all : c.args.count ≡ (p.left - 1) + count / len * len + count % len =
    omega (arith, div-add-mod' count len, c.if-count-left.false) in
    let same : c.in-Some.row.len - count % len + 1 - 1 ≡ c.in-Some.row.len - count % len = omega arith in
    ap (λ n. places_after c.place_along_axis-self-inside-in-Some.result (to_z w64 (of_z w64 c.in-Some.row.stride)) n
    (rows_and c.next.new.self p.back)) same
    ∙ sym (row_entered c.self.invariant.1 i at (omega (arith, ints)))
    ∙ ap (λ n. drop n (places_after p.place p.stride (p.left - 1) (rows_and rows p.back))) (sym all)
    ∙ ap (drop c.args.count) c.self.view_is

pub invariant_of-self-in_default : goal.invariant_of-self-in_default
invariant_of-self-in_default g c =
    let p = c.self.inside in
    let rows = p.rows in
    let len = c.row_len-len.result in
    let count = c.args.count - (p.left - 1) in
    let below : count < length (rows_places rows) = omega (arith, c.if-count-in_rows.false, c.count_of_places-in_rows.ensures) in
    absurd (some_later len count (count / len) (count % len) rows c.row_len-len.ensures below (sym (div-add-mod' count len))
    (sym c.advance-2.ensures ∙ c.in_default.ensures.steps.0))

pub returns-in_default : goal.returns-in_default
returns-in_default g c =
    let p = c.self.inside in
    let rows = p.rows in
    let len = c.row_len-len.result in
    let count = c.args.count - (p.left - 1) in
    let below : count < length (rows_places rows) = omega (arith, c.if-count-in_rows.false, c.count_of_places-in_rows.ensures) in
    absurd (some_later len count (count / len) (count % len) rows c.row_len-len.ensures below (sym (div-add-mod' count len))
    (sym c.advance-2.ensures ∙ c.in_default.ensures.steps.0))
