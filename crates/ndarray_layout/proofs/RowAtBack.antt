-- A row that has begun at the back, and the place that came last.
use Rattle.std.proofs.Common.{◌≡◌, ℕ, ◌+◌, ◌-◌, ◌<◌, ◌≤◌, ◌^◌, pos, ◌+ℤ◌, ◌*ℤ◌, sym, ap, subst, ◌∙◌, arith}
use Rattle.std.specs.List.{All}
use Rattle.std.proofs.lemmas.Int.{ints}
use Rattle.nd_base.proofs.Laws.Definitions.{IsInBounds, limit}
use Rattle.nd_base.proofs.Laws.Times.{times_sum}
use Rattle.ndarray_layout.specs.declared.strided.rows.Row.{Row}
use Rattle.ndarray_layout.specs.PlacesLeft.{ComesAfter}
use Rattle.ndarray_layout.specs.Rows.{row_places}
use Rattle.ndarray_layout.specs.View.{IsPlace}
use Rattle.ndarray_layout.proofs.RowSteps.{place_bounds, start_bound}
use Rattle.ndarray_layout.proofs.Laws.Rows.{one_more_step}

module _ (row : Row) {left : Row} (is : row ≡ left)
    (in_bounds : All (IsInBounds (2 ^ 63)) (row_places left.start left.stride left.len)) where
  within : All (IsInBounds (2 ^ 63)) (row_places row.start row.stride row.len)
  within = subst (λ row. All (IsInBounds (2 ^ 63)) (row_places row.start row.stride row.len)) (sym is) in_bounds

  pub start_left : 0 < row.len → row.start ≤ limit
  start_left some = start_bound row.start row.stride row.len within some

  pub place_left : (i : ℕ) → i < row.len → IsPlace (pos row.start +ℤ (pos i *ℤ row.stride))
  place_left i below = place_bounds row.start row.stride row.len i within below

module _ {row : Row} {last : ℕ} (after : ComesAfter row last) where
  -- the place before it
  pub one_back : 0 < row.len → (pos row.start +ℤ (pos (row.len - 1) *ℤ row.stride)) +ℤ row.stride ≡ pos last
  one_back some =
      let n : row.len ≡ row.len - 1 + 1 = omega (arith, some) in
      let step = ap (λ k. pos k *ℤ row.stride) n ∙ one_more_step (row.len - 1) row.stride in
      omega (arith, ints, step, after.place some)

  -- it stays so without the first places
  pub after_later : (count : ℕ) {start : ℕ} → count < row.len → pos start ≡ pos row.start +ℤ (pos count *ℤ row.stride)
      → ComesAfter (record { start = start; stride = row.stride; len = row.len - count }) last
  after_later count {start} below at =
      let some : 0 < row.len = omega (arith, below) in
      let n : row.len ≡ count + (row.len - count) = omega (arith, below) in
      let steps = ap (λ k. pos k *ℤ row.stride) n ∙ times_sum count (row.len - count) row.stride in
      record { place = λ _. omega (arith, ints, steps, at, after.place some); here = λ _. after.here some }
