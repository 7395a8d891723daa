-- The test asks of each axis what the definition does.
use Rattle.std.proofs.Common.{rules, ◌≡◌, ℕ, ◌<◌, ◌≤◌, length, sym, arith}
use Rattle.std.specs.Prelude.{IsTrue, slice_index, ◌↔◌}
use Rattle.std.proofs.lemmas.Bool.{eqb-true}
use Rattle.std.proofs.lemmas.List.Elements.{AllZip-get_or, length_all_zip}
use Rattle.ndarray_layout.proofs.Laws.CroppedView.{fit_by_axes}
use Rattle.ndarray_layout.proofs.strided.cropping.is_at_most.Goals as goal

pub returns-then-lows-highs : goal.returns-then-lows-highs
returns-then-lows-highs c =
    let lows = c.args.lows.now in
    let highs = c.args.highs.now in
    let count : length lows ≡ length highs = c.if-lows-highs.true in
    let each : IsTrue c.all.result ↔ ((axis : ℕ) → axis < length lows → slice_index lows axis ≤ slice_index highs axis) = search rules in (
      λ passed. fit_by_axes highs lows count (λ axis h. each.0 passed axis (omega arith)),
      λ fit. each.1 (λ axis h. AllZip-get_or (λ x y. y ≤ x) highs lows axis 0 0 fit (omega arith)),
    )

pub returns-else-lows-highs : goal.returns-else-lows-highs
returns-else-lows-highs c = (
  λ passed. absurd (c.if-lows-highs.false (eqb-true (length c.args.lows.now) (length c.args.highs.now) passed)),
  λ fit. absurd (c.if-lows-highs.false (sym (length_all_zip (λ x y. y ≤ x) c.args.highs.now c.args.lows.now fit))),
)
