-- A loop over the lengths and strides at once: what it has yet to sum, at a turn and at the end.
use Rattle.std.proofs.Common.{◌≡◌, ℕ, ◌+◌, ℤ, Option, Some, None, List, length, arith}
use Rattle.std.proofs.iter.Yields.{fronts}
use Rattle.std.proofs.lemmas.Iterator.{zips}
use Rattle.std.proofs.lemmas.Slice.Zip.{zip_turn, zip_end}
use Rattle.std.specs.Borrow.{Bor}
use Rattle.std.specs.Iterator.{Yields}
use Rattle.std.specs.Iterator.Adapters.{zip_first, zip_second}
use Rattle.std.specs.Slice.Iter.{iter_rest}
use Rattle.std.specs.declared.iter.Zip.{Zip}
use Rattle.std.specs.declared.slice.Iter.{Iter}
use Rattle.nd_base.specs.Signed.{signed}
use Rattle.nd_base.proofs.Laws.Span.{sum_from, sum_from_step, sum_from_end}

-- the loop has yielded xs
module _
    (f : ℕ → ℤ → ℕ)
    (shape strides : List ℕ)
    (xs : List (Bor ℕ × Bor ℕ))
    (s t u : Zip (Iter ℕ) (Iter ℕ))
    (r : Option (Bor ℕ × Bor ℕ))
    (first : iter_rest (zip_first s) ≡ shape)
    (second : iter_rest (zip_second s) ≡ strides)
    (y : Yields (zips fronts fronts) s xs t) where
  -- at the pair p
  pub sum_at_turn : (p : Bor ℕ × Bor ℕ) → r ≡ Some p → zips fronts fronts t r u
      → sum_from f shape strides (length xs) ≡ f p.0.now (signed p.1.now) + sum_from f shape strides (length xs + 1)
  sum_at_turn p e h =
      let turn = zip_turn shape strides xs s t u r first second y p e h in
      let step = sum_from_step f shape strides (length xs) turn.0 turn.1 in
      rw (turn.2 0, turn.3 0) step

  -- at the end
  pub sum_at_end : r ≡ None → zips fronts fronts t r u → sum_from f shape strides (length xs) ≡ 0
  sum_at_end e h =
      let end = zip_end shape strides xs s t u r first second y e h in
      sum_from_end f shape strides (length xs) (omega arith)
