-- Laws of items that lie side by side.
use Rattle.std.proofs.Common.{◌≡◌, ℕ, zero, suc, ◌+◌, ◌≤◌, Some, List, [], ◌∷◌, length, map, take, drop, refl, ap, ◌∙◌, arith}
use Rattle.std.specs.List.{range_with_len}
use Rattle.std.specs.Prelude.{slice_get}

later : {X : Type 0} (x : X) (xs : List X) (a n : ℕ)
    → map (slice_get (x ∷ xs)) (range_with_len (suc a) n) ≡ map (slice_get xs) (range_with_len a n)
later x xs a zero = refl
later x xs a (suc n) =
    let next : suc a + 1 ≡ suc (a + 1) = omega arith in
    ap (λ items. slice_get xs a ∷ items) (ap (λ m. map (slice_get (x ∷ xs)) (range_with_len m n)) next ∙ later x xs (a + 1) n)

-- the items at so many numbers from one on
pub got_between : {X : Type 0} (xs : List X) (a n : ℕ) → a + n ≤ length xs
    → map (slice_get xs) (range_with_len a n) ≡ map Some (take n (drop a xs))
got_between xs a zero within = refl
got_between [] a (suc n) within = absurd (omega arith)
got_between (x ∷ xs) zero (suc n) within = ap (λ items. Some x ∷ items) (later x xs 0 n ∙ got_between xs 0 n (omega arith))
got_between (x ∷ xs) (suc a) (suc n) within = later x xs a (suc n) ∙ got_between xs a (suc n) (omega arith)
