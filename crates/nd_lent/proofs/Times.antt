-- A product that is kept as far as it fits, factor by factor: in the end it is the product of all.
use Rattle.std.proofs.Common.{◌≡◌, ℕ, zero, suc, ◌*◌, ◌≤◌, ◌^◌, Bool, true, false, nat_lt, Option, Some, None, List, map, Bor}
use Rattle.std.proofs.Common.{refl, sym, ap, ◌∙◌, arith}
use Rattle.std.specs.Fn.{Called, Mut, Takes}
use Rattle.std.specs.Iterator.{FoldsItems}
use Rattle.std.specs.Prelude.{if◌then◌else◌}
use Rattle.std.proofs.Math.Dec.{eqb-suc-zero}
use Rattle.std.proofs.Math.Nat.{mul_assoc, mul-le-mul_left}
use Rattle.std.proofs.lemmas.Bool.{le-ltb, ltb-false}
use Rattle.ndarray_layout.specs.Size.{size}
use Rattle.nd_access.specs.Lending.{lends}
use Rattle.nd_loops.specs.Summed.{within_u64}
use Rattle.nd_lent.specs.private.Times.{times}
use Rattle.nd_lent.proofs.Laws.Folds.{IsKept, after_fold}

-- one more factor is kept as the others are
kept_so : (p n : ℕ) → times (within_u64 p) n ≡ within_u64 (p * n)
kept_so p n = by (nat_lt p (2 ^ 64)) refl n
  where
    by : (fits : Bool) → nat_lt p (2 ^ 64) ≡ fits → (n : ℕ) → times (if fits then Some p else None) n ≡ within_u64 (p * n)
    by true small n = refl
    by false large zero =
        let none : 0 ≡ p * 0 = omega arith in
        ap within_u64 none
    by false large (suc n) =
        let past : 2 ^ 64 ≤ p = ltb-false p (2 ^ 64) large in
        let more : p * 1 ≤ p * suc n = mul-le-mul_left p (omega arith) in
        let large_too : nat_lt (p * suc n) (2 ^ 64) ≡ false = le-ltb (p * suc n) (2 ^ 64) (omega (arith, past, more)) in
        ap (λ none. if none then Some 0 else None) (eqb-suc-zero n) ∙ sym (ap (λ fits. if fits then Some (p * suc n) else None) large_too)

module _ {F T : Type 0} (g : Mut F (Option ℕ × (Bor T × Unit {0})) (Option ℕ)) (number : Option T → ℕ) where
  -- what has been multiplied is kept, and makes the whole product with those that are left
  abbrev IsSoFar : ℕ → List (Option T) → F → Option ℕ → Type 0
  IsSoFar all left f total = (p : ℕ) × (total ≡ within_u64 p) × (p * size (map number left) ≡ all)

  pub multiplied : {items : List (Option T)} {f : F} {result : Option ℕ}
      → ((item : Bor T) (f : F) (total : Option ℕ) → Takes g f (total, (item, tt)))
      → ((item : Bor T) (f h : F) (total next : Option ℕ) → Called g f (total, (item, tt)) next h
      → next ≡ times total (number (Some item.now)))
      → FoldsItems lends g items f (Some 1) result → result ≡ within_u64 (size (map number items))
  multiplied {items} {f} {result} takes says ran =
      let all = size (map number items) in
      let kept : IsKept g (IsSoFar all) = record {
        takes = λ item left f total so_far. takes item f total;
        keeps = λ item left f h total next so_far called.
            let n = number (Some item.now) in (
              so_far.0 * n,
              says item f h total next called ∙ ap (λ t. times t n) so_far.1 ∙ kept_so so_far.0 n,
              mul_assoc so_far.0 n (size (map number left)) ∙ so_far.2,
            );
      } in
      let ended = (after_fold g (IsSoFar all) kept {f = f} (1, refl, omega arith) ran).1 in
      ended.1 ∙ ap within_u64 (omega (arith, ended.2))
