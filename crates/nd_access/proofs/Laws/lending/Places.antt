-- Places of elements: the product that a pointer is moved by, and the place of a mark.
use mir.Syntax.{Opd as Operand, Ty, mul, op2, size_of, unsigned}
use native.Mathlib.Nat.{suc-mul, zero-mul}
use prog.Capped.{capped_is}
use prog.Memory.{capped, size}
use prog.Wp.{Env}
use types.Run.{Opd, Rv}
use Rattle.std.specs.Prelude.{false}
use Rattle.nd_access.proofs.Laws.lending.Steps.{Bool, Item, List, Logic, T, Ura, ap, arith, bin, get_or, is, length, mul-le-mul_right}
use Rattle.nd_access.proofs.Laws.lending.Steps.{size_word, subst, suc, sym, vint, w64, zero, [], ℕ, ◌*◌, ◌<◌, ◌^◌, ◌∙◌, ◌∷◌, ◌≡◌, ◌≤◌}

-- where the product fits a word, the count is zero or the size fits too
uncapped : (i k : ℕ) → i * k < 2 ^ 64 → i * capped k ≡ i * k
uncapped zero k h = zero-mul (capped k) ∙ sym (zero-mul k)
uncapped (suc i) k h = let step = suc-mul i k in ap (λ (j : ℕ). suc i * j) (capped_is k (omega arith))

-- so the code's product of a count and a size is the product
module _ {M : Type 1} {𝓤 : Ura M} {𝓛 : Logic 𝓤} {K : Type 0} {Γ : List (Item 𝓤)} {E : Env 𝓤 𝓛.H} where
  pub times_size : K → {x : Operand} {τ : Ty} (i : ℕ) → Opd K 𝓛 Γ E x (vint w64 i) → i * size τ < 2 ^ 64
      → Rv K 𝓛 Γ E (op2 (mul unsigned) x (size_of τ)) (vint w64 (i * size τ))
  times_size t {τ = τ} i read fits = is t
      (bin t read (size_word t) (record { fits = subst (λ (m : ℕ). m < 2 ^ 64) (sym (uncapped i (size τ) fits)) fits }))
      (ap (vint w64) (uncapped i (size τ) fits))

-- within memory it fits
pub place_fits : (i n k : ℕ) → i ≤ n → n * k < 2 ^ 63 → i * k < 2 ^ 64
place_fits i n k within fits = let small : i * k ≤ n * k = mul-le-mul_right k within in omega (arith, small, fits)

-- a place that has a mark is one of them
pub marked_below : (i : ℕ) (marks : List Bool) → T (get_or marks i false) → i < length marks
marked_below i [] h = absurd h
marked_below zero (m ∷ marks) h = omega arith
marked_below (suc i) (m ∷ marks) h = let below = marked_below i marks h in omega arith

-- the first item of a list that has one
pub first_item : {X : Type 0} (i : ℕ) (xs : List X) → i < length xs → X
first_item i [] h = absurd (let no : ⊥ = omega arith in no)
first_item i (x ∷ xs) h = x
