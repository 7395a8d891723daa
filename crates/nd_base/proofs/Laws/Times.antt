-- Laws of products of a count with a signed number.
use Rattle.std.proofs.Common.{◌≡◌, ℕ, zero, suc, ◌+◌, ◌*◌, ℤ, pos, negsuc, ◌+ℤ◌, ◌*ℤ◌, sym, ap, ◌∙◌, arith}
use Rattle.std.proofs.Math.IntN.{neg_ℤ, neg_ℤ-+ℤ, pos-*ℤ-pos, pos-*ℤ-negsuc, suc_ℤ-*ℤ, zero-*ℤ}
use Rattle.std.proofs.Math.Nat.{mul_assoc}
use Rattle.std.proofs.lemmas.Int.{ints}

-- a sum of counts
pub times_sum : (a b : ℕ) (s : ℤ) → pos (a + b) *ℤ s ≡ (pos a *ℤ s) +ℤ (pos b *ℤ s)
times_sum a b (pos s) = omega (arith, ints)
times_sum a b (negsuc s) = omega (arith, ints)

-- a negative number
pub times_neg : (q : ℕ) (z : ℤ) → pos q *ℤ neg_ℤ z ≡ neg_ℤ (pos q *ℤ z)
times_neg zero z = zero-*ℤ (neg_ℤ z) ∙ sym (ap neg_ℤ (zero-*ℤ z))
times_neg (suc q) z = suc_ℤ-*ℤ (pos q) (neg_ℤ z) ∙ ap (λ x. x +ℤ neg_ℤ z) (times_neg q z)
    ∙ sym (ap neg_ℤ (suc_ℤ-*ℤ (pos q) z) ∙ neg_ℤ-+ℤ (pos q *ℤ z) z)

-- a product of counts
pub times_times : (q n : ℕ) (s : ℤ) → pos q *ℤ (pos n *ℤ s) ≡ pos (q * n) *ℤ s
times_times q n (pos s) = ap (λ z. pos q *ℤ z) (pos-*ℤ-pos n s) ∙ pos-*ℤ-pos q (n * s) ∙ ap pos (sym (mul_assoc q n s))
    ∙ sym (pos-*ℤ-pos (q * n) s)
times_times q n (negsuc s) =
    ap (λ z. pos q *ℤ z) (pos-*ℤ-negsuc n s)
    ∙ times_neg q (pos (n * suc s))
    ∙ ap neg_ℤ (pos-*ℤ-pos q (n * suc s) ∙ ap pos (sym (mul_assoc q n (suc s))))
    ∙ sym (pos-*ℤ-negsuc (q * n) s)
