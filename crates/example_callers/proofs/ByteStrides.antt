-- Strides in bytes are strides in elements times the bytes of an element.
use Rattle.std.proofs.Common.{◌≡◌, ℕ, zero, suc, ◌*◌, ◌/◌, ◌%◌, ◌<◌, ℤ, pos, negsuc, neg_ℤ, ◌*ℤ◌, ◌<ℤ◌, List, [], ◌∷◌}
use Rattle.std.proofs.Common.{length, map, get_or, refl, sym, ap, ◌∙◌, arith}
use Rattle.std.specs.Int.RustNames.{int_rem, unsigned_abs}
use Rattle.std.proofs.Math.Nat.{mul-div_cancel, mul-mod_left}
use Rattle.std.proofs.lemmas.Int.{ints, unsigned_abs-mul}
use Rattle.ndarray_layout.specs.Signed.{all_signed, signed}

-- ---- one stride
times_cancel : (a b n : ℕ) → 0 < n → a * n ≡ b * n → a ≡ b
times_cancel a b n some same = sym (mul-div_cancel a some) ∙ ap (λ product. product / n) same ∙ mul-div_cancel b some

cancel : (a b size : ℤ) → pos 0 <ℤ size → a *ℤ size ≡ b *ℤ size → a ≡ b
cancel (pos a) (pos b) (pos n) some same = ap pos (times_cancel a b n (omega (arith, ints)) (omega (arith, ints)))
cancel (pos a) (negsuc b) (pos n) some same = absurd (omega (arith, ints))
cancel (negsuc a) (pos b) (pos n) some same = absurd (omega (arith, ints))
cancel (negsuc a) (negsuc b) (pos n) some same =
    let same_suc : suc a * n ≡ suc b * n = omega (arith, ints) in
    let e : suc a ≡ suc b = times_cancel (suc a) (suc b) n (omega (arith, ints)) same_suc in
    ap negsuc (omega arith)
cancel a b (negsuc n) some same = absurd (omega (arith, ints))

-- of a multiple nothing is left
rest_of_multiple : (z size : ℤ) (m : ℕ) → unsigned_abs z ≡ m * unsigned_abs size → int_rem z size ≡ pos 0
rest_of_multiple (pos a) size m h = ap pos (ap (λ k. k % unsigned_abs size) h ∙ mul-mod_left m (unsigned_abs size))
rest_of_multiple (negsuc a) size m h =
    ap (λ k. neg_ℤ (pos k)) (ap (λ k. k % unsigned_abs size) h ∙ mul-mod_left m (unsigned_abs size))

pub no_rest : (stride byte_stride size : ℤ) → stride *ℤ size ≡ byte_stride → int_rem byte_stride size ≡ pos 0
no_rest stride byte_stride size whole =
    rest_of_multiple byte_stride size (unsigned_abs stride) (ap unsigned_abs (sym whole) ∙ unsigned_abs-mul stride size)

-- ---- lists of strides
pub same_quotients : (size : ℤ) → pos 0 <ℤ size → (given other : List ℤ)
    → map (λ stride. stride *ℤ size) given ≡ map (λ stride. stride *ℤ size) other → given ≡ other
same_quotients size some [] [] same = refl
same_quotients size some [] (o ∷ other) same = absurd (cc)
same_quotients size some (g ∷ given) [] same = absurd (cc)
same_quotients size some (g ∷ given) (o ∷ other) same =
    let first = cancel g o size some (cc) in
    let rest = same_quotients size some given other (cc) in
    cc

pub all_divided : (size : ℤ) (old new : List ℕ) → length new ≡ length old
    → ((k : ℕ) → k < length old → signed (get_or new k 0) *ℤ size ≡ signed (get_or old k 0))
    → map (λ stride. stride *ℤ size) (all_signed new) ≡ all_signed old
all_divided size [] [] same each = refl
all_divided size [] (n ∷ new) same each = absurd (omega arith)
all_divided size (o ∷ old) [] same each = absurd (omega arith)
all_divided size (o ∷ old) (n ∷ new) same each =
    ap (λ stride. stride ∷ map (λ stride. stride *ℤ size) (all_signed new)) (each 0 (omega arith))
    ∙ ap (λ strides. signed o ∷ strides) (all_divided size old new (omega arith) (λ k below. each (suc k) (omega arith)))

pub quotient_at : (size : ℤ) (old : List ℕ) (given : List ℤ) (i : ℕ) → map (λ stride. stride *ℤ size) given ≡ all_signed old
    → i < length old → (stride : ℤ) × (stride *ℤ size ≡ signed (get_or old i 0))
quotient_at size [] given i same below = absurd (omega arith)
quotient_at size (o ∷ old) [] i same below = absurd (cc)
quotient_at size (o ∷ old) (g ∷ given) zero same below = (g, cc)
quotient_at size (o ∷ old) (g ∷ given) (suc i) same below = quotient_at size old given i (cc) (omega arith)
