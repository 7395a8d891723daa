-- How far the index of a flat index lies, the axes read from the slowest on.
use Rattle.std.proofs.Common.{◌≡◌, ℕ, suc, ◌+◌, ◌*◌, ◌/◌, ◌%◌, ◌<◌, ℤ, pos, ◌+ℤ◌, ◌*ℤ◌, List, [], ◌∷◌, length, refl, sym, ap, ap₂}
use Rattle.std.proofs.Common.{◌∙◌, arith}
use Rattle.std.proofs.Math.Arith.{mod-mul}
use Rattle.std.proofs.Math.Nat.{add-div_right, add-mod_right, div-add-mod, div-div-eq-div-mul, div-eq_of_lt, mod-eq_of_lt, mul_comm}
use Rattle.std.proofs.Math.Nat.{one-mul, zero-div}
use Rattle.std.proofs.lemmas.Int.{ints}
use Rattle.std.proofs.lemmas.Nat.{div-mul-add, mod-mul-add, mod_below}
use Rattle.nd_base.proofs.Laws.Definitions.{index_of_flat, size}
use Rattle.nd_base.proofs.Laws.Times.{times_sum, times_times}
use Rattle.ndarray_layout.specs.reshape.ForcedStrides.{offset_at_flat_index}

pub length-index_of_flat : (shape : List ℕ) (r : ℕ) → length (index_of_flat shape r) ≡ length shape
length-index_of_flat [] r = refl
length-index_of_flat (len ∷ lens) r = omega (arith, length-index_of_flat lens (r % size lens))

-- the first index lies at the beginning
pub offset-first : (lens : List ℕ) (strides : List ℤ) → offset_at_flat_index lens strides 0 ≡ pos 0
offset-first [] strides = refl
offset-first (len ∷ lens) [] = refl
offset-first (len ∷ lens) (stride ∷ strides) =
    let rest = offset-first lens strides in
    let none : 0 % size lens ≡ 0 = omega arith in
    rw (zero-div (size lens), none) (omega (arith, ints, rest))

module _ (len : ℕ) (lens : List ℕ) (s : ℤ) (ss : List ℤ) where
  -- so many turns of the later axes, and a part of one
  pub offset-turns : (m : ℕ) {r x : ℕ} → r < size lens → m * size lens + r ≡ x
      → offset_at_flat_index (len ∷ lens) (s ∷ ss) x ≡ (pos m *ℤ s) +ℤ offset_at_flat_index lens ss r
  offset-turns m {r} below e =
      ap (offset_at_flat_index (len ∷ lens) (s ∷ ss)) (sym e)
      ∙ ap₂ (λ q k. (pos q *ℤ s) +ℤ offset_at_flat_index lens ss k) (div-mul-add m (size lens) r below)
      (mod-mul-add m (size lens) r below)

  -- a part of the first turn
  pub offset-within : {r : ℕ} → r < size lens → offset_at_flat_index (len ∷ lens) (s ∷ ss) r ≡ offset_at_flat_index lens ss r
  offset-within {r} below =
      ap₂ (λ q k. (pos q *ℤ s) +ℤ offset_at_flat_index lens ss k) (div-eq_of_lt below) (mod-eq_of_lt below) ∙ omega (arith, ints)

  -- whole turns
  pub offset-whole : (m : ℕ) {x : ℕ} → 0 < size lens → m * size lens ≡ x
      → offset_at_flat_index (len ∷ lens) (s ∷ ss) x ≡ pos m *ℤ s
  offset-whole m some e =
      let first = offset-first lens ss in
      offset-turns m some (omega arith) ∙ omega (arith, ints, first)

  -- one turn further
  pub offset-further : (r : ℕ) {x : ℕ} → 0 < size lens → r + size lens ≡ x
      → offset_at_flat_index (len ∷ lens) (s ∷ ss) x ≡ s +ℤ offset_at_flat_index (len ∷ lens) (s ∷ ss) r
  offset-further r some e =
      let more = times_sum (r / size lens) 1 s in
      ap (offset_at_flat_index (len ∷ lens) (s ∷ ss)) (sym e)
      ∙ ap₂ (λ q k. (pos q *ℤ s) +ℤ offset_at_flat_index lens ss k) (add-div_right r some) (add-mod_right r (size lens))
      ∙ omega (arith, ints, more)

-- an axis of length 1 moves nowhere
pub offset-one : (lens : List ℕ) (s : ℤ) (ss : List ℤ) {r : ℕ} → r < size (1 ∷ lens)
    → offset_at_flat_index (1 ∷ lens) (s ∷ ss) r ≡ offset_at_flat_index lens ss r
offset-one lens s ss below = offset-within 1 lens s ss (omega (arith, one-mul (size lens)))

-- two axes that are iterated over as one are one
pub offset-merged : (len next : ℕ) (lens : List ℕ) (s : ℤ) (ss : List ℤ) (r : ℕ) → (0 < next) × (0 < size lens)
    → offset_at_flat_index (len ∷ next ∷ lens) ((pos next *ℤ s) ∷ s ∷ ss) r ≡ offset_at_flat_index (len * next ∷ lens) (s ∷ ss) r
offset-merged len next lens s ss r (some, more) =
    let n = size lens in
    let low = mod_below r n more in
    let parts : r % (next * n) ≡ (r / n % next) * n + r % n = mod-mul r some more in
    let count : r / (next * n) ≡ r / n / next = ap (λ k. r / k) (mul_comm next n) ∙ sym (div-div-eq-div-mul r n next) in
    let high : r % (next * n) / n ≡ r / n % next = ap (λ k. k / n) parts ∙ div-mul-add (r / n % next) n (r % n) low in
    let coordinate : r % (next * n) % n ≡ r % n = ap (λ k. k % n) parts ∙ mod-mul-add (r / n % next) n (r % n) low in
    let whole : r / n / next * next + r / n % next ≡ r / n =
    ap (λ m. m + r / n % next) (mul_comm (r / n / next) next) ∙ div-add-mod (r / n) next in
    let turns = times_times (r / n / next) next s in
    let sum = times_sum (r / n / next * next) (r / n % next) s in
    let both : pos (r / n / next * next + r / n % next) *ℤ s ≡ pos (r / n) *ℤ s = ap (λ q. pos q *ℤ s) whole in
    ap (λ q. (pos q *ℤ (pos next *ℤ s)) +ℤ ((pos (r % (next * n) / n) *ℤ s) +ℤ offset_at_flat_index lens ss (r % (next * n) % n))) count
    ∙ ap₂ (λ q k. (pos (r / n / next) *ℤ (pos next *ℤ s)) +ℤ ((pos q *ℤ s) +ℤ offset_at_flat_index lens ss k)) high coordinate
    ∙ omega (arith, ints, turns, sum, both)

-- an axis of length 1 after the first
pub offset-skip : (len : ℕ) (lens : List ℕ) (s t : ℤ) (ss : List ℤ) (r : ℕ) → 0 < size lens
    → offset_at_flat_index (len ∷ 1 ∷ lens) (s ∷ t ∷ ss) r ≡ offset_at_flat_index (len ∷ lens) (s ∷ ss) r
offset-skip len lens s t ss r some =
    let n = size lens in
    let low = mod_below r n some in
    ap (λ k. (pos (r / k) *ℤ s) +ℤ ((pos (r % k / n) *ℤ t) +ℤ offset_at_flat_index lens ss (r % k % n))) (one-mul n)
    ∙ ap₂ (λ q k. (pos (r / n) *ℤ s) +ℤ ((pos q *ℤ t) +ℤ offset_at_flat_index lens ss k)) (div-eq_of_lt low) (mod-eq_of_lt low)
    ∙ omega (arith, ints)

-- one more times
pub next-times : (q : ℕ) (z : ℤ) → pos (suc q) *ℤ z ≡ z +ℤ (pos q *ℤ z)
next-times q z =
    let sum = times_sum q 1 z in
    let next : suc q ≡ q + 1 = omega arith in
    ap (λ n. pos n *ℤ z) next ∙ omega (arith, ints, sum)
