-- Where two layouts have the same places, the stride of the slowest axis of fewer coordinates is the whole of the axis after it.
use Rattle.std.proofs.Common.{◌≡◌, ℕ, zero, suc, ◌+◌, ◌-◌, ◌*◌, ◌<◌, ◌≤◌, ℤ, pos, ◌+ℤ◌, ◌*ℤ◌, List, ◌∷◌, refl, sym, ap, ◌∙◌, inl}
use Rattle.std.proofs.Common.{inr, arith}
use Rattle.std.proofs.Math.Nat.{mul-le-mul_left, mul-le-mul_right}
use Rattle.std.proofs.lemmas.Bool.{cases_lt}
use Rattle.std.proofs.lemmas.Int.{ints}
use Rattle.nd_base.proofs.Laws.Definitions.{size}
use Rattle.ndarray_layout.specs.reshape.ForcedStrides.{offset_at_flat_index}
use Rattle.ndarray_layout.proofs.matching.HasIndex.{SamePlaces}
use Rattle.ndarray_layout.proofs.matching.FlatOffsets.{offset-whole, offset-within, offset-further, next-times}

-- by places that lie a stride of the longer axis apart, on one side or the other
record AreBelow (q : ℕ) (s t u x y : ℤ) : Type 0 where
  pub turn : pos 1 *ℤ s ≡ u +ℤ x
  pub last : pos q *ℤ t ≡ u +ℤ y
  pub inner : x ≡ t +ℤ y

from-below : {q : ℕ} {s t u x y : ℤ} → AreBelow q s t u x y → s ≡ pos (suc q) *ℤ t
from-below {q} {t = t} at = let times = next-times q t in omega (arith, ints, times)

record AreAbove (q : ℕ) (s t u y z : ℤ) : Type 0 where
  pub inner : pos 1 *ℤ u ≡ t +ℤ y
  pub turn : z ≡ s +ℤ y
  pub last : z ≡ u +ℤ (pos q *ℤ t)

from-above : {q : ℕ} {s t u y z : ℤ} → AreAbove q s t u y z → s ≡ pos (suc q) *ℤ t
from-above {q} {t = t} at = let times = next-times q t in omega (arith, ints, times)

-- the slowest axis of more coordinates turns over fewer indices
fewer-each : (len other part rest : ℕ) → len < other → 0 < rest → len * part ≡ other * rest → rest < part
fewer-each len other part rest l some e = elim (cases_lt rest part) [
  | inl less ↦ less
  | inr more ↦
      let here : len * part ≤ len * rest = mul-le-mul_left len more in
      let there : suc len * rest ≤ other * rest = mul-le-mul_right rest l in
      absurd (omega arith)
]

pub whole-stride : {len next other : ℕ} {lens others : List ℕ} {s t u : ℤ} {ss us : List ℤ} → 1 < len → 1 < next → len < other
    → 0 < size lens → 0 < size others → SamePlaces (len ∷ next ∷ lens) (s ∷ t ∷ ss) (other ∷ others) (u ∷ us)
    → s ≡ pos next *ℤ t
whole-stride {next = zero} long longer less some more same = absurd (omega arith)
whole-stride {len} {next = suc q} {other} {lens} {others} {s} {t} {u} {ss} {us} long longer less some more same =
    elim (cases_lt (size others) (size lens)) [ inl down ↦ below down | inr up ↦ above up ]
  where
    n : ℕ
    n = size lens

    r : ℕ
    r = size others

    -- how many indices the slowest axis turns over
    turn : ℕ
    turn = suc q * n

    turn_is : turn ≡ q * n + n
    turn_is = omega arith

    fewer : r < turn
    fewer = fewer-each len other turn r less more same.sizes

    several : turn + turn ≤ len * turn
    several = let two : 2 * turn ≤ len * turn = mul-le-mul_right turn long in omega arith

    there : n ≤ q * n
    there = let one : 1 * n ≤ q * n = mul-le-mul_right n (omega arith) in omega arith

    first : offset_at_flat_index (len ∷ suc q ∷ lens) (s ∷ t ∷ ss) turn ≡ pos 1 *ℤ s
    first = offset-whole len (suc q ∷ lens) s (t ∷ ss) 1 (omega (arith, turn_is, fewer, several, there))
        (omega (arith, turn_is, fewer, several, there))

    inner : {x : ℕ} → x < turn → offset_at_flat_index (len ∷ suc q ∷ lens) (s ∷ t ∷ ss) x ≡ offset_at_flat_index (suc q ∷ lens) (t ∷ ss) x
    inner l = offset-within len (suc q ∷ lens) s (t ∷ ss) l

    last : offset_at_flat_index (len ∷ suc q ∷ lens) (s ∷ t ∷ ss) (q * n) ≡ pos q *ℤ t
    last = inner (omega (arith, turn_is, fewer, several, there)) ∙ offset-whole (suc q) lens t ss q some refl

    below : r < n → s ≡ pos (suc q) *ℤ t
    below down =
        let places : AreBelow q s t u (offset_at_flat_index (len ∷ suc q ∷ lens) (s ∷ t ∷ ss) (turn - r))
        (offset_at_flat_index (len ∷ suc q ∷ lens) (s ∷ t ∷ ss) (q * n - r)) = record {
          turn = sym first ∙ sym (same.alike turn (omega (arith, turn_is, fewer, several, there)))
              ∙ offset-further other others u us (turn - r) more (omega (arith, turn_is, fewer, several, there))
              ∙ ap (λ z. u +ℤ z) (same.alike (turn - r) (omega (arith, turn_is, fewer, several, there)));
          last = sym last ∙ sym (same.alike (q * n) (omega (arith, turn_is, fewer, several, there)))
              ∙ offset-further other others u us (q * n - r) more (omega (arith, turn_is, fewer, several, there))
              ∙ ap (λ z. u +ℤ z) (same.alike (q * n - r) (omega (arith, turn_is, fewer, several, there)));
          inner = inner (omega (arith, turn_is, fewer, several, there))
              ∙ offset-further (suc q) lens t ss (q * n - r) some (omega (arith, turn_is, fewer, several, there))
              ∙ ap (λ z. t +ℤ z) (sym (inner (omega (arith, turn_is, fewer, several, there))));
        } in
        from-below places

    above : n ≤ r → s ≡ pos (suc q) *ℤ t
    above up =
        let places : AreAbove q s t u (offset_at_flat_index (len ∷ suc q ∷ lens) (s ∷ t ∷ ss) (r - n))
        (offset_at_flat_index (len ∷ suc q ∷ lens) (s ∷ t ∷ ss) (q * n + r)) = record {
          inner = sym (offset-whole other others u us 1 more (omega arith))
              ∙ same.alike r (omega (arith, turn_is, fewer, several, there)) ∙ inner fewer
              ∙ offset-further (suc q) lens t ss (r - n) some (omega arith)
              ∙ ap (λ z. t +ℤ z) (sym (inner (omega (arith, turn_is, fewer, several, there))));
          turn = offset-further len (suc q ∷ lens) s (t ∷ ss) (r - n) (omega (arith, turn_is, fewer, several, there))
              (omega (arith, turn_is, fewer, several, there));
          last = sym (same.alike (q * n + r) (omega (arith, turn_is, fewer, several, there)))
              ∙ offset-further other others u us (q * n) more refl
              ∙ ap (λ z. u +ℤ z) (same.alike (q * n) (omega (arith, turn_is, fewer, several, there)) ∙ last);
        } in
        from-above places
