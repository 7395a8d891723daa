-- Laws of the strides that a shape has by itself by rows: how far they reach, and that they obey the no-alias rule.
use Rattle.std.proofs.Common.{◌≡◌, ℕ, zero, suc, ◌+◌, ◌-◌, ◌*◌, ◌<◌, pos, false, eqb, List, [], ◌∷◌, length, get_or, map}
use Rattle.std.proofs.Common.{refl, sym, arith}
use Rattle.std.proofs.Common.{pos_of_ne-zero}
use Rattle.std.proofs.Math.Nat.{suc-mul}
use Rattle.std.proofs.lemmas.Bool.{cond-false, eqb-false, lt-leb, or_parts}
use Rattle.std.proofs.lemmas.Nat.{mul-le}
use Rattle.nd_base.proofs.Laws.Definitions.{is_empty, size, reach, span}
use Rattle.nd_base.proofs.Laws.Size.{size_of_nonempty}
use Rattle.nd_base.proofs.Laws.Span.{sum_le}
use Rattle.nd_dim.specs.Strides.{default_strides}
use Rattle.nd_dim.proofs.Laws.Strides.{default_cons}
use Rattle.nd_dim.specs.StrideOrder.{magnitude_at}
use Rattle.nd_shape.specs.NoAlias.{SatisfiesNoAliasRule}
use Rattle.nd_shape.proofs.Laws.NoAlias.{reach_up_to, reach_up_to_le}

-- a shape without a zero length begins with a length that is not 0, and goes on without a zero length
lengths : (len : ℕ) (lens : List ℕ) → is_empty (len ∷ lens) ≡ false → (0 < len) × (is_empty lens ≡ false)
lengths len lens some =
    let parts = or_parts _ _ some in
    (pos_of_ne-zero (eqb-false len 0 parts.0), parts.1)

-- the reach of an axis and one step more are its length times its step
whole_axis : (len step : ℕ) → 0 < len → reach len (pos step) + step ≡ len * step
whole_axis zero step h = absurd (omega arith)
whole_axis (suc n) step h = let less : suc n - 1 ≡ n = omega arith in rw less (sym (suc-mul n step))

-- an axis with a stride past m does not count up to m
past : (m len step : ℕ) → m < step → reach_up_to m len (pos step) ≡ 0
past m len step h = cond-false _ _ _ (lt-leb step m h)

-- the axes of a shape without a zero length reach all places but the first together
pub default_strides_span : (lens : List ℕ) → is_empty lens ≡ false → span lens (map pos (default_strides lens)) + 1 ≡ size lens
default_strides_span [] some = refl
default_strides_span (len ∷ lens) some =
    let parts = lengths len lens some in
    rw (default_cons len lens some) (omega (arith, whole_axis len (size lens) parts.0, default_strides_span lens parts.1))

-- an axis longer than 1 has a stride below the size
stride_below : (lens : List ℕ) (axis : ℕ) → is_empty lens ≡ false → axis < length lens → 1 < get_or lens axis 0
    → magnitude_at (map pos (default_strides lens)) axis < size lens
stride_below [] axis some h long = absurd (omega arith)
stride_below (len ∷ lens) zero some h long =
    let rest = size_of_nonempty lens (lengths len lens some).1 in
    let twice = mul-le 2 (size lens) len (size lens) long (omega arith) in
    rw (default_cons len lens some) (omega arith)
stride_below (len ∷ lens) (suc axis) some h long =
    let parts = lengths len lens some in
    let once = mul-le 1 (size lens) len (size lens) parts.0 (omega arith) in
    rw (default_cons len lens some) (omega (arith, stride_below lens axis parts.1 (omega arith) long))

-- the default strides of a shape without a zero length obey the rule
pub default_strides_satisfy_rule : (lens : List ℕ) → is_empty lens ≡ false → SatisfiesNoAliasRule lens (map pos (default_strides lens))
default_strides_satisfy_rule [] some axis h long = absurd (omega arith)
default_strides_satisfy_rule (len ∷ lens) some zero h long =
    let m = size lens in
    let rest = map pos (default_strides lens) in
    rw (default_cons len lens some)
    (omega (arith, sum_le (reach_up_to m) reach (reach_up_to_le m) lens rest, default_strides_span lens (lengths len lens some).1))
default_strides_satisfy_rule (len ∷ lens) some (suc axis) h long =
    let rest = (lengths len lens some).1 in
    let within : axis < length lens = omega arith in
    let none = past (magnitude_at (map pos (default_strides lens)) axis) len (size lens) (stride_below lens axis rest within long) in
    rw (default_cons len lens some) (omega (arith, none, default_strides_satisfy_rule lens rest axis within long))
