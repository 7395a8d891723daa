use Rattle.std.proofs.Common.{◌≡◌, ℕ, ℤ, pos, ◌+ℤ◌, ◌-ℤ◌, ◌≤ℤ◌, to_z, of_z, w32, arith, refl, ◌∙◌}
use Rattle.std.proofs.lemmas.Int.{ints}
use Rattle.nd_shape.specs.Layout.{flag_at, tendency}
use Rattle.nd_shape.proofs.layout.Layout.tendency.Goals as goal

-- a flag is 0 or 1
abbrev IsFlag : ℤ → Type 0
IsFlag z = (pos 0 ≤ℤ z) × (z ≤ℤ pos 1)

module _ (a b c d : ℤ) where
  by_flags : (layout : ℕ) → a ≡ flag_at layout 1 → b ≡ flag_at layout 2 → c ≡ flag_at layout 4 → d ≡ flag_at layout 8
      → (a -ℤ b) +ℤ (c -ℤ d) ≡ tendency layout
  by_flags layout e f g h = rw (e, f, g, h) refl

  -- no part of the sum leaves the range of 32 bits
  sum_fits : IsFlag a → IsFlag b → IsFlag c → IsFlag d
      → to_z w32 (of_z w32 (to_z w32 (of_z w32 (to_z w32 (of_z w32 a) -ℤ to_z w32 (of_z w32 b)))
      +ℤ to_z w32 (of_z w32 (to_z w32 (of_z w32 c) -ℤ to_z w32 (of_z w32 d))))) ≡ (a -ℤ b) +ℤ (c -ℤ d)
  sum_fits e f g h = omega (arith, ints, e.0, e.1, f.0, f.1, g.0, g.1, h.0, h.1)

pub returns : goal.returns
returns c =
    let a = c.flag_at.ensures in
    let b = c.flag_at-2.ensures in
    let d = c.flag_at-3.ensures in
    let e = c.flag_at-4.ensures in
    sum_fits _ _ _ _ (a.least, a.greatest) (b.least, b.greatest) (d.least, d.greatest) (e.least, e.greatest)
    ∙ by_flags _ _ _ _ c.args.self a.value b.value d.value e.value
