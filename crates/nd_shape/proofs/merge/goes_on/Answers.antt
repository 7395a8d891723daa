-- Both sides fit, so their bits are equal where they are.
use Rattle.std.proofs.Common.{rules, ◌≡◌, ℕ, ◌+◌, ◌-◌, ◌*◌, ◌≤◌, ℤ, pos, negsuc, ◌-ℤ◌, FitsSigned, mul-le-mul_right, IsTrue, nat_eq, to_z}
use Rattle.std.proofs.Common.{of_z, w64, ap, arith, refl, sym, ◌∙◌}
use Rattle.std.proofs.lemmas.Int.{ints, to_z-of_z}
use Rattle.nd_base.specs.Signed.{magnitude, signed}
use Rattle.nd_base.specs.Size.{limit}
use Rattle.nd_shape.proofs.MergedStride.{goes_on_from_second}
use Rattle.nd_shape.proofs.merge.goes_on.Goals as goal

tests_equal : (m n : ℕ) → (IsTrue (nat_eq m n) → m ≡ n) × (m ≡ n → IsTrue (nat_eq m n))
tests_equal m n = (λ t. grind arith, λ e. grind arith)

bits_equal : (a b : ℤ) → FitsSigned w64 a → FitsSigned w64 b → (IsTrue (nat_eq (of_z w64 a) (of_z w64 b)) → a ≡ b)
    × (a ≡ b → IsTrue (nat_eq (of_z w64 a) (of_z w64 b)))
bits_equal a b f g =
    let tests = tests_equal (of_z w64 a) (of_z w64 b) in
    (λ t. sym (to_z-of_z w64 a f) ∙ ap (to_z w64) (tests.0 t) ∙ to_z-of_z w64 b g, λ e. tests.1 (ap (of_z w64) e))

-- a difference is no further than both numbers together
difference_fits : (a b : ℤ) → magnitude a + magnitude b ≤ limit → FitsSigned w64 (a -ℤ b)
difference_fits (pos a) (pos b) h = omega (arith, ints, h)
difference_fits (pos a) (negsuc b) h = omega (arith, ints, h)
difference_fits (negsuc a) (pos b) h = omega (arith, ints, h)
difference_fits (negsuc a) (negsuc b) h = omega (arith, ints, h)

pub returns : goal.returns
returns c =
    let s : FitsSigned w64 c.signed.result = search rules in
    let o : FitsSigned w64 c.signed-2.result = search rules in
    let far : FitsSigned w64 c.stride_offset.result = search rules in
    let shorter : 1 * magnitude (signed c.args.other) ≤ (c.args.len - 1) * magnitude (signed c.args.other) =
    mul-le-mul_right (magnitude (signed c.args.other)) (omega (arith, c.requires.long)) in
    let near : FitsSigned w64 (c.signed.result -ℤ c.signed-2.result) =
    rw (c.signed.ensures.same_bits, c.signed-2.ensures.same_bits)
    (difference_fits (signed c.args.stride) (signed c.args.other) (omega (arith, shorter, c.requires.fits))) in
    let equal = bits_equal (c.signed.result -ℤ c.signed-2.result) c.stride_offset.result near far in
    let steps = goes_on_from_second c.args.len (signed c.args.stride) (signed c.args.other) (omega arith) in
    let here : c.signed.result -ℤ c.signed-2.result ≡ signed c.args.stride -ℤ signed c.args.other =
    rw (c.signed.ensures.same_bits, c.signed-2.ensures.same_bits) refl in
    rw (to_z-of_z w64 c.signed.result s, to_z-of_z w64 c.signed-2.result o) (
      λ t. steps.0 (sym here ∙ equal.0 t ∙ c.stride_offset.ensures),
      λ e. equal.1 (here ∙ steps.1 e ∙ sym c.stride_offset.ensures),
    )
