use Rattle.std.proofs.Common.{rules, ◌≡◌, ◌<◌, ◌≤◌, ℕ, ℤ, pos, List, Some, length, get_or, to_z, of_z, w64, arith, ap, ap₂, sym, ◌∙◌}
use Rattle.std.proofs.Common.{false, inl, inr}
use Rattle.std.specs.Option.{option_map}
use Rattle.std.specs.Prelude.{unsigned_abs, FitsSigned, not, remove}
use Rattle.std.proofs.lemmas.Bool.Decides.{nat_tests}
use Rattle.std.proofs.lemmas.Int.{to_z-of_z}
use Rattle.ndarray_layout.proofs.Laws.Definitions.{all_signed}
use Rattle.ndarray_layout.specs.NoAlias.{span_up_to, span_of_others, strides_over_others}
use Rattle.ndarray_layout.proofs.Laws.NoAlias.{axis_tested}
use Rattle.ndarray_layout.specs.StrideOrder.{magnitude_at}
use Rattle.ndarray_layout_c.specs.Reasons.{of_axis}
use Rattle.ndarray_layout_c.proofs.FirstOf.{first_found, first_passed}
use Rattle.ndarray_layout_c.proofs.Strides.{signed_at}
use Rattle.ndarray_layout_c.proofs.aliases.alias_reason.Goals as goal
use Rattle.ndarray_layout_c.proofs.aliases.alias_reason.Goals.{After-unsigned_abs-magnitude}

-- an axis longer than 1 whose stride the others reach doesn't stride over them
not_over : (shape : List ℕ) (strides : List ℤ) (axis : ℕ) → 1 < get_or shape axis 0
    → magnitude_at strides axis ≤ span_of_others shape strides axis → strides_over_others shape strides axis ≡ false
not_over shape strides axis long near = grind (arith, nat_tests)

-- what the code computes, in the words of the rule
stride_is : (c : After-unsigned_abs-magnitude)
    → to_z w64 (of_z w64 c.signed-stride.result) ≡ get_or (all_signed c.args.strides.now) c.loop-axis.axis (pos 0)
stride_is c =
    let fits : FitsSigned w64 c.signed-stride.result = search rules in
    to_z-of_z w64 c.signed-stride.result fits ∙ c.signed-stride.ensures.same_bits
    ∙ sym (signed_at c.args.strides.now c.loop-axis.axis (omega (arith, c.requires.same_count)))

magnitude_is : (c : After-unsigned_abs-magnitude)
    → c.unsigned_abs-magnitude.result ≡ magnitude_at (all_signed c.args.strides.now) c.loop-axis.axis
magnitude_is c = c.unsigned_abs-magnitude.ensures.value ∙ ap unsigned_abs (stride_is c)

pub returns-then-magnitude-others : goal.returns-then-magnitude-others
returns-then-magnitude-others c =
    let at = (goal.at.returns-then-magnitude-others c).After-unsigned_abs-magnitude in
    let shape = c.args.shape.now in
    let strides = all_signed c.args.strides.now in
    let axis = c.loop-axis.axis in
    let others : c.span_of_others-others.result ≡ span_of_others shape strides axis =
    c.span_of_others-others.ensures ∙ ap (λ m. span_up_to m (remove shape axis) (remove strides axis)) (magnitude_is at) in
    let near : magnitude_at strides axis ≤ span_of_others shape strides axis =
    omega (arith, others, magnitude_is at, c.if-magnitude-others.true) in
    let first = first_found (λ axis. not (strides_over_others shape strides axis)) axis (length shape) c.loop-axis-test.true
    (ap not (not_over shape strides axis c.if-shape-axis-gt1.true near)) c.loop-axis.invariant in
    let told = c.of_axis.ensures ∙ ap₂ (λ stride reach. of_axis (pos 5) (pos 11) axis stride reach 0) (stride_is at) others in
    ap Some told
    ∙ ap (option_map (λ axis. of_axis (pos 5) (pos 11) axis (get_or strides axis (pos 0)) (span_of_others shape strides axis) 0)) first

pub loop-axis-preserved : goal.loop-axis-preserved
loop-axis-preserved c =
    let at = (goal.at.loop-axis-preserved c).After-unsigned_abs-magnitude in
    let shape = c.args.shape.now in
    let strides = all_signed c.args.strides.now in
    let axis = c.loop-axis.axis in
    let others : c.span_of_others-others.result ≡ span_of_others shape strides axis =
    c.span_of_others-others.ensures ∙ ap (λ m. span_up_to m (remove shape axis) (remove strides axis)) (magnitude_is at) in
    let own = magnitude_is at in
    let over = axis_tested shape strides axis (λ long. elim c.else-shape-axis-gt1.either [
      | inl far ↦ omega (arith, others, own, far.1)
      | inr short ↦ absurd (omega (arith, long, short))
    ]) in
    first_passed (λ axis. not (strides_over_others shape strides axis)) axis (length shape) c.loop-axis-test.true
    (ap not over) c.loop-axis.invariant
