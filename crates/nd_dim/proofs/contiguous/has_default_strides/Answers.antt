use Rattle.std.proofs.Common.{◌≡◌, ◌<◌, ◌+◌, ◌-◌, length, ℕ, drop, get_or, Fits, w64, arith, sym, ap, ◌∙◌, refl}
use Rattle.std.proofs.lemmas.Bool.{cond-false}
use Rattle.std.proofs.lemmas.List.FromFn.{fill_by_all}
use Rattle.nd_base.specs.Size.{size}
use Rattle.nd_dim.specs.Strides.{size_after, default_strides}
use Rattle.nd_dim.proofs.Laws.Strides.{default_at}
use Rattle.nd_base.proofs.Laws.NonzeroSize.{size_le_nonzero_size}
use Rattle.nd_base.proofs.Laws.Size.{size_drop_le, size_drop_more}
use Rattle.nd_dim.proofs.contiguous.has_default_strides.Goals as goal

pub overflow_mul-size : goal.overflow_mul-size
overflow_mul-size c =
    let lens = c.args.lens.now in
    let k = c.loop-axis.axis - 1 in
    let some = sym c.contains.ensures.value ∙ c.if-contains.false in
    let whole = size_drop_more lens c.loop-axis.axis c.loop-axis.size (omega arith) (omega arith) c.loop-axis.invariant.product in
    let less = size_drop_le lens k some in
    let fits : Fits w64 (size (drop k lens)) = omega (arith, size_le_nonzero_size lens) in
    rw whole fits

pub returns-then-strides-axis : goal.returns-then-strides-axis
returns-then-strides-axis c =
    let lens = c.args.lens.now in
    let k = c.loop-axis.axis - 1 in
    let some = sym c.contains.ensures.value ∙ c.if-contains.false in
    let here : c.loop-axis.axis ≡ k + 1 = omega arith in
    let default : c.args.strides.now ≡ default_strides lens → get_or c.args.strides.now k 0 ≡ c.loop-axis.size =
    λ e. ap (λ xs. get_or xs k 0) e ∙ default_at lens k some (omega arith) ∙ ap (λ a. size (drop a lens)) (sym here)
    ∙ sym c.loop-axis.invariant.product in
    (λ t. absurd (cc), λ e. absurd (c.if-strides-axis.true (default e)))

pub returns : goal.returns
returns c =
    let lens = c.args.lens.now in
    let some = sym c.contains.ensures.value ∙ c.if-contains.false in
    let all : (k : ℕ) → k < length lens
    → get_or c.args.strides.now k 0 ≡ size_after lens k = λ k h. c.loop-axis.invariant.same k (omega arith) h in
    let same : c.args.strides.now ≡ default_strides lens =
    fill_by_all (size_after lens) c.args.strides.now (length lens) 0 (omega arith) all ∙ sym (cond-false _ _ _ some) in
    (λ t. same, λ e. refl)
