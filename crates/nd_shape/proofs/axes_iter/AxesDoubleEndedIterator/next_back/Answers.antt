use Rattle.std.proofs.Common.{rules, ◌≡◌, length, ◌+◌, ◌∷◌, [], ◌++◌, ap, ◌∙◌, arith}
use Rattle.std.proofs.lemmas.List.{length_push}
use Rattle.nd_base.specs.Signed.{all_signed}
use Rattle.nd_shape.specs.Axes.{description, axes_from}
use Rattle.nd_shape.proofs.AxesIteration.{axes_left-push}
use Rattle.nd_shape.proofs.axes_iter.AxesDoubleEndedIterator.next_back.Goals as goal

pub returns-clause-steps : goal.returns-clause-steps
returns-clause-steps c =
    let lens : c.args.self.now.lens.now ≡ c.in_ok-len.lens.now ++ c.in_ok-len.len.now ∷ [] = search rules in
    let strides : c.args.self.now.strides.now ≡ c.in_ok-stride.strides.now ++ c.in_ok-stride.stride.now ∷ [] = search rules in
    let same : length c.in_ok-len.lens.now ≡ length c.in_ok-stride.strides.now = search rules in
    ap (λ xs. axes_from c.args.self.now.first xs (all_signed c.args.self.now.strides.now)) lens
    ∙ ap (λ ys. axes_from c.args.self.now.first (c.in_ok-len.lens.now ++ c.in_ok-len.len.now ∷ []) (all_signed ys)) strides
    ∙ axes_left-push c.args.self.now.first c.in_ok-len.lens.now c.in_ok-stride.strides.now c.in_ok-len.len.now c.in_ok-stride.stride.now
    same
    ∙ ap (λ s. axes_from c.args.self.now.first c.in_ok-len.lens.now (all_signed c.in_ok-stride.strides.now) ++ description
    (c.args.self.now.first + length c.in_ok-len.lens.now) c.in_ok-len.len.now s ∷ []) (search rules)

pub returns-clause-goes : goal.returns-clause-goes
returns-clause-goes c =
    let shorter = ap length (returns-clause-steps c) in
    record { on = λ _. (tt, tt, omega (arith, shorter ∙ length_push _ _)); keeps = tt; rests = λ _. tt }
