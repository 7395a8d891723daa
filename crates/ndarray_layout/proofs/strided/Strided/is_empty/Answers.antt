-- A shape has no index exactly where a length is 0.
use Rattle.std.proofs.Common.{rules, ◌≡◌, ℕ, Bool, true, false, List, refl, sym, ◌∙◌, arith}
use Rattle.nd_base.specs.Size.{is_empty, size}
use Rattle.nd_base.proofs.Laws.Size.{size_of_empty, size_of_nonempty}
use Rattle.ndarray_layout.proofs.strided.Strided.is_empty.Goals as goal

empty_of_size : (shape : List ℕ) → size shape ≡ 0 → is_empty shape ≡ true
empty_of_size shape none = by (is_empty shape) refl
  where
    by : (empty : Bool) → is_empty shape ≡ empty → empty ≡ true
    by true is = refl
    by false is = absurd (omega (arith, size_of_nonempty shape is, none))

pub returns-clause-none : goal.returns-clause-none
returns-clause-none g c =
    let shape = c.args.self.now.shape in
    let same : c.contains.result ≡ is_empty shape = search rules in
    (λ empty. size_of_empty shape (sym same ∙ empty), λ none. same ∙ empty_of_size shape none)
