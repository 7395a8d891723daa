use Rattle.std.proofs.Common.{suc, ◌≡◌, ℕ, ◌-◌, length, List, [], ◌∷◌, arith, ap, refl, ◌∙◌}
use Rattle.std.specs.Prelude.{slice_get, unwrap_or}
use Rattle.nd_dim.specs.LastLen.{last_len as last_of_lengths}
use Rattle.nd_dim.proofs.last_len.last_len.Goals as goal

-- the coordinate before the end
last_is : (lens : List ℕ) → unwrap_or (slice_get lens (length lens - 1)) 0 ≡ last_of_lengths lens
last_is [] = refl
last_is (len ∷ []) = refl
last_is (len ∷ next ∷ lens) =
    let longer : length (len ∷ next ∷ lens) - 1 ≡ suc (length (next ∷ lens) - 1) = omega arith in
    ap (λ k. unwrap_or (slice_get (len ∷ next ∷ lens) k) 0) longer ∙ last_is (next ∷ lens)

pub returns : goal.returns
returns c =
    let found = c.copied.ensures ∙ c.last.ensures.value in
    c.unwrap_or.ensures ∙ ap (λ o. unwrap_or o 0) found ∙ last_is c.args.lens.now
