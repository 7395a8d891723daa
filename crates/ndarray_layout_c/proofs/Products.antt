-- A product of the lengths that are not 0, axis by axis.
use Rattle.std.proofs.Common.{◌≡◌, ◌≢◌, ℕ, ◌+◌, ◌*◌, ◌<◌, ◌≤◌, List, [], ◌∷◌, length, get_or, drop, inl, inr, refl, sym, ap, ◌∙◌, arith}
use Rattle.std.proofs.Common.{drop_of_length-le, le-mul_of_pos_right, mul-pos, mul_assoc, mul-one, one-mul}
use Rattle.std.proofs.lemmas.Bool.{cases_eq}
use Rattle.ndarray_layout.specs.Size.{limit, nonzero_size}
use Rattle.ndarray_layout.proofs.Laws.NonzeroSize.{nonzero_size_from_other, nonzero_size_from_zero, nonzero_size_of_other}
use Rattle.ndarray_layout.proofs.Laws.NonzeroSize.{nonzero_size_of_zero, nonzero_size_pos}

-- of one length
pub of_zero : (len : ℕ) → len ≡ 0 → nonzero_size (len ∷ []) ≡ 1
of_zero len zero = nonzero_size_of_zero len [] zero

pub of_other : (len : ℕ) → len ≢ 0 → nonzero_size (len ∷ []) ≡ len
of_other len some = nonzero_size_of_other len [] some ∙ mul-one len

module _ (number : ℕ) (list : List ℕ) where
  -- a number times the lengths up to an axis that are not 0
  pub record IsProduct (k product : ℕ) : Type 0 where
    pub some : 0 < product
    pub fits : product ≤ limit
    pub whole : product * nonzero_size (drop k list) ≡ number * nonzero_size list

  -- this length, and those after it
  step : (k : ℕ) → k < length list → nonzero_size (drop k list) ≡ nonzero_size (get_or list k 0 ∷ []) * nonzero_size (drop (k + 1) list)
  step k below = elim (cases_eq (get_or list k 0) 0) [
    | inl zero ↦
        nonzero_size_from_zero list k below zero
        ∙ sym (ap (λ one. one * nonzero_size (drop (k + 1) list)) (of_zero _ zero) ∙ one-mul _)
    | inr some ↦
        nonzero_size_from_other list k below some
        ∙ sym (ap (λ one. one * nonzero_size (drop (k + 1) list)) (of_other _ some))
  ]

  module _ (k product len : ℕ) (so_far : IsProduct k product) (below : k < length list) (here : len ≡ get_or list k 0) where
    split : (product * nonzero_size (len ∷ [])) * nonzero_size (drop (k + 1) list) ≡ number * nonzero_size list
    split =
        ap (λ len. (product * nonzero_size (len ∷ [])) * nonzero_size (drop (k + 1) list)) here
        ∙ mul_assoc product _ _ ∙ ap (λ rest. product * rest) (sym (step k below)) ∙ so_far.whole

    pub next : (more : ℕ) → more ≡ product * nonzero_size (len ∷ []) → more ≤ limit → IsProduct (k + 1) more
    next more is fits = record {
      some = rw is (mul-pos so_far.some (nonzero_size_pos (len ∷ [])));
      fits = fits;
      whole = ap (λ more. more * nonzero_size (drop (k + 1) list)) is ∙ split;
    }

    pub part : product * nonzero_size (len ∷ []) ≤ number * nonzero_size list
    part =
        let more : product * nonzero_size (len ∷ []) ≤ (product * nonzero_size (len ∷ [])) * nonzero_size (drop (k + 1) list) =
        le-mul_of_pos_right _ (nonzero_size_pos (drop (k + 1) list)) in
        omega (arith, more, split)

  pub begins : 0 < number → number ≤ limit → IsProduct 0 number
  begins some fits = record { some = some; fits = fits; whole = refl }

  pub ends : (k product : ℕ) → IsProduct k product → length list ≤ k → product ≡ number * nonzero_size list
  ends k product all end =
      sym (mul-one product) ∙ ap (λ rest. product * nonzero_size rest) (sym (drop_of_length-le list end)) ∙ all.whole
