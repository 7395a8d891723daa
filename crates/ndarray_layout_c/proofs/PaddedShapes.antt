-- The lengths of a shape with lengths of 1 in front.
use Rattle.std.proofs.Common.{◌≡◌, ℕ, ◌+◌, ◌-◌, ◌<◌, ◌≤◌, List, ◌++◌, length, get_or, replicate, sym, ap, ◌∙◌, arith}
use Rattle.std.proofs.lemmas.List.{get_or-append-add, get_or_append_left, get_or-replicate, length-replicate}
use Rattle.ndarray_layout.specs.CommonShape.{padded}

module _ (count : ℕ) (shape : List ℕ) where
  pub in_front : (axis : ℕ) → axis < count - length shape → get_or (padded count shape) axis 0 ≡ 1
  in_front axis h =
      let n = count - length shape in
      get_or_append_left (replicate n 1) shape 0 axis (omega (arith, h, length-replicate {A = ℕ} n 1)) ∙ get_or-replicate n axis 1 0 h

  pub after_front : (k : ℕ) → get_or (padded count shape) (count - length shape + k) 0 ≡ get_or shape k 0
  after_front k =
      let n = count - length shape in
      let ones : List ℕ = replicate n 1 in
      ap (λ i. get_or (ones ++ shape) (i + k) 0) (sym (length-replicate {A = ℕ} n 1)) ∙ get_or-append-add ones shape k 0

  pub past_front : (axis : ℕ) → count - length shape ≤ axis
      → get_or (padded count shape) axis 0 ≡ get_or shape (axis - (count - length shape)) 0
  past_front axis h =
      let split : axis ≡ (count - length shape) + (axis - (count - length shape)) = omega (arith, h) in
      ap (λ i. get_or (padded count shape) i 0) split ∙ after_front (axis - (count - length shape))
