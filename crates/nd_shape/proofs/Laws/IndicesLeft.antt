-- Laws of what an iterator over the indices of a shape has still to give.
use Rattle.std.proofs.Common.{◌≡◌, ℕ, suc, ◌-◌, ◌<◌, ◌≤◌, List, [], ◌∷◌, length, drop, ap, ◌∙◌, arith, drop-cons, length-drop}
use Rattle.std.proofs.Common.{drop_of_length-le}
use Rattle.nd_base.specs.declared.order.Order.{Order}
use Rattle.nd_base.proofs.Laws.Definitions.{indices_in, size}
use Rattle.nd_base.proofs.Laws.Indices.{get_or-indices_in, length-indices_in}
use Rattle.nd_shape.specs.IndicesLeft.{indices_left, first_left}

module _ (order : Order) (shape : List ℕ) where
  -- as many as the size are all of them
  pub indices_left-whole : indices_left order shape (size shape) ≡ indices_in order shape
  indices_left-whole = let none : size shape - size shape ≡ 0 = omega arith in ap (λ k. drop k (indices_in order shape)) none

  -- no more than n, and n where there are as many
  pub length-indices_left : (n : ℕ) → n ≤ size shape → length (indices_left order shape n) ≡ n
  length-indices_left n h =
      omega (arith, length-drop (size shape - n) (indices_in order shape), length-indices_in order shape)

  -- 0 are none
  pub indices_left-none : indices_left order shape 0 ≡ []
  indices_left-none = drop_of_length-le (indices_in order shape) (omega (arith, length-indices_in order shape))

  -- of one more than n the first is the index of its flat index, and the others are the last n
  pub indices_left-more : (n : ℕ) → 0 < n → n ≤ size shape
      → indices_left order shape n ≡ first_left order shape n ∷ indices_left order shape (n - 1)
  indices_left-more n h g =
      let k = size shape - n in
      let on : suc k ≡ size shape - (n - 1) = omega arith in
      drop-cons (indices_in order shape) k [] (omega (arith, length-indices_in order shape))
      ∙ ap (λ index. index ∷ drop (suc k) (indices_in order shape)) (get_or-indices_in order shape k [] (omega arith))
      ∙ ap (λ m. first_left order shape n ∷ drop m (indices_in order shape)) on
