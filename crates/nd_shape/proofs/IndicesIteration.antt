-- What an iterator over the indices of a shape keeps while it goes on.
use Rattle.std.proofs.Common.{◌≡◌, ℕ, ◌+◌, ◌-◌, ◌<◌, ◌≤◌, ◌↔◌, Bool, true, false, cond, drop, eqb, eqb-true, not, pos_of_ne-zero, List}
use Rattle.std.proofs.Common.{[], ◌∷◌, length, replicate, Option, Some, None, inl, inr, refl, sym, ap, subst, ◌∙◌, arith}
use Rattle.std.specs.List.{slice_get}
use Rattle.std.specs.Prelude.{IsTrue}
use Rattle.std.proofs.lemmas.Bool.{cases_Bool, cases_lt, eqb-false}
use Rattle.nd_base.specs.declared.dim.Dim.{Dim}
use Rattle.nd_base.specs.declared.order.Order.{Order}
use Rattle.nd_base.proofs.Laws.Definitions.{lengths, rewritten, is_index, index_of_flat_in, flat_index_in, is_empty, size}
use Rattle.nd_base.proofs.Laws.Dim.{lengths_rewritten}
use Rattle.nd_base.proofs.Laws.IsIndex.{is_index-zeros, length_of_index}
use Rattle.nd_base.proofs.Laws.FlatIndex.{index_of_flat_in-flat_index_in, is_index-index_of_flat_in, flat_index_in-index_of_flat_in}
use Rattle.nd_base.proofs.Laws.FlatIndex.{flat_index_in-zeros}
use Rattle.nd_base.proofs.Laws.Size.{size_of_empty}
use Rattle.nd_shape.specs.IndicesLeft.{indices_left, StandsAt, StandsAtFirst, StandsAfter}
use Rattle.nd_shape.proofs.Laws.IndicesLeft.{indices_left-more, indices_left-none}

-- a shape with an index has no zero length
nonempty : (shape : List ℕ) → 0 < size shape → is_empty shape ≡ false
nonempty shape h = elim (cases_Bool (is_empty shape)) [
  | inl none ↦ absurd (omega (arith, size_of_empty shape none))
  | inr some ↦ some
]

module _ (order : Order) (shape : List ℕ) where
  -- at first all are left, and the first one, if there is one, is all 0
  pub starts : (index : List ℕ) (n : ℕ) → (0 < n → index ≡ replicate (length shape) 0) → n ≡ size shape → StandsAt order shape n index
  starts index n e m =
      let zeros : List ℕ = replicate (length shape) 0 in
      let none : 0 ≡ size shape - n = omega arith in
      record {
        within = omega arith;
        first = λ h.
            let is = is_index-zeros shape (nonempty shape (omega arith)) in
            e h ∙ sym (index_of_flat_in-flat_index_in order shape zeros is)
            ∙ ap (index_of_flat_in order shape) (flat_index_in-zeros order shape ∙ none);
      }

  -- where one is left, the iterator stands at an index,
  pub stands_at_index : (index : List ℕ) (n : ℕ) → 0 < n → StandsAt order shape n index → is_index shape index ≡ true
  stands_at_index index n h s =
      ap (is_index shape) (s.first h) ∙ is_index-index_of_flat_in order shape (size shape - n) (omega (arith, s.within))

  -- whose flat index is how many came before
  pub flat_index_here : (index : List ℕ) (n : ℕ) → 0 < n → StandsAt order shape n index → flat_index_in order shape index ≡ size shape - n
  flat_index_here index n h s =
      ap (flat_index_in order shape) (s.first h) ∙ flat_index_in-index_of_flat_in order shape (size shape - n) (omega (arith, s.within))

  -- what it gives is the first of those left
  pub gives : {index item : List ℕ} {n : ℕ} {left : List (List ℕ)} → 0 < n → StandsAt order shape n index → item ≡ index
      → indices_left order shape n ≡ left → left ≡ item ∷ indices_left order shape (n - 1)
  gives {n = n} h s e is =
      sym is ∙ indices_left-more order shape n h s.within ∙ ap (λ first. first ∷ indices_left order shape (n - 1)) (sym (e ∙ s.first h))

  -- and nothing where none is left
  pub gives_none : (n : ℕ) (left : List (List ℕ)) → n ≡ 0 → indices_left order shape n ≡ left → left ≡ []
  gives_none n left z is = sym is ∙ ap (indices_left order shape) z ∙ indices_left-none order shape

  -- after it the iterator stands at the index of the next flat index, if there is one
  pub goes_on : (index next : List ℕ) (n : ℕ) → 0 < n → StandsAt order shape n index
      → (flat_index_in order shape index + 1 < size shape → next ≡ index_of_flat_in order shape (flat_index_in order shape index + 1))
      → StandsAt order shape (n - 1) next
  goes_on index next n h s e =
      let here = flat_index_here index n h s in
      record {
        within = omega (arith, s.within);
        first = λ more.
            let after : flat_index_in order shape index + 1 ≡ size shape - (n - 1) = omega (arith, s.within) in
            e (omega (arith, s.within)) ∙ ap (index_of_flat_in order shape) after;
      }

-- ---- what an iterator stands at, if anything
module _ (order : Order) (shape : List ℕ) where
  -- at first the first index, if a flag says that there is one, or nothing
  pub starts_at : (index : List ℕ) (n : ℕ) → index ≡ replicate (length shape) 0 → n ≡ size shape
      → StandsAtFirst order shape n (cond (not (eqb n 0)) (Some index) None)
  starts_at index n e m = by (eqb n 0) refl
    where
      by : (b : Bool) → eqb n 0 ≡ b → StandsAtFirst order shape n (cond (not b) (Some index) None)
      by true z = eqb-true n 0 z
      by false z = (pos_of_ne-zero (eqb-false n 0 z), starts order shape index n (λ _. e) m)

  -- no more are left than there are
  pub within_shape : (n : ℕ) (first : Option (List ℕ)) → StandsAtFirst order shape n first → n ≤ size shape
  within_shape n None s = omega (arith, s)
  within_shape n (Some index) s = s.1.within

  -- where it stands at nothing, none are left
  pub none_left : (n : ℕ) (first : Option (List ℕ)) → StandsAtFirst order shape n first → first ≡ None → n ≡ 0
  none_left n None s e = s
  none_left n (Some index) s e = absurd (cc)

  -- where a flag says that it stands at an index, one is left at least
  pub stands_at : (index : List ℕ) (n : ℕ) (flag : Bool) → StandsAtFirst order shape n (cond flag (Some index) None) → flag ≡ true
      → (0 < n) × StandsAt order shape n index
  stands_at index n flag s e = subst (λ b. StandsAtFirst order shape n (cond b (Some index) None)) e s

  -- after an index it stands at the one of the next flat index, if a step says that there is one
  pub goes_on_to : {index : List ℕ} (next : List ℕ) {n : ℕ} (more : Bool) → 0 < n → StandsAt order shape n index
      → (IsTrue more ↔ (flat_index_in order shape index + 1 < size shape))
      → next ≡ cond more (index_of_flat_in order shape (flat_index_in order shape index + 1)) (replicate (length shape) 0)
      → StandsAtFirst order shape (n - 1) (cond more (Some next) None)
  goes_on_to {index = index} next {n = n} true h s is e =
      let more : flat_index_in order shape index + 1 < size shape = is.0 refl in
      (omega (arith, flat_index_here order shape index n h s), goes_on order shape index next n h s (λ _. e))
  goes_on_to {index = index} next {n = n} false h s is e =
      let here = flat_index_here order shape index n h s in
      elim (cases_lt (flat_index_in order shape index + 1) (size shape)) [
        | inl less ↦ let more = is.1 less in absurd (cc)
        | inr past ↦ omega (arith, s.within, here)
      ]

-- ---- a cursor, which moves on before it lends
module _ (order : Order) (shape : List ℕ) where
  -- after the index that was lent last it stands at the next one
  pub moves_on : (index next : List ℕ) (n : ℕ) (more : Bool) → StandsAt order shape (n + 1) index
      → (IsTrue more ↔ (flat_index_in order shape index + 1 < size shape))
      → next ≡ cond more (index_of_flat_in order shape (flat_index_in order shape index + 1)) (replicate (length shape) 0)
      → StandsAt order shape n next
  moves_on index next n more s is e =
      let same : n + 1 - 1 ≡ n = omega arith in
      subst (λ m. StandsAt order shape m next) same
      (goes_on order shape index next (n + 1) (omega arith) s (λ within. rw (is.1 within) at e))

  -- what it lends is the first of those left
  pub lends : (index : List ℕ) (n : ℕ) (left : List (List ℕ)) → 0 < n → StandsAt order shape n index → indices_left order shape n ≡ left
      → (indices_left order shape (n - 1) ≡ drop 1 left) × (Some index ≡ slice_get left 0)
  lends index n left h s is =
      let all = gives order shape h s refl is in
      (sym (ap (drop 1) all), sym (ap (λ xs. slice_get xs 0) all))

  pub lends_none : (n : ℕ) (left : List (List ℕ)) → n ≡ 0 → indices_left order shape n ≡ left
      → (indices_left order shape n ≡ drop 1 left) × (◌≡◌ {A = Option (List ℕ)} None (slice_get left 0))
  lends_none n left z is =
      let none = gives_none order shape n left z is in
      (is ∙ none ∙ sym (ap (drop 1) none), sym (ap (λ xs. slice_get xs 0) none))

  -- where the step writes to a dimension, it keeps the count of its coordinates
  pub moved_kept : {next : List ℕ} (kept : Dim (List ℕ)) (n : ℕ) (more : Bool) → StandsAt order shape (n + 1) (lengths kept)
      → (IsTrue more ↔ (flat_index_in order shape (lengths kept) + 1 < size shape))
      → next ≡ cond more (index_of_flat_in order shape (flat_index_in order shape (lengths kept) + 1)) (replicate (length shape) 0)
      → 0 < n → StandsAt order shape n (lengths (rewritten kept next))
  moved_kept {next = next} kept n more s is g h =
      let at = moves_on (lengths kept) next n more s is g in
      let count = length_of_index shape next (stands_at_index order shape next n h at)
      ∙ sym (length_of_index shape (lengths kept) (stands_at_index order shape (lengths kept) (n + 1) (omega arith) s)) in
      subst (λ xs. StandsAt order shape n xs) (sym (lengths_rewritten kept next count)) at

  -- no more are left than there are
  pub after_within : (index : List ℕ) (is_lent : Bool) (n : ℕ) → StandsAfter order shape is_lent n index → n ≤ size shape
  after_within index true n s = omega (arith, s.within)
  after_within index false n s = s.within
