-- The common shape of a list of lengths and one that is no longer, axis by axis.
use Rattle.std.proofs.Common.{◌≡◌, ℕ, zero, suc, ◌+◌, ◌-◌, ◌<◌, ◌≤◌, max, true, Option, Some, None, is_some, List, [], ◌∷◌, ◌++◌}
use Rattle.std.proofs.Common.{length, map, replicate, get_or, inl, inr, refl, sym, ap, ◌∙◌, arith}
use Rattle.std.specs.Option.{option_map, option_and_then}
use Rattle.std.specs.Prelude.{unwrap_or}
use Rattle.std.proofs.lemmas.Bool.{cases_lt}
use Rattle.std.proofs.lemmas.List.{get_or-append-add, get_or_append_left, get_or-replicate, length-replicate}
use Rattle.std.proofs.lemmas.List.FromFn.{get_or-map-range_with_len, length-map-range_with_len}
use Rattle.nd_base.specs.Indices.{below}
use Rattle.nd_shape.specs.CommonShape.{common_length, common_lengths, padded, common_shape}
use Rattle.nd_shape.proofs.Laws.CommonShape.{common_with_one, joined_parts, length-padded}

-- ---- as many lengths on both sides
-- a list that is common axis by axis is the common one
some_by_axes : (lens others common : List ℕ) → length lens ≡ length others → length common ≡ length lens
    → ((k : ℕ) → k < length lens → common_length (get_or lens k 0) (get_or others k 0) ≡ Some (get_or common k 0))
    → common_lengths lens others ≡ Some common
some_by_axes [] others [] e f h = refl
some_by_axes [] others (c ∷ common) e f h = absurd (omega arith)
some_by_axes (len ∷ lens) [] common e f h = absurd (omega arith)
some_by_axes (len ∷ lens) (other ∷ others) [] e f h = absurd (omega arith)
some_by_axes (len ∷ lens) (other ∷ others) (c ∷ common) e f h =
    let rest = some_by_axes lens others common (omega arith) (omega arith) (λ k l. h (suc k) (omega arith)) in
    ap (λ o. option_and_then (λ n. option_map (λ s. n ∷ s) (common_lengths lens others)) o) (h 0 (omega arith))
    ∙ ap (option_map (λ s. c ∷ s)) rest

-- and has at each axis what is common there
pub axes_of_common : (lens others common : List ℕ) → length lens ≡ length others → common_lengths lens others ≡ Some common → (k : ℕ)
    → k < length lens → common_length (get_or lens k 0) (get_or others k 0) ≡ Some (get_or common k 0)
axes_of_common [] others common e h k l = absurd (omega arith)
axes_of_common (len ∷ lens) [] common e h k l = absurd (omega arith)
axes_of_common (len ∷ lens) (other ∷ others) common e h zero l =
    let parts = joined_parts (common_length len other) (common_lengths lens others) common h in
    parts.is_first ∙ ap (λ s. Some (get_or s 0 0)) parts.same
axes_of_common (len ∷ lens) (other ∷ others) common e h (suc k) l =
    let parts = joined_parts (common_length len other) (common_lengths lens others) common h in
    axes_of_common lens others parts.lens (omega arith) parts.is_rest k (omega arith) ∙ ap (λ s. Some (get_or s (suc k) 0)) parts.same

there : {A : Type 0} (o : Option A) → is_some o ≡ true → (x : A) × (o ≡ Some x)
there None h = absurd (cc)
there (Some x) h = (x, refl)

-- so there is one where each axis has one
some_where_all : (lens others : List ℕ) → length lens ≡ length others
    → ((k : ℕ) → k < length lens → is_some (common_length (get_or lens k 0) (get_or others k 0)) ≡ true)
    → is_some (common_lengths lens others) ≡ true
some_where_all lens others e h =
    let n = length lens in
    let of = λ (k : ℕ). unwrap_or (common_length (get_or lens k 0) (get_or others k 0)) 0 in
    ap is_some (some_by_axes lens others (map of (below n)) e (length-map-range_with_len of 0 n) (λ k l.
    let found = there (common_length (get_or lens k 0) (get_or others k 0)) (h k l) in
    found.1 ∙ ap Some (sym (get_or-map-range_with_len of 0 n k k 0 l (omega arith) ∙ ap (λ o. unwrap_or o 0) found.1))))

-- and then each axis has one
all_where_some : (lens others : List ℕ) → length lens ≡ length others → is_some (common_lengths lens others) ≡ true → (k : ℕ)
    → k < length lens → is_some (common_length (get_or lens k 0) (get_or others k 0)) ≡ true
all_where_some lens others e h k l =
    let found = there (common_lengths lens others) h in
    ap is_some (axes_of_common lens others found.0 e found.1 k l)

-- ---- one list of lengths no longer than the other
module _ (longer shorter : List ℕ) where
  front : (k : ℕ) → k < length longer - length shorter → get_or (padded (length longer) shorter) k 0 ≡ 1
  front k h =
      let n = length longer - length shorter in
      get_or_append_left (replicate n 1) shorter 0 k (omega (arith, length-replicate {A = ℕ} n 1)) ∙ get_or-replicate n k 1 0 h

  pub after_front : (k : ℕ) → get_or (padded (length longer) shorter) (length longer - length shorter + k) 0 ≡ get_or shorter k 0
  after_front k =
      let n = length longer - length shorter in
      let ones : List ℕ = replicate n 1 in
      let count : length ones ≡ n = length-replicate {A = ℕ} n 1 in
      ap (λ i. get_or (ones ++ shorter) (i + k) 0) (sym count) ∙ get_or-append-add ones shorter k 0

  -- only the shorter one has ones in front
  pub common_shape_of_longer : length shorter ≤ length longer
      → common_shape longer shorter ≡ common_lengths longer (padded (length longer) shorter)
  common_shape_of_longer h =
      let count : max (length longer) (length shorter) ≡ length longer = omega arith in
      let none : length longer - length longer ≡ 0 = omega arith in
      ap (λ n. common_lengths (padded n longer) (padded n shorter)) count
      ∙ ap (λ n. common_lengths (replicate n 1 ++ longer) (padded (length longer) shorter)) none

-- an axis lies in front of the shorter list, or beside one of its axes
abbrev Beside : List ℕ → List ℕ → ℕ → Type 0
Beside longer shorter k = (i : ℕ) × (i < length shorter) × (k ≡ length longer - length shorter + i)

module _ (longer shorter : List ℕ) where
  beside : (k : ℕ) → length shorter ≤ length longer → k < length longer → length longer - length shorter ≤ k → Beside longer shorter k
  beside k h l g = (k - (length longer - length shorter), omega arith, omega arith)

  pub common_shape_by_axes : (common : List ℕ) → length shorter ≤ length longer → length common ≡ length longer
      → ((k : ℕ) → k < length longer - length shorter → get_or common k 0 ≡ get_or longer k 0)
      → ((k : ℕ) → k < length shorter
      → common_length (get_or longer (length longer - length shorter + k) 0) (get_or shorter k 0)
      ≡ Some (get_or common (length longer - length shorter + k) 0)) → common_shape longer shorter ≡ Some common
  common_shape_by_axes common h e f g =
      let n = length longer - length shorter in
      let other = padded (length longer) shorter in
      common_shape_of_longer longer shorter h
      ∙ some_by_axes longer other common (sym (length-padded (length longer) shorter h)) e (λ k l.
      elim (cases_lt k n) [
        | inl less ↦ ap (common_length (get_or longer k 0)) (front longer shorter k less) ∙ common_with_one (get_or longer k 0)
            ∙ ap Some (sym (f k less))
        | inr more ↦
            let at = beside k h l more in
            ap (λ i. common_length (get_or longer i 0) (get_or other i 0)) at.2
            ∙ ap (common_length (get_or longer (n + at.0) 0)) (after_front longer shorter at.0)
            ∙ g at.0 at.1
            ∙ ap (λ i. Some (get_or common i 0)) (sym at.2)
      ])

  pub common_shape_where_all : length shorter ≤ length longer
      → ((k : ℕ) → k < length shorter
      → is_some (common_length (get_or longer (length longer - length shorter + k) 0) (get_or shorter k 0)) ≡ true)
      → is_some (common_shape longer shorter) ≡ true
  common_shape_where_all h g =
      let n = length longer - length shorter in
      let other = padded (length longer) shorter in
      ap is_some (common_shape_of_longer longer shorter h)
      ∙ some_where_all longer other (sym (length-padded (length longer) shorter h)) (λ k l.
      elim (cases_lt k n) [
        | inl less ↦ ap (λ o. is_some (common_length (get_or longer k 0) o)) (front longer shorter k less)
            ∙ ap is_some (common_with_one (get_or longer k 0))
        | inr more ↦
            let at = beside k h l more in
            ap (λ i. is_some (common_length (get_or longer i 0) (get_or other i 0))) at.2
            ∙ ap (λ o. is_some (common_length (get_or longer (n + at.0) 0) o)) (after_front longer shorter at.0)
            ∙ g at.0 at.1
      ])

  pub all_where_common_shape : length shorter ≤ length longer → is_some (common_shape longer shorter) ≡ true → (k : ℕ)
      → k < length shorter → is_some (common_length (get_or longer (length longer - length shorter + k) 0) (get_or shorter k 0)) ≡ true
  all_where_common_shape h e k l =
      let n = length longer - length shorter in
      sym (ap (λ o. is_some (common_length (get_or longer (n + k) 0) o)) (after_front longer shorter k))
      ∙ all_where_some longer (padded (length longer) shorter) (sym (length-padded (length longer) shorter h))
      (sym (ap is_some (common_shape_of_longer longer shorter h)) ∙ e) (n + k) (omega arith)
