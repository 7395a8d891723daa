-- What is made by its number: what comes next, what comes last, and what is left without some at either end.
use Rattle.std.proofs.Common.{◌≡◌, ℕ, ◌+◌, ◌-◌, ◌<◌, ◌≤◌, List, [], ◌∷◌, ◌++◌, Some, drop, get_or, length, map, min, refl}
use Rattle.std.proofs.Common.{take, ap, sym, subst, ◌∙◌, arith}
use Rattle.std.specs.List.{All, AllPairs, range_with_len}
use Rattle.std.specs.Prelude.{slice_get}
use Rattle.std.proofs.lemmas.List.{get_or-append-add, length-append, take_all}
use Rattle.std.proofs.lemmas.List.Elements.{All-head}
use Rattle.std.proofs.lemmas.List.FromFn.{get_or-map-range_with_len, length-map-range_with_len}
use Rattle.std.proofs.lemmas.Option.{slice_get_read}
use Rattle.ndarray_layout.proofs.Laws.Rows.{left_from}
use Rattle.nd_access.proofs.Laws.Between.{between_advanced, between_cut, last_between, length_between, slice_get-take}

-- what is made of each number below another, from one number up to another of these
module _ {X : Type 0} (f : ℕ → X) (count : ℕ) where
  abbrev pub made : List X
  made = map f (range_with_len 0 count)

  pub length-made : length made ≡ count
  length-made = length-map-range_with_len f 0 count

  made_at : (k : ℕ) → k < count → slice_get made k ≡ Some (f k)
  made_at k below = slice_get_read made count k (f k) (sym length-made) below
      (sym (get_or-map-range_with_len f 0 count k k (f k) below (omega arith)))

  module _ (begun end : ℕ) (ordered : begun ≤ end) (within : end ≤ count) {now : List X} (are : drop begun (take end made) ≡ now) where
    enough : end ≤ length made
    enough = omega (arith, length-made, within)

    pub many_left : end - begun ≡ length now
    many_left = sym (length_between made begun end ordered enough) ∙ ap length are

    pub left_advanced : (leave : ℕ) {out : ℕ} → out ≡ min leave (end - begun) → drop (begun + out) (take end made) ≡ drop leave now
    left_advanced leave same = between_advanced made begun end ordered enough leave same ∙ ap (drop leave) are

    pub left_cut : (leave : ℕ) {out : ℕ} → out ≡ min leave (end - begun)
        → drop begun (take (end - out) made) ≡ take (length now - leave) now
    left_cut leave same = between_cut made begun end ordered enough leave same ∙ ap (λ (xs : List X). take (length xs - leave) xs) are

    -- the first of them, and the others
    pub first_left : begun < end → {x : X} → x ≡ f begun → now ≡ x ∷ drop (begun + 1) (take end made)
    first_left some is = sym are ∙ left_from (take end made) begun
        (ap Some is ∙ sym (slice_get-take made end begun some ∙ made_at begun (omega (arith, some, within))))

    -- the last, and those before it
    pub last_left : begun < end → {x : X} → x ≡ f (end - 1) → now ≡ drop begun (take (end - 1) made) ++ x ∷ []
    last_left some is = sym are ∙ last_between made begun end some
        (ap Some is ∙ sym (made_at (end - 1) (omega (arith, some, within))))

    -- what holds of all holds of these
    pub holds_first : (P : X → Type 0) → begun < end → All P now → P (f begun)
    holds_first P some all = All-head P (f begun) (drop (begun + 1) (take end made)) (subst (All P) (first_left some refl) all)

    pub holds_last : (P : X → Type 0) → begun < end → All P now → P (f (end - 1))
    holds_last P some all =
        let before = drop begun (take (end - 1) made) in
        let x = f (end - 1) in
        subst P (get_or-append-add before (x ∷ []) 0 x)
        (subst (All P) (last_left some refl) all (length before + 0) x (omega (arith, length-append before (x ∷ []))))

-- ---- at first all are left
pub all_at_first : {X : Type 0} (f : ℕ → X) (count : ℕ) {end : ℕ} → end ≡ count → take end (made f count) ≡ made f count
all_at_first f count {end} same = take_all end (made f count) (omega (arith, same, length-made f count))

-- ---- all that are made
module _ {X : Type 0} (f : ℕ → X) (count : ℕ) where
  pub all_made : (P : X → Type 0) → ((k : ℕ) → k < count → P (f k)) → All P (made f count)
  all_made P each k d below =
      let early : k < count = omega (arith, below, length-made f count) in
      subst P (sym (get_or-map-range_with_len f 0 count k k d early (omega arith))) (each k early)

  pub pairs_made : (R : X → X → Type 0) → ((j k : ℕ) → j < k → k < count → R (f j) (f k)) → AllPairs R (made f count)
  pairs_made R each j k d before below =
      let late : k < count = omega (arith, below, length-made f count) in
      let early : j < count = omega (arith, before, late) in
      subst (λ one. R one (get_or (made f count) k d)) (sym (get_or-map-range_with_len f 0 count j j d early (omega arith)))
      (subst (R (f j)) (sym (get_or-map-range_with_len f 0 count k k d late (omega arith))) (each j k before late))
