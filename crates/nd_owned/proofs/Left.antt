-- Items that are taken out of a list at one place after another, where no place comes twice.
use Rattle.std.proofs.Common.{◌≡◌, ◌≢◌, ℕ, zero, suc, ◌<◌, ℤ, pos, negsuc, Option, Some, None, List, [], ◌∷◌, ◌++◌, length}
use Rattle.std.proofs.Common.{get_or, get_or-set_other, map, set, refl, sym, ap, subst, append_assoc, ◌∙◌, arith}
use Rattle.std.specs.List.{All, AllPairs}
use Rattle.std.specs.Option.{IsSome}
use Rattle.std.proofs.lemmas.List.Elements.{All-head, All-tail}
use Rattle.ndarray_layout.specs.Bounds.{IsInBounds}
use Rattle.ndarray_layout.proofs.Laws.Lists.{map_same}
use Rattle.nd_lent.specs.Items.{item_at_place}
use Rattle.nd_lent.proofs.Laws.Lists.{pairs_head, pairs_tail}
use Rattle.nd_owned.specs.private.Left.{left_at}

-- ---- before the first is taken
-- at each place the list's own item is left
pub own_left : {X : Type 0} (items : List X) (z : ℤ) → left_at (map Some items) z ≡ item_at_place items z
own_left items (negsuc n) = refl
own_left [] (pos k) = refl
own_left (x ∷ items) (pos zero) = refl
own_left (x ∷ items) (pos (suc k)) = own_left items (pos k)

-- so there is one at each place among them
pub some_left : {X : Type 0} (items : List X) (z : ℤ) → IsInBounds (length items) z → IsSome (left_at (map Some items) z)
some_left items (negsuc n) within = absurd within
some_left [] (pos k) within = absurd (omega arith)
some_left (x ∷ items) (pos zero) within = refl
some_left (x ∷ items) (pos (suc k)) within = some_left items (pos k) (omega arith)

-- and so at places of which each is among them
module _ {X : Type 0} (items : List X) {left : List (Option X)} (own : left ≡ map Some items) (places : List ℤ) where
  pub all_own : map (left_at left) places ≡ map (item_at_place items) places
  all_own = map_same (left_at left) (item_at_place items) places (λ k d below.
      ap (λ now. left_at now (get_or places k d)) own ∙ own_left items (get_or places k d))

  pub all_there : All (IsInBounds (length items)) places → All (λ z. IsSome (left_at left z)) places
  all_there within = λ k d below.
      subst (λ now. IsSome (left_at now (get_or places k d))) (sym own) (some_left items (get_or places k d) (within k d below))

-- ---- what is taken at a place
module _ {X : Type 0} (left : List (Option X)) (place : ℕ) where
  abbrev after : List (Option X)
  after = set left place None

  -- what is left at another place is still there
  pub left_elsewhere : (z : ℤ) → pos place ≢ z → left_at after z ≡ left_at left z
  left_elsewhere (negsuc n) other = refl
  left_elsewhere (pos k) other = get_or-set_other left place k None None (λ same. other (ap pos (sym same)))

  -- and so at all places that come later
  pub left_later : (later : List ℤ) → All (λ z. pos place ≢ z) later → map (left_at after) later ≡ map (left_at left) later
  left_later later others =
      map_same (left_at after) (left_at left) later (λ k d below. left_elsewhere (get_or later k d) (others k d below))

  pub some_later : (later : List ℤ) → All (λ z. pos place ≢ z) later → All (λ z. IsSome (left_at left z)) later
      → All (λ z. IsSome (left_at after z)) later
  some_later later others some = λ k d below.
      subst IsSome (sym (left_elsewhere (get_or later k d) (others k d below))) (some k d below)

-- ---- the first of the places that are left
module _ {X : Type 0} (left : List (Option X)) (place : ℕ) {places others : List ℤ} (first : places ≡ pos place ∷ others)
    (distinct : AllPairs (λ one other. one ≢ other) places) where
  abbrev unlike_first : All (λ z. pos place ≢ z) others
  unlike_first =
      pairs_head (λ one other. one ≢ other) (pos place) others (subst (AllPairs (λ one other. one ≢ other)) first distinct)

  -- its item is taken, and those at the others are left
  pub first_taken : (old new : List X) {after : List (Option X)} {all : List (Option X)} → after ≡ set left place None
      → map Some new ≡ map Some old ++ left_at left (pos place) ∷ [] → map Some old ++ map (left_at left) places ≡ all
      → map Some new ++ map (left_at after) others ≡ all
  first_taken old new {after} taken added so_far =
      ap (λ now. map Some new ++ map (left_at now) others) taken
      ∙ ap (λ items. map Some new ++ items) (left_later left place others unlike_first)
      ∙ ap (λ items. items ++ map (left_at left) others) added
      ∙ append_assoc (map Some old) (left_at left (pos place) ∷ []) (map (left_at left) others)
      ∙ ap (λ zs. map Some old ++ map (left_at left) zs) (sym first)
      ∙ so_far

  pub some_of_others : {after : List (Option X)} → after ≡ set left place None → All (λ z. IsSome (left_at left z)) places
      → All (λ z. IsSome (left_at after z)) others
  some_of_others taken some =
      subst (λ now. All (λ z. IsSome (left_at now z)) others) (sym taken)
      (some_later left place others unlike_first
      (All-tail (λ z. IsSome (left_at left z)) (pos place) others (subst (All (λ z. IsSome (left_at left z))) first some)))

  pub some_of_first : All (λ z. IsSome (left_at left z)) places → IsSome (left_at left (pos place))
  some_of_first some =
      All-head (λ z. IsSome (left_at left z)) (pos place) others (subst (All (λ z. IsSome (left_at left z))) first some)

  pub others_distinct : AllPairs (λ one other. one ≢ other) others
  others_distinct =
      pairs_tail (λ one other. one ≢ other) (pos place) others (subst (AllPairs (λ one other. one ≢ other)) first distinct)
