-- Items and what stands beside them: of one row and then of others, and at one place after another.
use Rattle.std.proofs.Common.{◌≡◌, ℕ, zero, suc, ◌<◌, ℤ, pos, Option, Some, None, List, [], ◌∷◌, ◌++◌, length, get_or, map}
use Rattle.std.proofs.Common.{sym, ap, ◌∙◌, arith}
use Rattle.std.specs.Option.{option_zip}
use Rattle.std.specs.Prelude.{slice_get}
use Rattle.std.proofs.lemmas.List.{get_or-map, length-map, map-append}
use Rattle.std.proofs.lemmas.Simd.{get_or-zip2, length-zip2}
use Rattle.nd_access.specs.Items.{item_at_place}
use Rattle.nd_access.specs.Zipped.{pairs_of}
use Rattle.nd_access.proofs.Laws.MapsTo.{Distinct, HasMadeSoFar, IsNext, place_apart}
use Rattle.nd_access.proofs.Laws.PairRows.{pairs_append}
use Rattle.nd_loops.specs.Beside.{items_beside}

module _ {T V : Type 0} (items : List T) (places : List ℤ) (values : List (Option V)) (count : length values ≡ length places) where
  as_many : length (map (item_at_place items) places) ≡ length values
  as_many = length-map places (item_at_place items) ∙ sym count

  -- as many as places
  pub given_count : length (items_beside items places values) ≡ length places
  given_count = length-zip2 option_zip (map (item_at_place items) places) values as_many ∙ length-map places (item_at_place items)

  -- and then those of other places
  pub given_more : (others : List ℤ) (more : List (Option V))
      → items_beside items (places ++ others) (values ++ more) ≡ items_beside items places values ++ items_beside items others more
  given_more others more =
      ap (λ xs. pairs_of xs (values ++ more)) (map-append (item_at_place items) places others)
      ∙ pairs_append (map (item_at_place items) places) (map (item_at_place items) others) values more as_many

  -- the item that is there before the next call is the one that was there at first, and what is beside it that of its coordinate
  pub next_given : {F : Type 0} (call : F → T × V → T → F → Type 0) (takes : F → T × V → Type 0) (f : F) → Distinct places
      → {coordinate : ℕ} {now : List T} {here : F} {place : ℕ} {x : T} {v : V}
      → coordinate < length places → get_or places coordinate (pos place) ≡ pos place → place < length items → slice_get now place ≡ Some x
      → get_or values coordinate None ≡ Some v
      → HasMadeSoFar call takes f places (items_beside items places values) items coordinate now here
      → IsNext call takes f places (items_beside items places values) items coordinate place (x, v)
  next_given call takes f distinct {coordinate} {now} {here} {place} {x} {v} below there within item other so_far =
      let first : get_or (map (item_at_place items) places) coordinate None ≡ Some x =
      get_or-map (item_at_place items) places coordinate (pos place) None below
      ∙ ap (item_at_place items) there
      ∙ sym (so_far.run.others place (place_apart places coordinate place distinct below there))
      ∙ item in
      record {
        below = below;
        there = there;
        within = within;
        given =
            get_or-zip2 option_zip (map (item_at_place items) places) values coordinate None None None
            (omega (arith, below, length-map places (item_at_place items))) (omega (arith, below, count))
            ∙ ap (λ one. option_zip one (get_or values coordinate None)) first
            ∙ ap (option_zip (Some x)) other;
      }

-- a coordinate of pairs is one of both lists
pub below_both : {X Y : Type 0} (xs : List (Option X)) (ys : List (Option Y)) (k : ℕ) → k < length (pairs_of xs ys)
    → (k < length xs) × (k < length ys)
below_both [] ys k below = absurd (omega (arith, below))
below_both (x ∷ xs) [] k below = absurd (omega (arith, below))
below_both (x ∷ xs) (y ∷ ys) zero below = (omega arith, omega arith)
below_both (x ∷ xs) (y ∷ ys) (suc k) below =
    let rest = below_both xs ys k (omega (arith, below)) in
    (omega (arith, rest.0), omega (arith, rest.1))
