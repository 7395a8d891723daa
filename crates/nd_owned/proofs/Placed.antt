-- Items that are written at one list of places after another, where no place is in two of them.
use Rattle.std.proofs.Common.{◌≡◌, ◌≢◌, ℕ, ◌<◌, ℤ, pos, negsuc, Option, Some, List, [], ◌∷◌, ◌++◌, length, get_or, set, map}
use Rattle.std.proofs.Common.{append_assoc, refl, sym, ap, subst, ◌∙◌, arith}
use Rattle.std.specs.List.{All, AllPairs, Contains, flat_map}
use Rattle.std.proofs.lemmas.Grind.{flat_map-append}
use Rattle.std.proofs.lemmas.List.{append-nil, map-append, nil_from_length}
use Rattle.std.proofs.lemmas.List.Elements.{Contains-append_left, Contains-append_right}
use Rattle.ndarray_layout.specs.Bounds.{IsInBounds}
use Rattle.ndarray_layout.proofs.Laws.Lists.{map_same}
use Rattle.nd_lent.specs.Items.{item_at_place}
use Rattle.nd_lent.specs.Written.{HasSet}
use Rattle.nd_owned.specs.private.Written.{HasWritten}
use Rattle.nd_lent.proofs.Laws.Lists.{parts_apart, set_other, set_same}
use Rattle.nd_lent.proofs.Laws.Lists.{pairs_first, pairs_second}

-- ---- a list of lists, as a loop goes over it
-- one more that is kept of a list, before those that are left
pub parts_pushed : {A B X : Type 0} (f : A → List X) (g : B → List X) (old : List A) {new : List A} {x : A} {y : B} {left others : List B}
    {all : List X} → new ≡ old ++ x ∷ [] → left ≡ y ∷ others → f x ≡ g y → flat_map f old ++ flat_map g left ≡ all
    → flat_map f new ++ flat_map g others ≡ all
parts_pushed f g old {x = x} {y} {others = others} pushed first same so_far =
    ap (λ xs. flat_map f xs ++ flat_map g others) pushed
    ∙ ap (λ xs. xs ++ flat_map g others) (flat_map-append f old (x ∷ []) ∙ ap (λ ys. flat_map f old ++ ys) (append-nil (f x) ∙ same))
    ∙ append_assoc (flat_map f old) (g y) (flat_map g others)
    ∙ ap (λ ys. flat_map f old ++ flat_map g ys) (sym first)
    ∙ so_far

-- one that has nothing is left out
pub parts_skipped : {B X : Type 0} (g : B → List X) (kept : List X) {y : B} {left others : List B} {all : List X} → left ≡ y ∷ others
    → length (g y) ≡ 0 → kept ++ flat_map g left ≡ all → kept ++ flat_map g others ≡ all
parts_skipped g kept {y} {others = others} first none so_far =
    ap (λ ys. kept ++ (ys ++ flat_map g others)) (sym (nil_from_length (g y) none))
    ∙ ap (λ ys. kept ++ flat_map g ys) (sym first)
    ∙ so_far

-- in the end none is left
pub parts_ended : {B X : Type 0} (g : B → List X) (kept : List X) {left : List B} {all : List X} → left ≡ [] → kept ++ flat_map g left ≡ all
    → kept ≡ all
parts_ended g kept ended so_far = sym (append-nil kept) ∙ ap (λ ys. kept ++ flat_map g ys) (sym ended) ∙ so_far

-- one item at one place
pub one_written : {X : Type 0} {stored : List X} {place : ℕ} {x : X} → place < length stored
    → HasWritten (pos place ∷ []) (x ∷ []) stored (set stored place x)
one_written {stored} {place} {x} below = record {
  written = ap (λ item. item ∷ []) (set_same stored place below);
  others = λ other spared. set_other stored place x other (λ same. spared (0, omega arith, ap pos (sym same)));
}

-- no item at no place
pub none_written : {X : Type 0} {stored : List X} → HasWritten [] [] stored stored
none_written = record { written = refl; others = λ place spared. refl }

-- what is at a place that a write spares stays
pub stays : {X : Type 0} (count : ℕ) {places : List ℤ} {given : List (Option X)} {old new : List X} (z : ℤ) → HasSet places given old new
    → IsInBounds count z → (Contains places z → ⊥) → item_at_place new z ≡ item_at_place old z
stays count (pos place) write in_bounds spared = write.others place spared
stays count (negsuc n) write in_bounds spared = absurd in_bounds

-- one write after another, at places of their own
pub both_written : {X : Type 0} (count : ℕ) {first second : List ℤ} {given more : List (Option X)} {old mid new : List X}
    → All (IsInBounds count) first
    → AllPairs (λ one other. one ≢ other) (first ++ second) → HasSet first given old mid → HasSet second more mid new
    → HasSet (first ++ second) (given ++ more) old new
both_written count {first} {second} {given} {mid = mid} {new} in_bounds distinct one other =
    let apart = parts_apart first second distinct in
    let earlier : map (item_at_place new) first ≡ map (item_at_place mid) first =
    map_same (item_at_place new) (item_at_place mid) first (λ k d below.
    stays count (get_or first k d) other (in_bounds k d below) (apart k d below)) in
    record {
      written =
          map-append (item_at_place new) first second
          ∙ ap (λ got. got ++ map (item_at_place new) second) (earlier ∙ one.written)
          ∙ ap (λ got. given ++ got) other.written;
      others = λ place spared. other.others place (λ here. spared (Contains-append_right first second (pos place) here))
          ∙ one.others place (λ here. spared (Contains-append_left first second (pos place) here));
    }

-- the items of a list are these, and then those
pub record AreBoth {X : Type 0} (all these those : List X) : Type 0 where
  pub are : all ≡ these ++ those

-- the places of two parts, of which the first is written first
module _ {all first second : List ℤ} (cut : AreBoth all first second) where
  pub first_distinct : AllPairs (λ one other. one ≢ other) all → AllPairs (λ one other. one ≢ other) first
  first_distinct distinct =
      pairs_first (λ one other. one ≢ other) first second (subst (AllPairs (λ one other. one ≢ other)) cut.are distinct)

  pub second_distinct : AllPairs (λ one other. one ≢ other) all → AllPairs (λ one other. one ≢ other) second
  second_distinct distinct =
      pairs_second (λ one other. one ≢ other) first second (subst (AllPairs (λ one other. one ≢ other)) cut.are distinct)

  pub parts_written : {X : Type 0} (count : ℕ) {items these those old mid new : List X} → All (IsInBounds count) first
      → AllPairs (λ one other. one ≢ other) all → AreBoth items these those → HasWritten first these old mid
      → HasWritten second those mid new → HasWritten all items old new
  parts_written count {items} {these} {those} {old} {new = new} in_bounds distinct given one other =
      subst (λ places. HasWritten places items old new) (sym cut.are)
      (subst (λ xs. HasSet (first ++ second) xs old new) (sym (ap (map Some) given.are ∙ map-append Some these those))
      (both_written count in_bounds (subst (AllPairs (λ one other. one ≢ other)) cut.are distinct) one other))
