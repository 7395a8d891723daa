-- Places that a right has to itself: the first may be lent, and then the right has the others.
use Rattle.std.proofs.Common.{◌≡◌, ◌≢◌, ℕ, zero, suc, ◌+◌, ◌≤◌, ℤ, pos, negsuc, Bool, true, false, List, [], ◌∷◌, ◌++◌, Option, Some, None}
use Rattle.std.proofs.Common.{◌&&◌, not, length, get_or, take, drop, map, refl, sym, ap, subst, ◌∙◌, arith}
use Rattle.std.specs.Borrow.{MutBor}
use Rattle.std.specs.List.{All, Contains, IsItemAtMut}
use Rattle.std.specs.List.Sorted.{IsPermutation}
use Rattle.std.specs.Prelude.{IsTrue, MatchOption}
use Rattle.std.proofs.lemmas.Bool.{false≢true}
use Rattle.std.proofs.lemmas.List.Elements.{All-append, All-head, All-map, All-tail, All-weaker}
use Rattle.std.proofs.lemmas.List.{get_or-append-add, get_or-drop, get_or-take, length-append, length-drop, length-take}
use Rattle.std.proofs.lemmas.List.{map-append, take-append-drop}
use Rattle.std.proofs.lemmas.List.Sorted.{All-permutation, IsPermutation-sym}
use Rattle.std.proofs.lemmas.Option.{slice_get_read}
use Rattle.ndarray_layout.specs.declared.Order.TheVariants.{RowMajor}
use Rattle.ndarray_layout.specs.Indices.{is_index, indices_in}
use Rattle.ndarray_layout.specs.View.{View, place_at, view_places}
use Rattle.ndarray_layout.proofs.Laws.DistinctPlaces.{AllPairs-view_places}
use Rattle.ndarray_layout.proofs.Laws.Indices.{All-indices_in}
use Rattle.nd_access.specs.Cells.{are_within, span_of, without}
use Rattle.nd_access.specs.Items.{item_at_place}
use Rattle.nd_access.specs.Own.{AreOwn}
use Rattle.nd_access.specs.Part.{has_mark, IsPart}
use Rattle.nd_access.proofs.Laws.Lists.{all_first, other_default, pairs_append, pairs_first, pairs_head, pairs_second, pairs_tail}
use Rattle.nd_access.proofs.Laws.Lists.{parts_apart}
use Rattle.nd_access.proofs.Laws.Permuted.{distinct_permuted}
use Rattle.nd_access.proofs.Laws.SliceOfPart.{mark_in_bounds, span_within}

-- ---- marks without that of one place
-- without none of them they are as they were
as_it_was : (mine : Bool) → (mine && not false) ≡ mine
as_it_was true = refl
as_it_was false = refl

without_none : (marks : List Bool) → without (span_of 0 0 marks) marks ≡ marks
without_none [] = refl
without_none (m ∷ marks) = ap (λ mine. mine ∷ without (span_of 0 0 marks) marks) (as_it_was m) ∙ ap (λ ms. m ∷ ms) (without_none marks)

-- another place keeps its mark
pub left_elsewhere : (place : ℕ) (marks : List Bool) (k : ℕ) → k ≢ place
    → get_or (without (span_of place 1 marks) marks) k false ≡ get_or marks k false
left_elsewhere place [] k other = ap (λ ms. get_or ms k false) (nothing place)
  where
    nothing : (place : ℕ) → without (span_of place 1 []) [] ≡ []
    nothing zero = refl
    nothing (suc place) = refl
left_elsewhere zero (m ∷ marks) zero other = absurd (other refl)
left_elsewhere zero (m ∷ marks) (suc k) other = ap (λ ms. get_or ms k false) (without_none marks)
left_elsewhere (suc place) (m ∷ marks) zero other = as_it_was m
left_elsewhere (suc place) (m ∷ marks) (suc k) other = left_elsewhere place marks k (λ same. other (ap suc same))

mark_kept : (place : ℕ) (marks : List Bool) (other : ℤ) → pos place ≢ other → has_mark marks other ≡ true
    → has_mark (without (span_of place 1 marks) marks) other ≡ true
mark_kept place marks (pos k) apart h = left_elsewhere place marks k (λ same. apart (ap pos (sym same))) ∙ h
mark_kept place marks (negsuc below) apart h = absurd (false≢true h)

-- ---- the places of a part are its own
pub own_of_part : (marks : List Bool) (view : View) → IsPart marks view → AreOwn marks (view_places RowMajor view)
own_of_part marks view part =
    let indices = indices_in RowMajor view.shape in
    record {
      marked = All-map (λ place. has_mark marks place ≡ true) (place_at view) indices
          (All-weaker (λ index. is_index view.shape index ≡ true) (λ index. has_mark marks (place_at view index) ≡ true) part.marked
          indices (All-indices_in RowMajor view.shape));
      apart = AllPairs-view_places RowMajor view part.distinct;
    }

-- they are in any order
pub own_moved : {marks : List Bool} (all places : List ℤ) → IsPermutation places all → AreOwn marks all → AreOwn marks places
own_moved {marks} all places moved own =
    let back = IsPermutation-sym places all moved in
    record {
      marked = All-permutation (λ place. has_mark marks place ≡ true) all places back own.marked;
      apart = distinct_permuted all places back own.apart;
    }

-- ---- of some of them
-- where the places of two lists are own, those of each are, and those of both in the other order
module _ {marks : List Bool} (xs ys : List ℤ) (own : AreOwn marks (xs ++ ys)) where
  second_marked : All (λ place. has_mark marks place ≡ true) ys
  second_marked = λ k d below. subst (λ place. has_mark marks place ≡ true) (get_or-append-add xs ys k d)
      (own.marked (length xs + k) d (omega (arith, length-append xs ys)))

  pub own_first : AreOwn marks xs
  own_first = record {
    marked = all_first (λ place. has_mark marks place ≡ true) xs ys own.marked;
    apart = pairs_first (λ one other. one ≢ other) xs ys own.apart;
  }

  pub own_second : AreOwn marks ys
  own_second = record { marked = second_marked; apart = pairs_second (λ one other. one ≢ other) xs ys own.apart }

  none_of_both : All (λ place. Contains xs place → ⊥) ys
  none_of_both k d below here =
      let place = get_or ys k d in
      parts_apart xs ys own.apart here.0 place here.1
      (subst (Contains ys) (sym here.2) (k, below, other_default ys k place d below))

  pub own_swapped : AreOwn marks (ys ++ xs)
  own_swapped = record {
    marked = All-append (λ place. has_mark marks place ≡ true) ys xs second_marked own_first.marked;
    apart = pairs_append ys xs own_second.apart own_first.apart none_of_both;
  }

-- those after so many, and as many of the first
pub own_dropped : {marks : List Bool} (count : ℕ) (xs : List ℤ) → AreOwn marks xs → AreOwn marks (drop count xs)
own_dropped {marks} count xs own = own_second (take count xs) (drop count xs) (subst (AreOwn marks) (sym (take-append-drop count xs)) own)

pub own_taken : {marks : List Bool} (count : ℕ) (xs : List ℤ) → AreOwn marks xs → AreOwn marks (take count xs)
own_taken {marks} count xs own = own_first (take count xs) (drop count xs) (subst (AreOwn marks) (sym (take-append-drop count xs)) own)

-- where one is left
module _ {marks : List Bool} {place : ℕ} {rest : List ℤ} (own : AreOwn marks (pos place ∷ rest)) where
  here : get_or marks place false ≡ true
  here = All-head (λ place. has_mark marks place ≡ true) (pos place) rest own.marked

  -- the first is a slice of one
  pub first_is_own : IsTrue (are_within (span_of place 1 marks) marks) × (place + 1 ≤ length marks)
  first_is_own = (
    span_within place 1 marks (λ k at below is. let same : at ≡ place = omega arith in
        subst (λ (n : ℕ). get_or marks n false ≡ true) (sym same) here),
    (let below = mark_in_bounds marks place here in omega arith),
  )

  -- and the others are left
  pub others_are_own : AreOwn (without (span_of place 1 marks) marks) rest
  others_are_own = record {
    marked = λ i d below. mark_kept place marks (get_or rest i d)
        (pairs_head (λ one other. one ≢ other) (pos place) rest own.apart i d below)
        (All-tail (λ place. has_mark marks place ≡ true) (pos place) rest own.marked i d below);
    apart = pairs_tail (λ one other. one ≢ other) (pos place) rest own.apart;
  }

-- the first of a slice of one is the item at its place, and those at the others are left
pub first_comes : {T : Type 0} (items now : List T) (place : ℕ) (rest : List ℤ) (before after : List (Option T)) (r : Option (MutBor T))
    → before ≡ map (item_at_place items) (pos place ∷ rest) → after ≡ map (item_at_place items) rest
    → now ≡ take 1 (drop place items) → place + 1 ≤ length items → IsItemAtMut now 0 r
    → MatchOption r ((before ≡ []) × (after ≡ [])) (λ item. before ≡ Some item.now ∷ after)
first_comes items now place rest before after None was left is below item =
    absurd (let no : ⊥ = omega (arith, item.3, ap length is, length-take 1 (drop place items), length-drop place items) in no)
first_comes items now place rest before after (Some x) was left is below item =
    let first : get_or now 0 x.now ≡ get_or items place x.now = ap (λ xs. get_or xs 0 x.now) is
    ∙ get_or-take 1 (drop place items) 0 x.now (omega arith) ∙ get_or-drop place items 0 x.now
    ∙ ap (λ n. get_or items n x.now) (let same : place + 0 ≡ place = omega arith in same) in
    was
    ∙ ap (λ one. one ∷ map (item_at_place items) rest)
    (slice_get_read items (length items) place x.now refl (omega (arith, below)) (item.1 ∙ first))
    ∙ ap (λ others. Some x.now ∷ others) (sym left)

-- so is the last one, and those before it are left
pub last_comes : {T : Type 0} (items now : List T) (place : ℕ) (rest : List ℤ) (before after : List (Option T)) (r : Option (MutBor T))
    → before ≡ map (item_at_place items) (rest ++ pos place ∷ []) → after ≡ map (item_at_place items) rest
    → now ≡ take 1 (drop place items) → place + 1 ≤ length items → IsItemAtMut now 0 r
    → MatchOption r ((before ≡ []) × (after ≡ [])) (λ item. before ≡ after ++ Some item.now ∷ [])
last_comes items now place rest before after None was left is below item =
    let none = first_comes items now place rest (map (item_at_place items) (pos place ∷ rest)) after None refl left is below item in
    absurd (let no : ⊥ = omega (arith, ap length none.0) in no)
last_comes items now place rest before after (Some x) was left is below item =
    let same = first_comes items now place rest (map (item_at_place items) (pos place ∷ rest)) after (Some x) refl left is below item in
    let lent : item_at_place items (pos place) ≡ Some x.now = ap (λ xs. get_or xs 0 None) same in
    was
    ∙ map-append (item_at_place items) rest (pos place ∷ [])
    ∙ ap (λ others. others ++ item_at_place items (pos place) ∷ []) (sym left)
    ∙ ap (λ last. after ++ last ∷ []) lent
