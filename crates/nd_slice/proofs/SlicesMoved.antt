-- Slices that stand in another order with their positions: what two of them share, those of the list do at these positions.
use Rattle.std.proofs.Common.{◌≡◌, ◌≢◌, ℕ, ◌+◌, ◌<◌, inl, inr, None, List, [], length, get_or, map, max, min, sym, ap, subst, ◌∙◌, arith}
use Rattle.std.specs.List.{All, AllPairs, enumerate_from}
use Rattle.std.specs.List.Sorted.{IsPermutation}
use Rattle.std.proofs.lemmas.Bool.{cases_lt}
use Rattle.std.proofs.lemmas.List.{get_or_default}
use Rattle.std.proofs.lemmas.List.FromFn.{get_or-enumerate_from, length-enumerate_from}
use Rattle.std.proofs.lemmas.List.Sorted.{All-permutation, IsPermutation-sym}
use Rattle.nd_slice.proofs.Definitions.{AreApart, Fit, Intersect, IntersectAt, SliceInfoElem, argument_fault, slices_fault}
use Rattle.nd_slice.proofs.FirstInGroups.{elems_at_is}
use Rattle.nd_slice.proofs.Laws.Intersect.{intersect_symmetric}
use Rattle.nd_slice.proofs.Permuted.{all_pairs_permuted}
use Rattle.nd_slice.proofs.Slices.{shared_at}
use Rattle.nd_slice.proofs.SlicesInGroups.{all_of_map, all_pairs_of_map, map_all_pairs, nothing}
use Rattle.nd_slice.proofs.Laws.SliceFault.{each_fits}
use Rattle.nd_slice.specs.SlicesInGroups.{HasNoFault, elems_at, named}
use Rattle.nd_slice.specs.declared.slices_in_groups.Grouped.{Grouped}

module _ (fit : Fit) (shape : List ℕ) (slices : List (List SliceInfoElem)) where
  -- the slices with their positions
  abbrev pub all : List (ℕ × List SliceInfoElem)
  all = enumerate_from 0 slices

  at : (i : ℕ) (d : ℕ × List SliceInfoElem) → i < length slices → get_or all i d ≡ (0 + i, get_or slices i d.1)
  at i d below = get_or-enumerate_from 0 slices i d below

  abbrev AreApartHere : ℕ × List SliceInfoElem → ℕ × List SliceInfoElem → Type 0
  AreApartHere one other = AreApart fit shape one.1 other.1

  abbrev Fits : ℕ × List SliceInfoElem → Type 0
  Fits one = argument_fault fit shape one.1 ≡ None

  abbrev IsInList : ℕ × List SliceInfoElem → Type 0
  IsInList one = (one.0 < length slices) × (one.1 ≡ get_or slices one.0 [])

  are_in_list : All IsInList all
  are_in_list k d below =
      let under : k < length slices = omega (arith, below, length-enumerate_from 0 slices) in
      subst IsInList (sym (at k d under))
      (omega (arith, under), get_or_default slices k d.1 [] under ∙ ap (λ n. get_or slices n []) (omega arith))

  positions_of_list : AllPairs (λ one other. one.0 ≢ other.0) all
  positions_of_list i j d before below e =
      let over : j < length slices = omega (arith, below, length-enumerate_from 0 slices) in
      let one = ap (λ (x : ℕ × List SliceInfoElem). x.0) (at i d (omega (arith, before, over))) in
      let other = ap (λ (x : ℕ × List SliceInfoElem). x.0) (at j d over) in
      omega (arith, before, one, other, e)

  module _ (items : List Grouped) (moved : IsPermutation all (map named items)) where
    abbrev pub position : ℕ → ℕ
    position k = (get_or items k nothing).position

    pub apart_in_list : ((i j : ℕ) → i < j → j < length items → AreApart fit shape (elems_at items i) (elems_at items j))
        → AllPairs (AreApart fit shape) slices
    apart_in_list apart = λ i j d before below.
        let of_items : AllPairs (λ (x y : Grouped). AreApart fit shape x.elems.now y.elems.now) items = λ i j d before below.
        let under : i < length items = omega (arith, before, below) in
        subst (λ slice. AreApart fit shape slice (get_or items j d).elems.now)
        (elems_at_is items i under ∙ ap (λ (x : Grouped). x.elems.now) (get_or_default items i nothing d under))
        (subst (AreApart fit shape (elems_at items i))
        (elems_at_is items j below ∙ ap (λ (x : Grouped). x.elems.now) (get_or_default items j nothing d below))
        (apart i j before below)) in
        let of_all : AllPairs AreApartHere all =
        all_pairs_permuted AreApartHere (λ x y one shared. one (intersect_symmetric fit shape y.1 x.1 shared)) (map named items) all
        (IsPermutation-sym all (map named items) moved) (map_all_pairs named AreApartHere items of_items) in
        subst (λ slice. AreApart fit shape slice (get_or slices j d))
        (ap (λ (x : ℕ × List SliceInfoElem). x.1) (at i (0, d) (omega (arith, before, below))))
        (subst (AreApart fit shape (get_or all i (0, d)).1) (ap (λ (x : ℕ × List SliceInfoElem). x.1) (at j (0, d) below))
        (of_all i j (0, d) before (omega (arith, below, length-enumerate_from 0 slices))))

    pub fits_of_list : slices_fault fit shape slices ≡ None → All (HasNoFault fit shape) items
    fits_of_list none =
        all_of_map named Fits items (All-permutation Fits all (map named items) moved
        (λ k d below.
        let under : k < length slices = omega (arith, below, length-enumerate_from 0 slices) in
        subst Fits (sym (at k d under)) (each_fits fit shape slices none k d.1 under)))

    in_list : (k : ℕ) → k < length items → IsInList (named (get_or items k nothing))
    in_list k below = all_of_map named IsInList items (All-permutation IsInList all (map named items) moved are_in_list) k nothing below

    positions_differ : (i j : ℕ) → i < j → j < length items → position i ≢ position j
    positions_differ i j before below =
        all_pairs_of_map named (λ (x y : ℕ × List SliceInfoElem). x.0 ≢ y.0) items
        (all_pairs_permuted (λ (x y : ℕ × List SliceInfoElem). x.0 ≢ y.0) (λ x y ne e. ne (sym e)) all (map named items) moved
        positions_of_list) i j nothing before below

    pub shared_in_list : (i j : ℕ) → i < j → j < length items → Intersect fit shape (elems_at items i) (elems_at items j)
        → IntersectAt fit shape slices (min (position i) (position j)) (max (position i) (position j))
    shared_in_list i j before below shared =
        let under : i < length items = omega (arith, before, below) in
        let one = in_list i under in
        let other = in_list j below in
        let differ = positions_differ i j before below in
        let there : Intersect fit shape (get_or slices (position i) []) (get_or slices (position j) []) =
        subst (λ slice. Intersect fit shape slice (get_or slices (position j) [])) (elems_at_is items i under ∙ one.1)
        (subst (Intersect fit shape (elems_at items i)) (elems_at_is items j below ∙ other.1) shared) in
        elim (cases_lt (position i) (position j)) [
          | inl less ↦
              let low : min (position i) (position j) ≡ position i = omega (arith, less) in
              let high : max (position i) (position j) ≡ position j = omega (arith, less) in
              rw (low, high) (shared_at fit shape slices (position i) (position j) less other.0 there)
          | inr more ↦
              let low : min (position i) (position j) ≡ position j = omega (arith, more) in
              let high : max (position i) (position j) ≡ position i = omega (arith, more) in
              rw (low, high) (shared_at fit shape slices (position j) (position i) (omega (arith, more, differ)) one.0
              (intersect_symmetric fit shape (get_or slices (position i) []) (get_or slices (position j) []) there))
        ]
