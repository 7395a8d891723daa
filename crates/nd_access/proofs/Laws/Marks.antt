-- Laws of marks at the places of a view: where they stand, which a part leaves, and of which views that makes parts.
use Rattle.std.proofs.Common.{◌≡◌, ℕ, zero, suc, ◌<◌, ℤ, pos, negsuc, Bool, true, false, List, [], ◌∷◌, length, get_or}
use Rattle.std.proofs.Common.{refl, sym, ap, subst, ◌∙◌, arith}
use Rattle.std.proofs.Common.{Result, Ok, Err}
use Rattle.std.specs.Prelude.{OnErr, OnOk, replicate}
use Rattle.std.specs.List.{Contains, list_any}
use Rattle.std.specs.Ordering.{int_eq}
use Rattle.std.proofs.lemmas.Bool.{false_from_ne_true}
use Rattle.std.proofs.lemmas.Bool.Decides.{Decides-int_eq}
use Rattle.std.proofs.lemmas.Cmp.{int_eq_equiv}
use Rattle.std.proofs.lemmas.List.FromFn.{get_or-map-range_with_len, length-map-range_with_len}
use Rattle.std.proofs.lemmas.Map.Views.{list_any-from_Contains, Contains-from_any}
use Rattle.std.proofs.lemmas.Bool.{false≢true}
use Rattle.std.proofs.lemmas.List.{get_or-map, get_or-replicate, length-map, length-replicate}
use Rattle.ndarray_layout.proofs.Laws.Indices.{Contains-indices_in, All-indices_in}
use Rattle.ndarray_layout.proofs.Laws.Lists.{Contains-map}
use Rattle.ndarray_layout.specs.declared.Order.TheVariants.{RowMajor}
use Rattle.ndarray_layout.specs.Indices.{is_index, indices_in}
use Rattle.ndarray_layout.specs.Descends.{Descends}
use Rattle.ndarray_layout.specs.SharePlace.{SharePlace}
use Rattle.ndarray_layout.specs.View.{View, place_at, view_places}
use Rattle.nd_access.specs.Cells.{are_within, without}
use Rattle.ndarray_layout.specs.Bounds.{IsInBounds}
use Rattle.nd_access.specs.Items.{IsOwned}
use Rattle.nd_access.specs.Part.{has_mark, AreMarked, IsPart, marks_of}

module _ (view : View) where
  -- the place of an index has one of the marks
  pub marked : (len k : ℕ) (index : List ℕ) → is_index view.shape index ≡ true → place_at view index ≡ pos k → k < len
      → get_or (marks_of len view) k false ≡ true
  marked len k index here at below =
      get_or-map-range_with_len (λ place. list_any (int_eq (pos place)) (view_places RowMajor view)) 0 len k k false below (omega arith)
      ∙ list_any-from_Contains int_eq_equiv (pos k) (view_places RowMajor view)
      (subst (Contains (view_places RowMajor view)) at
      (Contains-map (place_at view) (indices_in RowMajor view.shape) (Contains-indices_in RowMajor view.shape index here)))

  -- and where a mark is, there is the place of an index
  pub marked_at : (len k : ℕ) → get_or (marks_of len view) k false ≡ true → k < len
      → (index : List ℕ) × (is_index view.shape index ≡ true) × (place_at view index ≡ pos k)
  marked_at len k h below =
      let here = sym (get_or-map-range_with_len (λ place. list_any (int_eq (pos place)) (view_places RowMajor view)) 0 len k k false below
      (omega arith)) ∙ h in
      let found = Contains-from_any (λ x y e. (Decides-int_eq x y).0 e) (pos k) (view_places RowMajor view) here in
      let indices = indices_in RowMajor view.shape in
      let listed : found.0 < length indices = omega (arith, found.1, length-map indices (place_at view)) in (
        get_or indices found.0 [],
        All-indices_in RowMajor view.shape found.0 [] listed,
        sym (get_or-map (place_at view) indices found.0 [] (pos k) listed) ∙ found.2,
      )

-- marks stand only where others stand too, place by place
within_by_place : (chosen marks : List Bool) → length chosen ≡ length marks
    → ((k : ℕ) → k < length marks → get_or chosen k false ≡ true → get_or marks k false ≡ true) → are_within chosen marks ≡ true
within_by_place [] [] e each = refl
within_by_place [] (m ∷ marks) e each = absurd (let no : ⊥ = omega arith in no)
within_by_place (true ∷ chosen) [] e each = absurd (let no : ⊥ = omega arith in no)
within_by_place (false ∷ chosen) [] e each = absurd (let no : ⊥ = omega arith in no)
within_by_place (true ∷ chosen) (m ∷ marks) e each =
    rw (each 0 (omega arith) refl) (within_by_place chosen marks (omega arith) (λ k below h. each (suc k) (omega arith) h))
within_by_place (false ∷ chosen) (m ∷ marks) e each =
    within_by_place chosen marks (omega arith) (λ k below h. each (suc k) (omega arith) h)

left_by_place : (chosen marks : List Bool) (k : ℕ) → length chosen ≡ length marks → get_or marks k false ≡ true
    → get_or chosen k false ≡ false
    → get_or (without chosen marks) k false ≡ true
left_by_place [] [] k e mine other = mine
left_by_place [] (m ∷ marks) k e mine other = absurd (let no : ⊥ = omega arith in no)
left_by_place (c ∷ chosen) [] k e mine other = absurd (let no : ⊥ = omega arith in no)
left_by_place (c ∷ chosen) (m ∷ marks) zero e mine other = rw mine (rw other refl)
left_by_place (c ∷ chosen) (m ∷ marks) (suc k) e mine other = left_by_place chosen marks k (omega arith) mine other

-- there are as many as were asked for
pub marks-length : (len : ℕ) (view : View) → length (marks_of len view) ≡ len
marks-length len view = length-map-range_with_len (λ place. list_any (int_eq (pos place)) (view_places RowMajor view)) 0 len

below_marks : (marks : List Bool) (k : ℕ) → get_or marks k false ≡ true → k < length marks
below_marks [] k h = absurd (false≢true h)
below_marks (m ∷ marks) zero h = omega arith
below_marks (m ∷ marks) (suc k) h = let below = below_marks marks k h in omega arith

-- where an index has a mark, its place is one of them
record HasPlace (marks : List Bool) (view : View) (index : List ℕ) : Type 0 where
  place : ℕ
  at : place_at view index ≡ pos place
  mine : get_or marks place false ≡ true
  below : place < length marks

place_of : (marks : List Bool) (view : View) (index : List ℕ) (at : ℤ) → place_at view index ≡ at → has_mark marks at ≡ true
    → HasPlace marks view index
place_of marks view index (pos place) at mine = record { place = place; at = at; mine = mine; below = below_marks marks place mine }
place_of marks view index (negsuc below) at mine = absurd (false≢true mine)

module _ (marks : List Bool) (view : View) (part : AreMarked marks view) where
  here_at : (index : List ℕ) → is_index view.shape index ≡ true → HasPlace marks view index
  here_at index here = place_of marks view index (place_at view index) refl (part index here)

  -- the marks of a part stand within those of the whole
  pub part_is_within : are_within (marks_of (length marks) view) marks ≡ true
  part_is_within = within_by_place (marks_of (length marks) view) marks (marks-length (length marks) view) (λ k below h.
      let one = marked_at view (length marks) k h below in
      let p = here_at one.0 one.1 in
      ap (has_mark marks) (sym one.2) ∙ part one.0 one.1)

  -- each of its places has one of its own marks
  pub part_of_own : AreMarked (marks_of (length marks) view) view
  part_of_own index here =
      let p = here_at index here in
      ap (has_mark (marks_of (length marks) view)) p.at ∙ marked view (length marks) p.place index here p.at p.below

  -- a mark at a place of none of its indices is left
  pub mark_left : (at : ℤ) → has_mark marks at ≡ true → ((index : List ℕ) → is_index view.shape index ≡ true → place_at view index ≡ at → ⊥)
      → has_mark (without (marks_of (length marks) view) marks) at ≡ true
  mark_left (pos place) mine apart =
      let free : get_or (marks_of (length marks) view) place false ≡ false = false_from_ne_true _ (λ h.
      let one = marked_at view (length marks) place h (below_marks marks place mine) in
      apart one.0 one.1 one.2) in
      left_by_place (marks_of (length marks) view) marks place (marks-length (length marks) view) mine free
  mark_left (negsuc below) mine apart = absurd (false≢true mine)

  -- and a part that shares no place with it has those that are left
  pub part_of_others : (other : View) → AreMarked marks other → (SharePlace view other → ⊥)
      → AreMarked (without (marks_of (length marks) view) marks) other
  part_of_others other also apart index here =
      mark_left (place_at other index) (also index here) (λ one is same. apart (one, is, (index, here, same)))

-- a part is one by the marks of its own places
pub own_part : (marks : List Bool) {view : View} → IsPart marks view → IsPart (marks_of (length marks) view) view
own_part marks {view} part =
    record { is_view = part.is_view; marked = part_of_own marks view part.marked; distinct = part.distinct }

-- a view of a part's items is a part where it was made of the part's view
pub marked_step : {source : List ℕ → List ℕ} {old new : View} (marks : List Bool) → Descends source old new → AreMarked marks old
    → AreMarked marks new
marked_step marks kept part index here =
    let from = kept.places index here in
    ap (has_mark marks) from.1 ∙ part _ from.0

pub part_descendant : {source : List ℕ → List ℕ} {old new : View} (marks : List Bool) → Descends source old new → IsPart marks old
    → IsPart marks new
part_descendant marks kept part =
    record { is_view = kept.is_view; marked = marked_step marks kept part.marked; distinct = kept.distinct part.distinct }

-- the same of a view that is changed in place, or unchanged after an error
pub part_after : {X E : Type 0} (result : Result X E) (source : List ℕ → List ℕ) {old new : View} (marks : List Bool)
    → OnErr result (new ≡ old) → OnOk result (Descends source old new) → IsPart marks old → IsPart marks new
part_after (Ok x) source marks same kept part = part_descendant marks kept part
part_after (Err e) source marks same kept part = subst (IsPart marks) (sym same) part

-- where all places have a mark, those that have an item do
pub in_bounds_marked : (count : ℕ) (place : ℤ) → IsInBounds count place → has_mark (replicate count true) place ≡ true
in_bounds_marked count (pos place) below = get_or-replicate count place true false below
in_bounds_marked count (negsuc below) none = absurd none

-- so an owned view is a part of all items
pub owned_is_part : (count : ℕ) (view : View) → IsOwned count view → IsPart (replicate count true) view
owned_is_part count view owned = record {
  is_view = owned.is_view;
  marked = λ index is. in_bounds_marked count (place_at view index) (owned.within index is);
  distinct = owned.distinct;
}

-- a part that shares no place with one that was taken is a part of those that are left
pub part_beside : (marks : List Bool) (first second : View) → IsPart marks first → IsPart marks second → (SharePlace first second → ⊥)
    → IsPart (without (marks_of (length marks) first) marks) second
part_beside marks first second one other apart = record {
  is_view = other.is_view;
  marked = part_of_others marks first one.marked second other.marked apart;
  distinct = other.distinct;
}

-- so are two owned views that share no place
pub owned_beside : (count : ℕ) (first second : View) → IsOwned count first → IsOwned count second → (SharePlace first second → ⊥)
    → IsPart (without (marks_of count first) (replicate count true)) second
owned_beside count first second one other apart =
    subst (λ (n : ℕ). IsPart (without (marks_of n first) (replicate count true)) second) (length-replicate {A = Bool} count true)
    (part_beside (replicate count true) first second (owned_is_part count first one) (owned_is_part count second other) apart)
