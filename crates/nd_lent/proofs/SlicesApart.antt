-- Slices of a part that share no place: each is a part of what the ones before it leave.
use Rattle.std.proofs.Common.{◌≡◌, ℕ, Bool, Option, Some, None, List, [], ◌∷◌, ◌++◌, length, get_or, map, append_assoc}
use Rattle.std.proofs.Common.{sym, subst, ap, arith, ◌∙◌}
use Rattle.std.specs.List.{All, AllPairs}
use Rattle.std.specs.Prelude.{MatchOption}
use Rattle.std.proofs.lemmas.List.{map-append}
use Rattle.std.proofs.lemmas.List.Elements.{All-head, All-tail}
use Rattle.ndarray_layout.specs.declared.ErrorKind.{ErrorKind}
use Rattle.ndarray_layout.specs.declared.Fit.TheVariants.{Strict}
use Rattle.ndarray_layout.specs.declared.SliceInfoElem.{SliceInfoElem}
use Rattle.ndarray_layout.specs.Descends.{Descends}
use Rattle.ndarray_layout.specs.DistinctPlaces.{HasDistinctPlaces}
use Rattle.ndarray_layout.specs.IntersectingPair.{AreApart, slices_fault}
use Rattle.ndarray_layout.specs.SharePlace.{SharePlace}
use Rattle.ndarray_layout.specs.SlicedView.{slice_of}
use Rattle.ndarray_layout.specs.SlicesSharePlace.{SlicesSharePlace}
use Rattle.ndarray_layout.specs.View.{View, IsView}
use Rattle.ndarray_layout.proofs.Laws.SharePlace.{intersect_of_shared_place}
use Rattle.ndarray_layout.proofs.Laws.SlicedView.{Descends-slice_of}
use Rattle.nd_access.specs.Items.{ArrayValue}
use Rattle.nd_lent.proofs.Laws.Faults.{slices_fit}
use Rattle.nd_access.proofs.Laws.Lists.{pairs_head, pairs_tail}
use Rattle.nd_access.specs.Cells.{without}
use Rattle.nd_access.specs.Part.{AreMarked, IsPart, marks_of}
use Rattle.nd_lent.specs.Slices.{AreApartInPlace, IsFaultOfSlices, IsSharingFault, view_slices_fault}
use Rattle.nd_access.proofs.Laws.Marks.{marked_step, part_of_others}

-- the error of slices is that of the first one with an error
pub fault_of_first : (count : Option ℕ) (shape : List ℕ) (slices : List (List SliceInfoElem)) {kind : ErrorKind}
    (fault : Option ErrorKind) → view_slices_fault Strict count shape slices ≡ Some kind → fault ≡ Some kind
    → IsFaultOfSlices count shape slices fault
fault_of_first count shape slices fault first same =
    subst (λ f. MatchOption f (IsSharingFault shape slices fault) (λ kind. fault ≡ Some kind)) (sym first) same

-- of those without one it is that of two that share an index
pub fault_of_sharing : (count : Option ℕ) (shape : List ℕ) (slices : List (List SliceInfoElem)) (fault : Option ErrorKind)
    → view_slices_fault Strict count shape slices ≡ None → IsSharingFault shape slices fault → IsFaultOfSlices count shape slices fault
fault_of_sharing count shape slices fault none sharing =
    subst (λ f. MatchOption f (IsSharingFault shape slices fault) (λ kind. fault ≡ Some kind)) (sym none) sharing

-- slices that share no index share no place
pub apart_in_place : {view : View} (slices : List (List SliceInfoElem)) → IsView view → HasDistinctPlaces view
    → slices_fault Strict view.shape slices ≡ None → AllPairs (AreApart Strict view.shape) slices → AreApartInPlace view slices
apart_in_place {view} slices v distinct none apart = λ i j d earlier below shared.
    let fit = slices_fit view.shape slices none in
    apart i j d earlier below
    (intersect_of_shared_place Strict (get_or slices i d) (get_or slices j d) v (fit i d (omega (arith, earlier, below))) (fit j d below)
    distinct shared)

-- each place of the slices that are left has a mark, and no two of these share one
pub record AreLeft (marks : List Bool) (view : View) (slices : List (List SliceInfoElem)) : Type 0 where
  pub marked : All (λ slice. AreMarked marks (slice_of Strict slice view)) slices
  pub apart : AreApartInPlace view slices

-- at first all are left
pub left_at_first : {marks : List Bool} {view : View} (slices : List (List SliceInfoElem)) → IsPart marks view
    → slices_fault Strict view.shape slices ≡ None → AreApartInPlace view slices → AreLeft marks view slices
left_at_first {marks} {view} slices part fits apart = record {
  marked = λ j d below.
      marked_step marks
      (Descends-slice_of Strict (get_or slices j d) view part.is_view (slices_fit view.shape slices fits j d below)) part.marked;
  apart = apart;
}

-- the next one of them
module _ {marks : List Bool} {view picked : View} {left others : List (List SliceInfoElem)} {slice : List SliceInfoElem}
    (are : AreLeft marks view left) (next : left ≡ slice ∷ others) (this : picked ≡ slice_of Strict slice view) where
  both : AreLeft marks view (slice ∷ others)
  both = subst (AreLeft marks view) next are

  pub next_marked : AreMarked marks picked
  next_marked =
      subst (AreMarked marks) (sym this) (All-head (λ one. AreMarked marks (slice_of Strict one view)) slice others both.marked)

  -- what it leaves
  pub left_by_one : {rest : List Bool} → rest ≡ without (marks_of (length marks) picked) marks → AreLeft rest view others
  left_by_one same = record {
    marked = λ j d below. subst (λ m. AreMarked m (slice_of Strict (get_or others j d) view)) (sym same)
        (part_of_others marks picked next_marked (slice_of Strict (get_or others j d) view)
        (All-tail (λ one. AreMarked marks (slice_of Strict one view)) slice others both.marked j d below)
        (λ shared. pairs_head (λ one other. SlicesSharePlace Strict view one other → ⊥) slice others both.apart j d below
        (subst (λ v. SharePlace v (slice_of Strict (get_or others j d) view)) this shared)));
    apart = pairs_tail (λ one other. SlicesSharePlace Strict view one other → ⊥) slice others both.apart;
  }

-- so it is a part
pub own_part : {marks : List Bool} {view picked : View} {source : List ℕ → List ℕ} → Descends source view picked → HasDistinctPlaces view
    → AreMarked marks picked → IsPart marks picked
own_part kept distinct marked = record { is_view = kept.is_view; marked = marked; distinct = kept.distinct distinct }

-- at first no part is made
pub parts_begin : {A B X : Type 0} (f : A → X) (g : B → X) {made : List A} (all : List B) → made ≡ []
    → map f made ++ map g all ≡ map g all
parts_begin f g all none = ap (λ xs. map f xs ++ map g all) none

-- one more is made, before those that are left
pub part_pushed : {A B X : Type 0} (f : A → X) (g : B → X) (old : List A) {new : List A} {x : A} {y : B} {left others : List B}
    {all : List X} → new ≡ old ++ x ∷ [] → left ≡ y ∷ others → f x ≡ g y → map f old ++ map g left ≡ all → map f new ++ map g others ≡ all
part_pushed f g old {x = x} {others = others} pushed first same so_far =
    ap (λ xs. map f xs ++ map g others) pushed
    ∙ ap (λ xs. xs ++ map g others) (map-append f old (x ∷ []))
    ∙ append_assoc (map f old) (f x ∷ []) (map g others)
    ∙ ap (λ z. map f old ++ z ∷ map g others) same
    ∙ ap (λ xs. map f old ++ map g xs) (sym first)
    ∙ so_far

-- an array of these items by this view
pub made_so : {T : Type 0} {array : ArrayValue T} {items : List T} {view : View} → array.items ≡ items → array.view ≡ view
    → array ≡ record { items = items; view = view }
made_so {array = array} {items} same this =
    ap (λ xs. record { items = xs; view = array.view }) same ∙ ap (λ v. record { items = items; view = v }) this
