-- Slices of a view whose places are distinct: no place is listed twice by slices of which no two share an index, and what writes
-- there leave.
use Rattle.std.proofs.Common.{◌≡◌, ◌≢◌, ℕ, pos, true, Some, None, List, [], ◌∷◌, ◌++◌, length, get_or}
use Rattle.std.proofs.Common.{map, take, refl, sym, ap, subst, ◌∙◌, arith}
use Rattle.std.specs.List.{All, AllPairs, flat_map, list_all}
use Rattle.std.specs.Prelude.{MatchOption, Option}
use Rattle.std.proofs.lemmas.Bool.{and_parts, eqb-true}
use Rattle.std.proofs.lemmas.List.{append_cancel_left, length-map, map-append, take_at}
use Rattle.std.proofs.lemmas.List.Elements.{All-cons, All-head, All-tail}
use Rattle.ndarray_layout.specs.declared.ErrorKind.{ErrorKind}
use Rattle.ndarray_layout.specs.declared.Fit.TheVariants.{Strict}
use Rattle.ndarray_layout.specs.declared.Order.TheVariants.{RowMajor}
use Rattle.ndarray_layout.specs.SliceFault.{argument_fault}
use Rattle.ndarray_layout.specs.IntersectingPair.{AreApart}
use Rattle.ndarray_layout.specs.DistinctPlaces.{HasDistinctPlaces}
use Rattle.ndarray_layout.specs.Size.{size}
use Rattle.ndarray_layout.specs.SlicedLayout.{sliced_shape}
use Rattle.ndarray_layout.specs.SlicedView.{slice_of}
use Rattle.ndarray_layout.specs.View.{View, IsView}
use Rattle.ndarray_layout.proofs.Laws.View.{length-view_places}
use Rattle.nd_lent.specs.Items.{item_at_place}
use Rattle.nd_lent.specs.Written.{HasSet}
use Rattle.nd_owned.specs.private.Written.{HasWritten}
use Rattle.nd_owned.specs.MultiSet.{Write, IsFaultOfWrites, IsIntersectionFault, IsWritten, KeepsOthers, Spares, counts_fault}
use Rattle.nd_owned.specs.MultiSet.{has_count, slices_fault, slices_of, write_places}
use Rattle.nd_lent.proofs.Laws.Lists.{none_of_all}
use Rattle.nd_lent.proofs.Laws.SlicePlaces.{slice_places, slices_distinct}
use Rattle.std.proofs.iter.runs.Flat.{flat_map-map}
use Rattle.nd_lent.proofs.Laws.Faults.{slices_fit}
use Rattle.nd_lent.proofs.Laws.Lists.{All-of_map}

-- equal lists of two parts, the first ones as long as each other
same_parts : {X : Type 0} (xs us ys vs : List X) → length xs ≡ length us → xs ++ ys ≡ us ++ vs → (xs ≡ us) × (ys ≡ vs)
same_parts xs us ys vs long same =
    let first : xs ≡ us = sym (take_at xs ys (length us) long) ∙ ap (take (length us)) same ∙ take_at us vs (length us) refl in
    (first, append_cancel_left us ys vs (ap (λ front. front ++ ys) (sym first) ∙ same))

-- as many items as places
pub each_count : {T : Type 0} (view : View) (writes : List (Write T)) → list_all (has_count view.shape) writes ≡ true
    → All (λ write. length (write_places view write) ≡ length write.items) writes
each_count view [] all = λ k d below. absurd (omega arith)
each_count view (write ∷ writes) all =
    let parts = and_parts (has_count view.shape write) (list_all (has_count view.shape) writes) all in
    All-cons (λ one. length (write_places view one) ≡ length one.items) write writes
    (length-view_places RowMajor (slice_of Strict write.slice view)
    ∙ sym (eqb-true (length write.items) (size (sliced_shape Strict write.slice view.shape)) parts.0))
    (each_count view writes parts.1)

-- ---- what is left
pub all_written : {T : Type 0} (view : View) (writes : List (Write T)) (old new : List T) → list_all (has_count view.shape) writes ≡ true
    → HasWritten (flat_map (write_places view) writes) (flat_map (λ write. write.items) writes) old new → All (IsWritten view new) writes
all_written {T = T} view writes old new counts left = by writes (each_count view writes counts) left.written
  where
    by : (writes : List (Write T)) → All (λ write. length (write_places view write) ≡ length write.items) writes
        → map (item_at_place new) (flat_map (write_places view) writes) ≡ map Some (flat_map (λ write. write.items) writes)
        → All (IsWritten view new) writes
    by [] counts same = λ k d below. absurd (omega arith)
    by (write ∷ writes) counts same =
        let places = write_places view write in
        let more = flat_map (write_places view) writes in
        let items = flat_map (λ one. one.items) writes in
        let long : length (map (item_at_place new) places) ≡ length (map Some write.items) =
        length-map places (item_at_place new) ∙ All-head (λ one. length (write_places view one) ≡ length one.items) write writes counts
        ∙ sym (length-map write.items Some) in
        let parts = same_parts (map (item_at_place new) places) (map Some write.items) (map (item_at_place new) more) (map Some items) long
        (sym (map-append (item_at_place new) places more) ∙ same ∙ map-append Some write.items items) in
        All-cons (IsWritten view new) write writes parts.0
        (by writes (All-tail (λ one. length (write_places view one) ≡ length one.items) write writes counts) parts.1)

pub others_kept : {T : Type 0} (view : View) (writes : List (Write T)) {given : List (Option T)} {old new : List T}
    → HasSet (flat_map (write_places view) writes) given old new → KeepsOthers view writes old new
others_kept view writes left = λ place spared. left.others place (none_of_all (write_places view) writes (pos place) spared)

-- ---- what one write leaves, beside itself alone
pub one_fault : {T : Type 0} (shape : List ℕ) (write : Write T) {fault : Option ErrorKind} → fault ≡ counts_fault shape (write ∷ [])
    → IsFaultOfWrites shape (write ∷ []) fault
one_fault shape write {fault} same = by (counts_fault shape (write ∷ [])) same
  where
    by : (counts : Option ErrorKind) → fault ≡ counts
        → MatchOption counts (IsIntersectionFault shape (write ∷ []) fault) (λ kind. fault ≡ Some kind)
    by None none = subst (IsIntersectionFault shape (write ∷ [])) (sym none) (λ i j d earlier below. absurd (omega arith))
    by (Some kind) some = some

module _ {T : Type 0} (view : View) (write : Write T) {old new : List T} where
  pub one_written : HasWritten (write_places view write) write.items old new → All (IsWritten view new) (write ∷ [])
  one_written left = All-cons (IsWritten view new) write [] left.written (λ k d below. absurd (omega arith))

  pub one_kept : HasWritten (write_places view write) write.items old new → KeepsOthers view (write ∷ []) old new
  one_kept left = λ place spared. left.others place (All-head (Spares view place) write [] spared)

-- the item of a list of one
pub only : {X : Type 0} (xs : List X) {x : X} → length xs ≡ 1 → x ≡ get_or xs 0 x → xs ≡ x ∷ []
only [] one is = absurd (omega arith)
only (y ∷ []) one is = ap (λ z. z ∷ []) (sym is)
only (y ∷ z ∷ xs) one is = absurd (omega arith)

-- ---- what holds of each of the writes
pub each_fits : {T : Type 0} (shape : List ℕ) (writes : List (Write T)) → slices_fault shape writes ≡ None
    → All (λ write. argument_fault Strict shape write.slice ≡ None) writes
each_fits shape writes none =
    All-of_map (λ write. write.slice) writes (λ slice. argument_fault Strict shape slice ≡ None) (slices_fit shape (slices_of writes) none)

pub all_distinct : {T : Type 0} (view : View) (writes : List (Write T)) → IsView view → HasDistinctPlaces view
    → slices_fault view.shape writes ≡ None → AllPairs (AreApart Strict view.shape) (slices_of writes)
    → AllPairs (λ one other. one ≢ other) (flat_map (write_places view) writes)
all_distinct view writes v distinct none apart =
    subst (AllPairs (λ one other. one ≢ other)) (flat_map-map (slice_places view) (λ write. write.slice) writes)
    (slices_distinct view (slices_of writes) v distinct none apart)
