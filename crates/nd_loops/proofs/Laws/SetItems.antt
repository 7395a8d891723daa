-- Items that are set at places, and then others at others, where no place is listed twice: one by one, and side by side.
use Rattle.std.proofs.Common.{◌≡◌, ℕ, zero, suc, ◌+◌, ◌-◌, ◌*◌, ◌<◌, ◌≤◌, ℤ, pos, negsuc, Option, Some, None, List, [], ◌∷◌, ◌++◌}
use Rattle.std.proofs.Common.{length, get_or, set, map, take, drop, refl, sym, ap, subst, ◌∙◌, arith}
use Rattle.std.specs.List.{Contains}
use Rattle.std.specs.Prelude.{slice_get}
use Rattle.std.proofs.lemmas.List.{map-append, take_all, take_more}
use Rattle.std.proofs.lemmas.List.Elements.{Contains-append_left, Contains-append_right}
use Rattle.ndarray_layout.specs.Rows.{row_places}
use Rattle.ndarray_layout.proofs.Laws.Lists.{map_same}
use Rattle.ndarray_layout.proofs.Laws.Rows.{get_or-row_places, length-row_places}
use Rattle.nd_access.specs.Cells.{written_at}
use Rattle.nd_access.specs.Items.{item_at_place}
use Rattle.nd_access.specs.Written.{HasSet, KeepsAllBut}
use Rattle.nd_access.proofs.Laws.Lists.{parts_apart, set_other, set_same}
use Rattle.nd_access.proofs.Laws.MapsTo.{Distinct, distinct_so_far, places_more}
use Rattle.nd_access.proofs.Laws.RowItems.{read_neighbours}

kept : {T : Type 0} (others : List ℤ) (mid new : List T) → KeepsAllBut others mid new → (z : ℤ) → (Contains others z → ⊥)
    → item_at_place new z ≡ item_at_place mid z
kept others mid new keeps (pos place) none = keeps place none
kept others mid new keeps (negsuc below) none = refl

pub none_set : {T : Type 0} {old : List T} → HasSet [] [] old old
none_set = record { written = refl; others = λ place spared. refl }

pub both_set : {T : Type 0} {places others : List ℤ} {given more : List (Option T)} {old mid new : List T} → Distinct (places ++ others)
    → HasSet places given old mid → HasSet others more mid new → HasSet (places ++ others) (given ++ more) old new
both_set {places = places} {others} {given} {mid = mid} {new} distinct first then =
    let same : map (item_at_place new) places ≡ map (item_at_place mid) places =
    map_same (item_at_place new) (item_at_place mid) places (λ k d below.
    kept others mid new then.others (get_or places k d) (parts_apart places others distinct k d below)) in
    record {
      written = map-append (item_at_place new) places others
          ∙ ap (λ items. items ++ map (item_at_place new) others) (same ∙ first.written)
          ∙ ap (λ items. given ++ items) then.written;
      others = λ place spared. then.others place (λ here. spared (Contains-append_right places others (pos place) here))
          ∙ first.others place (λ here. spared (Contains-append_left places others (pos place) here));
    }

-- ---- one by one
module _ {T : Type 0} (places : List ℤ) (given : List (Option T)) {old now : List T} (count : ℕ)
    (so_far : HasSet (take count places) (take count given) old now) where
  pub one_more_set : (place : ℕ) (x : T) → Distinct places → count < length places → get_or places count (pos place) ≡ pos place
      → count < length given → get_or given count None ≡ Some x → place < length now
      → HasSet (take (count + 1) places) (take (count + 1) given) old (set now place x)
  one_more_set place x distinct below there within is under =
      let one : HasSet (pos place ∷ []) (Some x ∷ []) now (set now place x) = record {
        written = ap (λ item. item ∷ []) (set_same now place under);
        others = λ other spared. set_other now place x other (λ same. spared (0, omega arith, ap pos (sym same)));
      } in
      subst (λ zs. HasSet zs (take (count + 1) given) old (set now place x)) (sym (places_more places count place below there))
      (subst (λ xs. HasSet (take count places ++ pos place ∷ []) xs old (set now place x))
      (sym (take_more given count None within ∙ ap (λ item. take count given ++ item ∷ []) is))
      (both_set (distinct_so_far places count place distinct below there) so_far one))

  pub all_set : length places ≤ count → length given ≤ count → HasSet places given old now
  all_set ended over =
      subst (λ zs. HasSet zs given old now) (take_all count places ended)
      (subst (λ xs. HasSet (take count places) xs old now) (take_all count given over) so_far)

-- ---- side by side
pub length-written_at : {T : Type 0} (start : ℕ) (items old : List T) → length (written_at start items old) ≡ length old
length-written_at start items [] = refl
length-written_at (suc start) items (own ∷ old) = ap suc (length-written_at start items old)
length-written_at zero [] (own ∷ old) = refl
length-written_at zero (item ∷ items) (own ∷ old) = ap suc (length-written_at zero items old)

there : {T : Type 0} (start : ℕ) (items old : List T) → start + length items ≤ length old
    → take (length items) (drop start (written_at start items old)) ≡ items
there zero [] [] within = refl
there zero (item ∷ items) [] within = absurd (omega (arith, within))
there (suc start) items [] within = absurd (omega (arith, within))
there (suc start) items (own ∷ old) within = there start items old (omega (arith, within))
there zero [] (own ∷ old) within = refl
there zero (item ∷ items) (own ∷ old) within = ap (λ items. item ∷ items) (there zero items old (omega (arith, within)))

outside : {T : Type 0} (start : ℕ) (items old : List T) (place : ℕ) → (start ≤ place → place < start + length items → ⊥)
    → slice_get (written_at start items old) place ≡ slice_get old place
outside start items [] place apart = refl
outside (suc start) items (own ∷ old) zero apart = refl
outside (suc start) items (own ∷ old) (suc place) apart =
    outside start items old place (λ low high. apart (omega (arith, low)) (omega (arith, high)))
outside zero [] (own ∷ old) place apart = refl
outside zero (item ∷ items) (own ∷ old) zero apart = absurd (apart (omega arith) (omega arith))
outside zero (item ∷ items) (own ∷ old) (suc place) apart =
    outside zero items old place (λ low high. apart (omega (arith, low)) (omega (arith, high)))

pub slice_set : {T : Type 0} (start len : ℕ) (items old : List T) → length items ≡ len → start + len ≤ length old
    → HasSet (row_places start (pos 1) len) (map Some items) old (written_at start items old)
slice_set start len items old long within = record {
  written = read_neighbours (written_at start items old) start len (omega (arith, within, length-written_at start items old))
      ∙ ap (λ n. map Some (take n (drop start (written_at start items old)))) (sym long)
      ∙ ap (map Some) (there start items old (omega (arith, within, long)));
  others = λ place spared. outside start items old place (λ low high.
      let coordinate = place - start in
      let below : coordinate < len = omega (arith, low, high, long) in
      spared (
        coordinate,
        omega (arith, below, length-row_places start (pos 1) len),
        get_or-row_places start (pos 1) len coordinate (pos place) below
            ∙ ap pos (let same : start + coordinate * 1 ≡ place = omega (arith, low) in same),
      ));
}
