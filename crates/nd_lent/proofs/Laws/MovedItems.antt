-- Laws of items that are written in the first or the last part of a list, by a view that was moved there: what that leaves of the list.
use Rattle.std.proofs.Common.{◌≡◌, ℕ, ℤ, zero, suc, ◌+◌, ◌-◌, ◌<◌, ◌≤◌, ◌++◌, pos, negsuc, ◌+ℤ◌, true}
use Rattle.std.proofs.Common.{List, [], ◌∷◌, length, refl, sym, ap, subst, ◌∙◌, arith, inl, inr}
use Rattle.std.specs.Prelude.{Option, None, slice_get}
use Rattle.std.specs.List.{Contains}
use Rattle.std.proofs.lemmas.Bool.{cases_lt, cond-true}
use Rattle.ndarray_layout.specs.declared.Order.TheVariants.{RowMajor}
use Rattle.ndarray_layout.specs.Bounds.{IsInBounds}
use Rattle.ndarray_layout.specs.Indices.{indices_in, is_index}
use Rattle.ndarray_layout.specs.View.{View, LiesWithin, place_at, view_places}
use Rattle.ndarray_layout.proofs.Laws.Indices.{Contains-indices_in}
use Rattle.ndarray_layout.proofs.Laws.Lists.{Contains-map}
use Rattle.nd_lent.proofs.SplitItems.{place_moved}
use Rattle.nd_lent.proofs.Laws.SlicePlaces.{listed}
use Rattle.nd_access.specs.HasItems.{HasItemsOf}
use Rattle.nd_lent.specs.SplitItems.{IsMoved}
use Rattle.nd_access.specs.Items.{item_at, item_at_place}

got_left : {T : Type 0} (xs ys : List T) (i : ℕ) → i < length xs → slice_get (xs ++ ys) i ≡ slice_get xs i
got_left [] ys i below = absurd (omega (arith, below))
got_left (x ∷ xs) ys zero below = refl
got_left (x ∷ xs) ys (suc i) below = got_left xs ys i (omega (arith, below))

got_right : {T : Type 0} (xs ys : List T) (i j : ℕ) → j ≡ length xs + i → slice_get (xs ++ ys) j ≡ slice_get ys i
got_right [] ys i j is = ap (slice_get ys) (omega (arith, is))
got_right (x ∷ xs) ys i zero is = absurd (omega (arith, is))
got_right (x ∷ xs) ys i (suc j) is = got_right xs ys i j (omega (arith, is))

-- the same past the first list, whatever it is
got_past : {T : Type 0} (xs ys zs : List T) (i : ℕ) → length ys ≡ length xs → length xs ≤ i
    → slice_get (ys ++ zs) i ≡ slice_get (xs ++ zs) i
got_past xs ys zs i same past =
    got_right ys zs (i - length xs) i (omega (arith, same, past)) ∙ sym (got_right xs zs (i - length xs) i (omega (arith, past)))

left_at : {T : Type 0} (xs ys : List T) (n : ℕ) (z v : ℤ) → n ≡ length xs → IsInBounds n z → v ≡ pos 0 +ℤ z
    → item_at_place (xs ++ ys) v ≡ item_at_place xs z
left_at xs ys n (pos i) v long below is =
    let e : 0 + i ≡ i = omega arith in ap (item_at_place (xs ++ ys)) (is ∙ ap pos e) ∙ got_left xs ys i (omega (arith, below, long))
left_at xs ys n (negsuc i) v long below is = absurd below

right_at : {T : Type 0} (xs ys : List T) (n : ℕ) (z v : ℤ) → IsInBounds n z → v ≡ pos (length xs) +ℤ z
    → item_at_place (xs ++ ys) v ≡ item_at_place ys z
right_at xs ys n (pos i) v below is = ap (item_at_place (xs ++ ys)) is ∙ got_right xs ys i (length xs + i) refl
right_at xs ys n (negsuc i) v below is = absurd below

of_part : (part : View) (index : List ℕ) (v : ℤ) → is_index part.shape index ≡ true → place_at part index ≡ v
    → Contains (view_places RowMajor part) v
of_part part index v here is = subst (Contains (view_places RowMajor part)) is
    (Contains-map (place_at part) (indices_in RowMajor part.shape) (Contains-indices_in RowMajor part.shape index here))

-- an item of the whole is that of the part
item_of : {T : Type 0} (items : List T) (part : View) (index : List ℕ) → is_index part.shape index ≡ true
    → item_at (record { items = items; view = part }) index ≡ item_at_place items (place_at part index)
item_of items part index here = cond-true (is_index part.shape index) (item_at_place items (place_at part index)) None here

-- the first part was written, so the list is by the view of it
pub lower_written : {T : Type 0} (given : List ℕ → Option T) (part view : View) (xs new ys : List T) → IsMoved 0 part view
    → length new ≡ length xs
    → LiesWithin (length xs) view → HasItemsOf given (record { items = xs; view = view }) (record { items = new; view = view })
    → HasItemsOf given (record { items = xs ++ ys; view = part }) (record { items = new ++ ys; view = part })
lower_written given part view xs new ys moved same within has = record {
  view = refl;
  items = λ index here.
      let there = subst (λ s. is_index s index ≡ true) (sym moved.shape) here in
      item_of (new ++ ys) part index here
      ∙ left_at new ys (length xs) (place_at view index) (place_at part index) (sym same) (within index there) (place_moved moved index)
      ∙ sym (item_of new view index there)
      ∙ has.items index there;
  spare = λ place none. elim (cases_lt place (length xs)) [
    | inl low ↦
        got_left new ys place (omega (arith, low, same))
        ∙ has.spare place (λ found.
        let index = listed RowMajor view (pos place) found in
        none (of_part part index.0 (pos place) (subst (λ s. is_index s index.0 ≡ true) moved.shape index.1)
        (place_moved moved index.0 ∙ ap (λ z. pos 0 +ℤ z) index.2 ∙ (let e : 0 + place ≡ place = omega arith in ap pos e))))
        ∙ sym (got_left xs ys place low)
    | inr past ↦ got_past xs new ys place same past
  ];
}

-- the last part was
pub upper_written : {T : Type 0} (given : List ℕ → Option T) (part view : View) (xs ys new : List T) → IsMoved (length xs) part view
    → LiesWithin (length ys) view → HasItemsOf given (record { items = ys; view = view }) (record { items = new; view = view })
    → HasItemsOf given (record { items = xs ++ ys; view = part }) (record { items = xs ++ new; view = part })
upper_written given part view xs ys new moved within has = record {
  view = refl;
  items = λ index here.
      let there = subst (λ s. is_index s index ≡ true) (sym moved.shape) here in
      item_of (xs ++ new) part index here
      ∙ right_at xs new (length ys) (place_at view index) (place_at part index) (within index there) (place_moved moved index)
      ∙ sym (item_of new view index there)
      ∙ has.items index there;
  spare = λ place none. elim (cases_lt place (length xs)) [
    | inl low ↦ got_left xs new place low ∙ sym (got_left xs ys place low)
    | inr past ↦
        let split : place ≡ length xs + (place - length xs) = omega (arith, past) in
        got_right xs new (place - length xs) place split
        ∙ has.spare (place - length xs) (λ found.
        let index = listed RowMajor view (pos (place - length xs)) found in
        none (of_part part index.0 (pos place) (subst (λ s. is_index s index.0 ≡ true) moved.shape index.1)
        (place_moved moved index.0 ∙ ap (λ z. pos (length xs) +ℤ z) index.2 ∙ ap pos (sym split))))
        ∙ sym (got_right xs ys (place - length xs) place split)
  ];
}
