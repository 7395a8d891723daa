-- Laws of two items that are swapped: each has the place of the other, and every other item its own.
use Rattle.std.proofs.Common.{◌≡◌, ◌≢◌, ℕ, ℤ, zero, suc, ◌<◌, pos, negsuc, true, List, [], ◌∷◌}
use Rattle.std.proofs.Common.{length, set, get_or, refl, sym, ap, subst, ◌∙◌, arith}
use Rattle.std.specs.Prelude.{None, Some, slice_get}
use Rattle.std.specs.List.{Contains, swap}
use Rattle.std.proofs.lemmas.Bool.{cond-true}
use Rattle.std.proofs.lemmas.List.{length-set}
use Rattle.ndarray_layout.specs.declared.Order.TheVariants.{RowMajor}
use Rattle.ndarray_layout.specs.Bounds.{IsInBounds}
use Rattle.ndarray_layout.specs.Indices.{indices_in, is_index}
use Rattle.ndarray_layout.specs.Signed.{magnitude}
use Rattle.ndarray_layout.specs.View.{place_at, view_places}
use Rattle.ndarray_layout.proofs.Laws.Indices.{Contains-indices_in}
use Rattle.ndarray_layout.proofs.Laws.Lists.{Contains-map}
use Rattle.nd_access.specs.HasItems.{KeepsSpare, with_swapped}
use Rattle.nd_access.specs.Items.{ArrayValue, IsOwned, item_at, item_at_place}
use Rattle.nd_access.proofs.Laws.Lists.{set_other, set_same}

there : {X : Type 0} (xs : List X) (i : ℕ) (d : X) → i < length xs → slice_get xs i ≡ Some (get_or xs i d)
there [] i d below = absurd (omega (arith, below))
there (x ∷ xs) zero d below = refl
there (x ∷ xs) (suc i) d below = there xs i d (omega (arith, below))

swap_first : {X : Type 0} (xs : List X) (i j : ℕ) → i < length xs → j < length xs → j ≢ i → slice_get (swap xs i j) i ≡ slice_get xs j
swap_first [] i j a b apart = absurd (omega (arith, a))
swap_first (d ∷ ys) i j a b apart =
    let xs = d ∷ ys in
    set_other (set xs i (get_or xs j d)) j (get_or xs i d) i (λ same. apart (sym same))
    ∙ set_same xs i a ∙ sym (there xs j d b)

swap_second : {X : Type 0} (xs : List X) (i j : ℕ) → i < length xs → j < length xs → slice_get (swap xs i j) j ≡ slice_get xs i
swap_second [] i j a b = absurd (omega (arith, a))
swap_second (d ∷ ys) i j a b =
    let xs = d ∷ ys in
    let long = length-set xs i (get_or xs j d) in
    set_same (set xs i (get_or xs j d)) j (omega (arith, long, b)) ∙ sym (there xs i d a)

swap_other : {X : Type 0} (xs : List X) (i j k : ℕ) → k ≢ i → k ≢ j → slice_get (swap xs i j) k ≡ slice_get xs k
swap_other [] i j k a b = refl
swap_other (d ∷ ys) i j k a b =
    let xs = d ∷ ys in
    set_other (set xs i (get_or xs j d)) j (get_or xs i d) k b ∙ set_other xs i (get_or xs j d) k a

at_first : {T : Type 0} (items : List T) (z w : ℤ) → IsInBounds (length items) z → IsInBounds (length items) w → w ≢ z
    → item_at_place (swap items (magnitude z) (magnitude w)) z ≡ item_at_place items w
at_first items (pos z) (pos w) a b apart = swap_first items z w a b (λ same. apart (ap pos same))
at_first items (pos z) (negsuc w) a b apart = absurd b
at_first items (negsuc z) w a b apart = absurd a

at_second : {T : Type 0} (items : List T) (z w : ℤ) → IsInBounds (length items) z → IsInBounds (length items) w
    → item_at_place (swap items (magnitude z) (magnitude w)) w ≡ item_at_place items z
at_second items (pos z) (pos w) a b = swap_second items z w a b
at_second items (pos z) (negsuc w) a b = absurd b
at_second items (negsuc z) w a b = absurd a

at_other : {T : Type 0} (items : List T) (z w v : ℤ) → IsInBounds (length items) z → IsInBounds (length items) w → v ≢ z → v ≢ w
    → item_at_place (swap items (magnitude z) (magnitude w)) v ≡ item_at_place items v
at_other items (pos z) (pos w) (pos v) a b not_z not_w = swap_other items z w v (λ same. not_z (ap pos same)) (λ same. not_w (ap pos same))
at_other items (pos z) (pos w) (negsuc v) a b not_z not_w = refl
at_other items (pos z) (negsuc w) v a b not_z not_w = absurd b
at_other items (negsuc z) w v a b not_z not_w = absurd a

module _ {T : Type 0} (array : ArrayValue T) (one other : List ℕ) (owned : IsOwned (length array.items) array.view)
    (here : is_index array.view.shape one ≡ true) (also : is_index array.view.shape other ≡ true) where
  -- the array with both swapped, where both are indices
  abbrev pub after : ArrayValue T
  after = record {
    items = swap array.items (magnitude (place_at array.view one)) (magnitude (place_at array.view other));
    view = array.view;
  }

  pub is_after : with_swapped array one other ≡ after
  is_after = rw (here, also) refl

  -- the first index has the item of the second
  pub first_swapped : other ≢ one → item_at after one ≡ item_at array other
  first_swapped apart =
      let differ : place_at array.view other ≢ place_at array.view one = λ same. apart (owned.distinct other one also here same) in
      cond-true (is_index array.view.shape one) (item_at_place after.items (place_at array.view one)) None here
      ∙ at_first array.items (place_at array.view one) (place_at array.view other) (owned.within one here) (owned.within other also) differ
      ∙ sym (cond-true (is_index array.view.shape other) (item_at_place array.items (place_at array.view other)) None also)

  -- and the second that of the first
  pub second_swapped : item_at after other ≡ item_at array one
  second_swapped =
      cond-true (is_index array.view.shape other) (item_at_place after.items (place_at array.view other)) None also
      ∙ at_second array.items (place_at array.view one) (place_at array.view other) (owned.within one here) (owned.within other also)
      ∙ sym (cond-true (is_index array.view.shape one) (item_at_place array.items (place_at array.view one)) None here)

  -- each other index has its own
  pub others_kept : (index : List ℕ) → is_index array.view.shape index ≡ true → index ≢ one → index ≢ other
      → item_at after index ≡ item_at array index
  others_kept index is not_one not_other =
      cond-true (is_index array.view.shape index) (item_at_place after.items (place_at array.view index)) None is
      ∙ at_other array.items (place_at array.view one) (place_at array.view other) (place_at array.view index) (owned.within one here)
      (owned.within other also) (λ same. not_one (owned.distinct index one is here same))
      (λ same. not_other (owned.distinct index other is also same))
      ∙ sym (cond-true (is_index array.view.shape index) (item_at_place array.items (place_at array.view index)) None is)

  listed : (index : List ℕ) → is_index array.view.shape index ≡ true
      → Contains (view_places RowMajor array.view) (place_at array.view index)
  listed index is = Contains-map (place_at array.view) (indices_in RowMajor array.view.shape)
      (Contains-indices_in RowMajor array.view.shape index is)

  spare_at : (z w : ℤ) (place : ℕ) → IsInBounds (length array.items) z → IsInBounds (length array.items) w → pos place ≢ z → pos place ≢ w
      → slice_get (swap array.items (magnitude z) (magnitude w)) place ≡ slice_get array.items place
  spare_at z w place a b not_z not_w = at_other array.items z w (pos place) a b not_z not_w

  -- and so has each place of none
  pub spare_kept : KeepsSpare array after
  spare_kept place none =
      spare_at (place_at array.view one) (place_at array.view other) place (owned.within one here) (owned.within other also)
      (λ same. none (subst (Contains (view_places RowMajor array.view)) (sym same) (listed one here)))
      (λ same. none (subst (Contains (view_places RowMajor array.view)) (sym same) (listed other also)))
