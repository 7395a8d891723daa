-- Laws of lists with the axes in another order: it is undone by the inverse order, and what folds over the axes stays.
use Rattle.std.proofs.Common.{eq-eqb, ◌≡◌, ◌≢◌, ℕ, zero, suc, ◌+◌, ◌<◌, Bool, true, false, List, [], ◌∷◌, length}
use Rattle.std.proofs.Common.{get_or, refl, sym, ap, ◌∙◌, inl, inr, arith}
use Rattle.std.specs.Prelude.{remove, ◌==◌, ◌↔◌, IsTrue}
use Rattle.std.specs.Cmp.{nat_eq_equiv}
use Rattle.std.specs.List.{AllPairs, Contains, list_any, position_or_len}
use Rattle.std.specs.List.Sorted.{IsPermutation}
use Rattle.std.proofs.lemmas.Bool.{and_from, and_parts, cases_order, eqb-true}
use Rattle.std.proofs.lemmas.Bool.Decides.{same_from_decides}
use Rattle.std.proofs.lemmas.List.{ext_get_or, get_or-map, get_or_default, length-map, nil_from_length}
use Rattle.std.proofs.lemmas.List.Elements.{All-contains}
use Rattle.std.proofs.lemmas.List.FromFn.{get_or-map-range_with_len, length-map-range_with_len}
use Rattle.std.proofs.lemmas.List.Sorted.{All-permutation, Contains-permutation, length_permutation}
use Rattle.std.proofs.lemmas.Map.Views.{list_any-from_Contains}
use Rattle.nd_base.specs.Indices.{below}
use Rattle.nd_base.proofs.Laws.Below.{All-below, AllPairs-below, all_below, get_or-below, length-below, passes_below}
use Rattle.nd_dim.specs.AxesInOrder.{reordered, is_axis_order, inverse_order}
use Rattle.nd_dim.proofs.Laws.Rearranged.{later_apart, permutation_from_members, taken_out}
use Rattle.nd_dim.proofs.StrideOrderLoop.{positions_differ}

-- ---- what folds over the axes
module _ {A : Type 0} (op : A → A → A) (start : A) (turns : (x y z : A) → op x (op y z) ≡ op y (op x z)) (of : ℕ → A) where
  -- the fold of what each axis gives
  abbrev pub total : List ℕ → A
  total [] = start
  total (axis ∷ axes) = op (of axis) (total axes)

  -- an axis may be taken first
  total-remove : (axes : List ℕ) (position : ℕ) → position < length axes
      → total axes ≡ op (of (get_or axes position 0)) (total (remove axes position))
  total-remove [] position in_bounds = absurd (omega arith)
  total-remove (axis ∷ axes) zero in_bounds = refl
  total-remove (axis ∷ axes) (suc position) in_bounds =
      ap (op (of axis)) (total-remove axes position (omega arith))
      ∙ turns (of axis) (of (get_or axes position 0)) (total (remove axes position))

  -- a list of other axes than each other, all of which are among as many others, has the total of those
  total_of_members : (xs ys : List ℕ) → AllPairs (λ a b. a ≢ b) xs → length xs ≡ length ys
      → ((axis : ℕ) → Contains xs axis → Contains ys axis)
      → total xs ≡ total ys
  total_of_members [] ys apart count there = ap total (sym (nil_from_length ys (sym count)))
  total_of_members (axis ∷ xs) ys apart count there =
      let out = taken_out axis xs ys apart count there in
      let others = remove ys out.at in
      let first : get_or ys out.at 0 ≡ axis = get_or_default ys out.at 0 axis out.in_bounds ∙ out.is in
      ap (op (of axis)) (total_of_members xs others (later_apart axis xs apart) out.count out.there)
      ∙ ap (λ a. op (of a) (total others)) (sym first)
      ∙ sym (total-remove ys out.at out.in_bounds)

-- ---- orders of the axes
-- an item of a list in another order
pub get_or_map_at : {X : Type 0} (axes : List ℕ) (items : List X) (position : ℕ) (otherwise : X) → position < length axes
    → get_or (reordered otherwise axes items) position otherwise ≡ get_or items (get_or axes position 0) otherwise
get_or_map_at axes items position otherwise in_bounds = get_or-map (λ axis. get_or items axis otherwise) axes position 0 otherwise in_bounds

-- the axis stands at the place of the first of its number
abbrev pub position_of : ℕ → List ℕ → ℕ
position_of axis axes = position_or_len (λ other. axis == other) axes

abbrev pub StandsAtItsPosition : ℕ → List ℕ → Type 0
StandsAtItsPosition axis axes = (position_of axis axes < length axes) × (get_or axes (position_of axis axes) 0 ≡ axis)

found_first : (axis other : ℕ) (axes : List ℕ) (first : Bool) → (axis == other) ≡ first
    → (first ≡ false → StandsAtItsPosition axis axes) → StandsAtItsPosition axis (other ∷ axes)
found_first axis other axes true same later = rw same (omega arith, sym (eqb-true axis other same))
found_first axis other axes false apart later =
    let there = later refl in
    let next : 1 + position_of axis axes ≡ suc (position_of axis axes) = omega arith in
    rw apart (let l = there.0 in omega arith, ap (λ position. get_or (other ∷ axes) position 0) next ∙ there.1)

found : (axis : ℕ) (axes : List ℕ) → list_any (λ other. axis == other) axes ≡ true → StandsAtItsPosition axis axes
found axis [] none = absurd (cc)
found axis (other ∷ axes) some = found_first axis other axes (axis == other) refl (λ apart. found axis axes (rw apart at some))

module _ (n : ℕ) (axes : List ℕ) (order : is_axis_order n axes ≡ true) where
  -- it has as many items as there are axes
  pub length_of_order : length axes ≡ n
  length_of_order = eqb-true (length axes) n (and_parts _ _ order).0

  -- each axis has its place
  pub axis_found : (axis : ℕ) → axis < n → StandsAtItsPosition axis axes
  axis_found axis in_bounds =
      found axis axes (passes_below (λ a. list_any (λ other. a == other) axes) n (and_parts _ _ order).1 axis in_bounds)

  -- the axes from 0 on, in another order
  pub members_of_order : (axis : ℕ) → Contains (below n) axis → Contains axes axis
  members_of_order axis there =
      let in_bounds = All-contains (λ a. a < n) (below n) axis (All-below n) there in
      let found = axis_found axis in_bounds in
      (position_of axis axes, found.0, get_or_default axes (position_of axis axes) axis 0 found.0 ∙ found.1)

  pub permutation_of_order : IsPermutation (below n) axes
  permutation_of_order = permutation_from_members (below n) axes (AllPairs-below n) (length-below n ∙ sym length_of_order)
      members_of_order

  -- each of its items is an axis
  pub item_below : (position : ℕ) → position < length axes → get_or axes position 0 < n
  item_below position in_bounds = All-permutation (λ axis. axis < n) (below n) axes permutation_of_order (All-below n) position 0 in_bounds

  -- each axis stands where it is found alone
  pub position_of_item : (position : ℕ) → position < length axes → position_of (get_or axes position 0) axes ≡ position
  position_of_item position in_bounds =
      let axis = get_or axes position 0 in
      let there = axis_found axis (item_below position in_bounds) in
      elim (cases_order (position_of axis axes) position) [
        | inl same ↦ same
        | inr (inl before) ↦ absurd (positions_differ n permutation_of_order (position_of axis axes) position before in_bounds there.1)
        | inr (inr after) ↦ absurd (positions_differ n permutation_of_order position (position_of axis axes) after there.0 (sym there.1))
      ]

  -- the inverse order has as many items, each of them a place
  pub length-inverse_order : length (inverse_order axes) ≡ n
  length-inverse_order = length-map-range_with_len (λ axis. position_of axis axes) 0 (length axes) ∙ length_of_order

  pub item-inverse_order : (axis : ℕ) → axis < n → get_or (inverse_order axes) axis 0 ≡ position_of axis axes
  item-inverse_order axis in_bounds =
      get_or-map-range_with_len (λ a. position_of a axes) 0 (length axes) axis axis 0 (omega (arith, length_of_order)) (omega arith)

  -- ---- the order and its inverse undo one another
  module _ {X : Type 0} (otherwise : X) (items : List X) (count : length items ≡ n) where
    pub undone_by_inverse : reordered otherwise (inverse_order axes) (reordered otherwise axes items) ≡ items
    undone_by_inverse =
        let moved = reordered otherwise axes items in
        let back = reordered otherwise (inverse_order axes) moved in
        let long : length back ≡ n = length-map (inverse_order axes) (λ axis. get_or moved axis otherwise) ∙ length-inverse_order in
        ext_get_or otherwise back items (long ∙ sym count) (λ axis in_bounds.
        let there : axis < n = omega arith in
        let first = axis_found axis there in
        get_or_map_at (inverse_order axes) moved axis otherwise (omega (arith, length-inverse_order))
        ∙ ap (λ position. get_or moved position otherwise) (item-inverse_order axis there)
        ∙ get_or_map_at axes items (position_of axis axes) otherwise first.0
        ∙ ap (λ a. get_or items a otherwise) first.1)

    pub undone_by_order : reordered otherwise axes (reordered otherwise (inverse_order axes) items) ≡ items
    undone_by_order =
        let moved = reordered otherwise (inverse_order axes) items in
        let back = reordered otherwise axes moved in
        let long : length back ≡ n = length-map axes (λ axis. get_or moved axis otherwise) ∙ length_of_order in
        ext_get_or otherwise back items (long ∙ sym count) (λ position in_bounds.
        let there : position < length axes = omega (arith, length_of_order) in
        let below_n = item_below position there in
        get_or_map_at axes moved position otherwise there
        ∙ get_or_map_at (inverse_order axes) items (get_or axes position 0) otherwise (omega (arith, length-inverse_order))
        ∙ ap (λ a. get_or items a otherwise) (item-inverse_order (get_or axes position 0) below_n ∙ position_of_item position there))

  -- what folds over the axes is the same in this order
  pub total_in_order : {A : Type 0} (op : A → A → A) (start : A) (turns : (x y z : A) → op x (op y z) ≡ op y (op x z)) (of : ℕ → A)
      → total op start turns of (below n) ≡ total op start turns of axes
  total_in_order op start turns of =
      total_of_members op start turns of (below n) axes (AllPairs-below n) (length-below n ∙ sym length_of_order) members_of_order

-- the axes in their own order
pub in_own_order : {X : Type 0} (otherwise : X) (items : List X) → reordered otherwise (below (length items)) items ≡ items
in_own_order otherwise items =
    let same = reordered otherwise (below (length items)) items in
    ext_get_or otherwise same items (length-map-range_with_len (λ axis. get_or items axis otherwise) 0 (length items)) (λ axis in_bounds.
    get_or-map-range_with_len (λ a. get_or items a otherwise) 0 (length items) axis axis otherwise
    (omega (arith, length-map-range_with_len (λ a. get_or items a otherwise) 0 (length items))) (omega arith))

-- the axes from 0 on, shuffled, are an order of them
pub order_of_permutation : (n : ℕ) (axes : List ℕ) → IsPermutation (below n) axes → is_axis_order n axes ≡ true
order_of_permutation n axes shuffled =
    let count : length axes ≡ n = length_permutation (below n) axes shuffled ∙ length-below n in
    and_from _ _ (eq-eqb (length axes) n count) (all_below _ n (λ axis in_bounds.
    let here : Contains (below n) axis = (axis, omega (arith, length-below n), get_or-below n axis axis in_bounds) in
    list_any-from_Contains nat_eq_equiv axis axes (Contains-permutation (below n) axes axis shuffled here)))

-- the test of an order by its axes
pub order_by_axes : (n : ℕ) (axes : List ℕ) (test : Bool) → length axes ≡ n
    → (IsTrue test ↔ ((axis : ℕ) → axis < n → list_any (λ other. axis == other) axes ≡ true)) → test ≡ is_axis_order n axes
order_by_axes n axes test count h =
    let p = λ (axis : ℕ). list_any (λ other. axis == other) axes in
    same_from_decides {P = (axis : ℕ) → axis < n → p axis ≡ true} test (is_axis_order n axes) h (
      λ order. passes_below p n (and_parts _ _ order).1,
      λ each. and_from _ _ (eq-eqb (length axes) n count) (all_below p n each),
    )
