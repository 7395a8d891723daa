-- An axis that changes places with the one after it until it is last.
use Rattle.std.proofs.Common.{◌≡◌, ℕ, zero, suc, ◌+◌, ◌-◌, ◌<◌, pos, None, List, [], ◌∷◌, ◌++◌, length, get_or}
use Rattle.std.proofs.Common.{refl, sym, ap, subst, ◌∙◌, arith}
use Rattle.std.specs.List.{insert, remove, swap}
use Rattle.std.specs.List.Sorted.{IsPermutation}
use Rattle.std.proofs.lemmas.List.{length-map}
use Rattle.std.proofs.lemmas.List.Edits.{insert_end, length-insert, length-remove, swap_is}
use Rattle.std.proofs.lemmas.List.Sorted.{IsPermutation-append_comm, IsPermutation-remove, IsPermutation-trans}
use Rattle.ndarray_layout.specs.AxesInOrder.{reordered}
use Rattle.ndarray_layout.specs.Descends.{Descends}
use Rattle.ndarray_layout.specs.Indices.{below}
use Rattle.ndarray_layout.specs.PermutedView.{permuted_of, swap_fault, swapped_of}
use Rattle.ndarray_layout.specs.View.{IsView, View}
use Rattle.ndarray_layout.proofs.Laws.AxesInOrder.{in_own_order, order_of_permutation}
use Rattle.ndarray_layout.proofs.Laws.Below.{get_or-below, length-below}
use Rattle.ndarray_layout.proofs.Laws.PermutedView.{Descends-permuted_of, map-swap, no_fault_of_axes, no_fault_of_order}
use Rattle.nd_lent.specs.AxisLast.{axes_with_last, axis_last_of, axis_last_source}

-- an item that changes places with the one after it is inserted there
inserted_after : (xs : List ℕ) (position x : ℕ) → position < length xs
    → swap (insert xs position x) position (suc position) ≡ insert xs (suc position) x
inserted_after [] position x h = absurd (omega arith)
inserted_after (y ∷ xs) zero x h = refl
inserted_after (y ∷ xs) (suc position) x h =
    let more = insert xs position x in
    let long : length more ≡ suc (length xs) = omega (arith, length-insert xs position x (omega arith)) in
    sym (swap_is (y ∷ more) (suc position) (suc (suc position)) 0 (omega arith) (omega arith))
    ∙ ap (λ rest. y ∷ rest) (swap_is more position (suc position) 0 (omega arith) (omega arith))
    ∙ ap (λ rest. y ∷ rest) (inserted_after xs position x (omega arith))

-- one that is inserted where it was removed is back
inserted_back : (xs : List ℕ) (position : ℕ) → position < length xs → insert (remove xs position) position (get_or xs position 0) ≡ xs
inserted_back [] position h = absurd (omega arith)
inserted_back (x ∷ xs) zero h = refl
inserted_back (x ∷ xs) (suc position) h = ap (λ rest. x ∷ rest) (inserted_back xs position (omega arith))

-- the axes with one of them at a position among the others
abbrev pub axes_moved : ℕ → ℕ → ℕ → List ℕ
axes_moved ndim axis position = insert (remove (below ndim) axis) position axis

module _ (ndim axis : ℕ) (there : axis < ndim) where
  others : length (remove (below ndim) axis) + 1 ≡ ndim
  others = length-remove (below ndim) axis (omega (arith, length-below ndim)) ∙ length-below ndim

  not_moved : axes_moved ndim axis axis ≡ below ndim
  not_moved =
      ap (insert (remove (below ndim) axis) axis) (sym (get_or-below ndim axis 0 there))
      ∙ inserted_back (below ndim) axis (omega (arith, length-below ndim))

  moved_on : (position : ℕ) → position < ndim - 1
      → swap (axes_moved ndim axis position) position (position + 1) ≡ axes_moved ndim axis (position + 1)
  moved_on position within =
      let next : position + 1 ≡ suc position = omega arith in
      ap (swap (axes_moved ndim axis position) position) next
      ∙ inserted_after (remove (below ndim) axis) position axis (omega (arith, others))
      ∙ ap (axes_moved ndim axis) (sym next)

  moved_last : axes_moved ndim axis (ndim - 1) ≡ axes_with_last ndim axis
  moved_last =
      let all : ndim - 1 ≡ length (remove (below ndim) axis) = omega (arith, others) in
      ap (axes_moved ndim axis) all ∙ insert_end (remove (below ndim) axis) axis

  -- each axis once
  axes_last_once : IsPermutation (below ndim) (axes_with_last ndim axis)
  axes_last_once =
      let rest = remove (below ndim) axis in
      IsPermutation-trans (below ndim) (axis ∷ rest) (axes_with_last ndim axis)
      (IsPermutation-remove (below ndim) axis axis (omega (arith, length-below ndim)) (sym (get_or-below ndim axis axis there)))
      (IsPermutation-append_comm (axis ∷ []) rest)

  length_moved : (position : ℕ) → position < ndim → length (axes_moved ndim axis position) ≡ ndim
  length_moved position within =
      length-insert (remove (below ndim) axis) position axis (omega (arith, others)) ∙ others

-- ---- of a view
module _ (view : View) (axis : ℕ) (there : axis < length view.shape) where
  abbrev pub moved : ℕ → View
  moved position = permuted_of (axes_moved (length view.shape) axis position) view

  -- at first it is the view
  pub view_not_moved : IsView view → view ≡ moved axis
  view_not_moved v =
      let same : below (length view.shape) ≡ axes_moved (length view.shape) axis axis = sym (not_moved (length view.shape) axis there) in
      let count : below (length view.strides) ≡ below (length view.shape) = ap below (sym v.valid.same_count) in
      let lens : view.shape ≡ (moved axis).shape =
      sym (in_own_order 0 view.shape) ∙ ap (λ axes. reordered 0 axes view.shape) same in
      let steps : view.strides ≡ (moved axis).strides =
      sym (in_own_order (pos 0) view.strides) ∙ ap (λ axes. reordered (pos 0) axes view.strides) (count ∙ same) in
      λ i. record { start = view.start; shape = lens i; strides = steps i }

  -- the two axes from a position on are there
  pub axes_there : {now : View} (position : ℕ) → position < length view.shape - 1 → now ≡ moved position
      → swap_fault now.shape position (position + 1) ≡ None
  axes_there position within is =
      let axes = axes_moved (length view.shape) axis position in
      let long : length (reordered 0 axes view.shape) ≡ length view.shape =
      length-map axes (λ a. get_or view.shape a 0) ∙ length_moved (length view.shape) axis there position (omega arith) in
      let fits : swap_fault (moved position).shape position (position + 1) ≡ None =
      no_fault_of_axes (reordered 0 axes view.shape) position (position + 1) (omega arith) (omega arith) in
      subst (λ (v : View). swap_fault v.shape position (position + 1) ≡ None) (sym is) fits

  -- once they have changed places the axis is one further
  swapped_once : (position : ℕ) → position < length view.shape - 1
      → swapped_of position (position + 1) (moved position) ≡ moved (position + 1)
  swapped_once position within =
      let axes = axes_moved (length view.shape) axis position in
      let long = length_moved (length view.shape) axis there position (omega arith) in
      let turned = moved_on (length view.shape) axis there position within in
      let lens : swap (moved position).shape position (position + 1) ≡ (moved (position + 1)).shape =
      sym (map-swap (λ a. get_or view.shape a 0) 0 axes position (position + 1) (omega arith) (omega arith))
      ∙ ap (λ order. reordered 0 order view.shape) turned in
      let steps : swap (moved position).strides position (position + 1) ≡ (moved (position + 1)).strides =
      sym (map-swap (λ a. get_or view.strides a (pos 0)) 0 axes position (position + 1) (omega arith) (omega arith))
      ∙ ap (λ order. reordered (pos 0) order view.strides) turned in
      λ i. record { start = view.start; shape = lens i; strides = steps i }

  pub view_moved_on : {now next : View} (position : ℕ) → position < length view.shape - 1 → now ≡ moved position
      → next ≡ swapped_of position (position + 1) now → next ≡ moved (position + 1)
  view_moved_on position within is swapped =
      swapped ∙ ap (swapped_of position (position + 1)) is ∙ swapped_once position within

  -- in the end it is last
  pub view_moved_last : {now : View} {position : ℕ} → position ≡ length view.shape - 1 → now ≡ moved position → now ≡ axis_last_of axis view
  view_moved_last last is =
      is ∙ ap moved last ∙ ap (λ axes. permuted_of axes view) (moved_last (length view.shape) axis there)

  pub Descends-axis_last_of : IsView view → Descends (axis_last_source (length view.shape) axis) view (axis_last_of axis view)
  Descends-axis_last_of v =
      let axes = axes_with_last (length view.shape) axis in
      Descends-permuted_of axes view v
      (no_fault_of_order view.shape axes (order_of_permutation (length view.shape) axes (axes_last_once (length view.shape) axis there)))
