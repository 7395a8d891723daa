-- Laws of views in the order of their data: each index lies at its flat index, and row i and column j of a list read as rows
-- of m at i * m + j.
use Rattle.std.proofs.Common.{◌≡◌, ℕ, ◌+◌, ◌*◌, ◌<◌, ◌≤◌, ℤ, pos, true, List, [], ◌∷◌, ◌++◌, drop, get_or, length, map, take, sym, ap}
use Rattle.std.proofs.Common.{subst, ◌∙◌}
use Rattle.std.proofs.Common.{arith}
use Rattle.std.proofs.Math.Nat.{mul-le-mul_right}
use Rattle.std.proofs.lemmas.Int.{ints}
use Rattle.std.proofs.lemmas.List.{ext_get_or, get_or-drop, get_or-map, get_or-take, length-drop, length-map, length-take-le}
use Rattle.nd_base.specs.Place.{place, places}
use Rattle.nd_base.specs.declared.order.Order.{Order}
use Rattle.nd_base.specs.declared.order.Order.TheVariants.{RowMajor}
use Rattle.nd_base.proofs.Laws.Definitions.{is_index, indices_in, index_of_flat_in, flat_index_in, all_signed, limit, nonzero_size}
use Rattle.nd_base.proofs.Laws.Definitions.{low_span, size}
use Rattle.nd_base.proofs.Laws.FlatIndex.{flat_index_in-index_of_flat_in, flat_index_in-lt-size, get_or-indices_in}
use Rattle.nd_base.proofs.Laws.FlatIndex.{index_of_flat_in-flat_index_in}
use Rattle.nd_base.proofs.Laws.FlatIndex.{is_index-index_of_flat_in}
use Rattle.nd_base.proofs.Laws.Indices.{length-indices_in}
use Rattle.nd_base.proofs.Laws.IsIndex.{length_of_index}
use Rattle.nd_base.proofs.Laws.Size.{size-append}
use Rattle.nd_shape.specs.ShapeBuilder.{standard_strides}
use Rattle.nd_shape.proofs.Laws.StandardStrides.{standard_signed, standard_low_span}
use Rattle.ndarray_layout.specs.ReshapedView.{reshape_source}
use Rattle.ndarray_layout.specs.View.{View, IsView, place_at, view_of}
use Rattle.ndarray_layout.proofs.BlockSteps.{is_index-joined}
use Rattle.nd_shape.proofs.Laws.StandardStrides.{offset_of-standard_strides}

-- the view of a shape by the strides that it has by itself in an order, from the first item of the data on
abbrev pub standard_view : Order → List ℕ → View
standard_view order shape = view_of (low_span shape (all_signed (standard_strides order shape))) shape (standard_strides order shape)

-- in it each index lies at its flat index
pub place_at_flat_index : (order : Order) (shape index : List ℕ) {view : View} → IsView view → view ≡ standard_view order shape
    → is_index shape index ≡ true → place_at view index ≡ pos (flat_index_in order shape index)
place_at_flat_index order shape index v is here =
    let top : nonzero_size shape ≤ limit = subst (λ lens. nonzero_size lens ≤ limit) (ap (λ made. made.shape) is) v.valid.size_fits in
    rw (is, standard_low_span order shape top, standard_signed order shape top, offset_of-standard_strides order shape index here)
    (omega (arith, ints))

-- the flat index of row i and column j of n rows of m
pub flat_index_of_row : (n m i j : ℕ) → flat_index_in RowMajor (n ∷ m ∷ []) (i ∷ j ∷ []) ≡ i * m + j
flat_index_of_row n m i j = omega arith

-- so in a list that is read as n rows of m their item is item i * m + j
pub place_in_row : (n m i j : ℕ) {view : View} → IsView view → view ≡ standard_view RowMajor (n ∷ m ∷ [])
    → is_index (n ∷ m ∷ []) (i ∷ j ∷ []) ≡ true → place_at view (i ∷ j ∷ []) ≡ pos (i * m + j)
place_in_row n m i j v is here = place_at_flat_index RowMajor (n ∷ m ∷ []) (i ∷ j ∷ []) v is here ∙ ap pos (flat_index_of_row n m i j)

-- and where a view is read so, they stand for the index of it with that flat index
pub source_in_row : (shape : List ℕ) (n m i j : ℕ)
    → reshape_source RowMajor shape (n ∷ m ∷ []) (i ∷ j ∷ []) ≡ index_of_flat_in RowMajor shape (i * m + j)
source_in_row shape n m i j = ap (index_of_flat_in RowMajor shape) (flat_index_of_row n m i j)

-- which along one axis is the flat index itself
pub index_of_list : (len : ℕ) {flat : ℕ} → index_of_flat_in RowMajor (len ∷ []) flat ≡ flat ∷ []
index_of_list len = ap (λ r. r ∷ []) (omega arith)

-- ---- the first axes, and the others
-- the flat index of a first part counts as many times as the others have indices
pub flat_index-joined : (front back at inner : List ℕ) → length at ≡ length front
    → flat_index_in RowMajor (front ++ back) (at ++ inner) ≡ flat_index_in RowMajor front at * size back + flat_index_in RowMajor back inner
flat_index-joined [] back [] inner e = omega arith
flat_index-joined [] back (i ∷ at) inner e = absurd (omega arith)
flat_index-joined (len ∷ front) back [] inner e = absurd (omega arith)
flat_index-joined (len ∷ front) back (i ∷ at) inner e =
    omega (arith, flat_index-joined front back at inner (omega arith), ap (λ n. i * n) (size-append front back))

-- so in row-major order the places of the indices that begin with the same coordinates follow one another
module _ (start : ℕ) (strides : List ℤ) (front back at : List ℕ) (here : is_index front at ≡ true) where
  abbrev first : ℕ
  first = flat_index_in RowMajor front at * size back

  abbrev all : List (List ℕ)
  all = indices_in RowMajor (front ++ back)

  in_list : first + size back ≤ length all
  in_list =
      let below = flat_index_in-lt-size RowMajor front at here in
      let one : flat_index_in RowMajor front at + 1 ≤ size front = omega arith in
      omega (arith, mul-le-mul_right (size back) one, size-append front back, length-indices_in RowMajor (front ++ back))

  item : (k : ℕ) → k < size back → get_or all (first + k) [] ≡ at ++ index_of_flat_in RowMajor back k
  item k below =
      let inner = index_of_flat_in RowMajor back k in
      let there = is_index-joined front back at inner here (is_index-index_of_flat_in RowMajor back k below) in
      let number : flat_index_in RowMajor (front ++ back) (at ++ inner) ≡ first + k =
      flat_index-joined front back at inner (length_of_index front at here)
      ∙ ap (λ n. first + n) (flat_index_in-index_of_flat_in RowMajor back k below) in
      get_or-indices_in RowMajor (front ++ back) (first + k) [] (omega (arith, in_list, length-indices_in RowMajor (front ++ back)))
      ∙ ap (index_of_flat_in RowMajor (front ++ back)) (sym number)
      ∙ index_of_flat_in-flat_index_in RowMajor (front ++ back) (at ++ inner) there

  pub places-joined : take (size back) (drop (flat_index_in RowMajor front at * size back) (places RowMajor start (front ++ back) strides))
      ≡ map (λ inner. place start strides (at ++ inner)) (indices_in RowMajor back)
  places-joined =
      let n = size back in
      let listed = map (place start strides) all in
      let inner = indices_in RowMajor back in
      let count : length (take n (drop first listed)) ≡ n =
      length-take-le n (drop first listed) (omega (arith, in_list, length-drop first listed, length-map all (place start strides))) in
      let long : length inner ≡ n = length-indices_in RowMajor back in
      ext_get_or (pos 0) (take n (drop first listed)) (map (λ i. place start strides (at ++ i)) inner)
      (omega (arith, count, long, length-map inner (λ (i : List ℕ). place start strides (at ++ i))))
      (λ k h.
      let below : k < n = omega (arith, h, count) in
      get_or-take n (drop first listed) k (pos 0) below
      ∙ get_or-drop first listed k (pos 0)
      ∙ get_or-map (place start strides) all (first + k) [] (pos 0) (omega (arith, in_list))
      ∙ ap (place start strides) (item k below ∙ ap (λ i. at ++ i) (sym (get_or-indices_in RowMajor back k [] below)))
      ∙ sym (get_or-map (λ i. place start strides (at ++ i)) inner k [] (pos 0) (omega (arith, long))))
