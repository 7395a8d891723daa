-- Laws of the windows of a view: where each of their indices lies.
use Rattle.std.proofs.Common.{◌≡◌, ℕ, ◌*◌, ℤ, pos, negsuc, ◌*ℤ◌, true, Option, None, List, [], ◌∷◌, ◌++◌, length, map}
use Rattle.std.proofs.Common.{take, drop, refl, sym, ap, ◌∙◌, arith, mul-one}
use Rattle.std.proofs.lemmas.Int.{ints}
use Rattle.std.proofs.lemmas.List.{drop_at, length-append, length-map, length-take-le, take_at}
use Rattle.std.proofs.lemmas.List.Elements.{All-weaker}
use Rattle.nd_base.specs.Elementwise.{products, sums}
use Rattle.nd_base.specs.declared.order.Order.TheVariants.{RowMajor}
use Rattle.nd_base.proofs.Laws.Definitions.{flat_index_in, indices_in, is_index, size}
use Rattle.nd_base.proofs.Laws.Indices.{All-indices_in}
use Rattle.nd_base.proofs.Laws.Lists.{map_same}
use Rattle.nd_base.proofs.Laws.IsIndex.{length_of_index}
use Rattle.ndarray_layout.specs.BlocksView.{strides_along}
use Rattle.ndarray_layout.specs.Descends.{IsViewOf}
use Rattle.ndarray_layout.specs.KeepsPlaces.{KeepsPlaces}
use Rattle.ndarray_layout.specs.View.{View, IsView, place_at, view_places}
use Rattle.ndarray_layout.specs.WindowsView.{window_count, window_counts, window_source, windows_fault, windows_of}
use Rattle.ndarray_layout.proofs.BlockSteps.{AreBlocks, IsViewOf-blocks, is_index-joined, length-elementwise}
use Rattle.ndarray_layout.proofs.Laws.BlocksView.{CanTakeBlocks, can_take_blocks}
use Rattle.ndarray_layout.proofs.Laws.KeepsPlaces.{IsViewOf-told}
use Rattle.ndarray_layout.proofs.Laws.RowMajor.{places-joined}

-- ---- windows are blocks at steps of 1
abbrev one : ℕ → ℕ
one size = 1

abbrev own : ℕ → ℕ → ℤ → ℤ
own len size stride = stride

once : (stride : ℤ) → stride ≡ pos 1 *ℤ stride
once (pos s) = omega (arith, ints)
once (negsuc s) = omega (arith, ints)

are_blocks : AreBlocks window_count one own
are_blocks = record {
  within = λ len size some more. omega arith;
  stride = λ len size stride more. once stride;
}

own_strides : (shape window : List ℕ) (strides : List ℤ) → length window ≡ length shape → length shape ≡ length strides
    → strides_along own shape window strides ≡ strides
own_strides [] [] [] e g = refl
own_strides [] [] (stride ∷ strides) e g = absurd (omega arith)
own_strides [] (size ∷ window) strides e g = absurd (omega arith)
own_strides (len ∷ shape) [] strides e g = absurd (omega arith)
own_strides (len ∷ shape) (size ∷ window) [] e g = absurd (omega arith)
own_strides (len ∷ shape) (size ∷ window) (stride ∷ strides) e g =
    ap (λ rest. stride ∷ rest) (own_strides shape window strides (omega arith) (omega arith))

steps_of_one : (index window : List ℕ) → length index ≡ length window → products index (map one window) ≡ index
steps_of_one [] [] e = refl
steps_of_one [] (size ∷ window) e = absurd (omega arith)
steps_of_one (i ∷ index) [] e = absurd (omega arith)
steps_of_one (i ∷ index) (size ∷ window) e =
    ap (λ j. j ∷ products index (map one window)) (mul-one i) ∙ ap (λ rest. i ∷ rest) (steps_of_one index window (omega arith))

-- an index in a window stands for the sum of both
source_joined : (at inner : List ℕ) (n : ℕ) → length at ≡ n → window_source n (at ++ inner) ≡ sums at inner
source_joined at inner n long =
    ap (λ front. sums front (drop n (at ++ inner))) (take_at at inner n long) ∙ ap (λ back. sums at back) (drop_at at inner n long)

module _ (fixed : Option ℕ) (window : List ℕ) {view : View} (v : IsView view) (none : windows_fault fixed view.shape window ≡ None) where
  can : CanTakeBlocks fixed view.shape (window_counts view.shape window) window
  can = can_take_blocks fixed view.shape (window_counts view.shape window) window none

  -- the windows are a view of the same data, where each index has the place of the index that it stands for
  pub IsViewOf-windows_of : IsViewOf (window_source (length view.shape)) view (windows_of window view)
  IsViewOf-windows_of =
      let blocks = IsViewOf-blocks window_count one own are_blocks view v window can.same_count can.size_fits in
      IsViewOf-told (rw (own_strides view.shape window view.strides can.same_count v.valid.same_count) at blocks) (λ index here.
      let count = length-map window one in
      let long = length_of_index (window_counts view.shape window ++ window) index here in
      let same = length-elementwise window_count view.shape window (sym can.same_count) in
      let outer : length (take (length view.shape) index) ≡ length window =
      length-take-le (length view.shape) index (omega (arith, long, same, length-append (window_counts view.shape window) window))
      ∙ sym can.same_count in
      rw (count, can.same_count, steps_of_one (take (length view.shape) index) window outer) refl)

  -- index `inner` in the window at index `at` is index `at + inner` of the view
  pub place_in_window : (at inner : List ℕ) → is_index (window_counts view.shape window) at ≡ true → is_index window inner ≡ true
      → (is_index view.shape (sums at inner) ≡ true) × (place_at (windows_of window view) (at ++ inner) ≡ place_at view (sums at inner))
  place_in_window at inner here inside =
      let n = length view.shape in
      let kept = IsViewOf-windows_of.places (at ++ inner) (is_index-joined (window_counts view.shape window) window at inner here inside) in
      let long : length at ≡ n = length_of_index (window_counts view.shape window) at here
      ∙ length-elementwise window_count view.shape window (sym can.same_count) in
      let same = source_joined at inner n long in
      (ap (is_index view.shape) (sym same) ∙ kept.0, kept.1 ∙ ap (place_at view) same)

-- in row-major order the places of a window follow one another: so many times its size come before as its flat index tells
pub places_of_window : (window : List ℕ) (view : View) (at : List ℕ)
    → KeepsPlaces (window_source (length view.shape)) view (windows_of window view) → length at ≡ length view.shape
    → is_index (window_counts view.shape window) at ≡ true
    → take (size window) (drop (flat_index_in RowMajor (window_counts view.shape window) at * size window)
    (view_places RowMajor (windows_of window view)))
    ≡ map (λ inner. place_at view (sums at inner)) (indices_in RowMajor window)
places_of_window window view at kept long here =
    let new = windows_of window view in
    let counts = window_counts view.shape window in
    places-joined new.start new.strides counts window at here
    ∙ map_same (λ inner. place_at new (at ++ inner)) (λ inner. place_at view (sums at inner)) (indices_in RowMajor window)
    (All-weaker (λ inner. is_index window inner ≡ true) (λ inner. place_at new (at ++ inner) ≡ place_at view (sums at inner))
    (λ inner inside. (kept (at ++ inner) (is_index-joined counts window at inner here inside)).1
    ∙ ap (place_at view) (source_joined at inner (length view.shape) long))
    (indices_in RowMajor window) (All-indices_in RowMajor window))
