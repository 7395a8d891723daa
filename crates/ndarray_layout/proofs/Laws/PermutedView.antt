-- Laws of views whose axes stand in another order: they have the places of the view, and each index has its source.
use Rattle.std.proofs.Common.{◌≡◌, ℕ, ◌<◌, ℤ, pos, ◌+ℤ◌, ◌*ℤ◌, true, cond, None, Some, List}
use Rattle.std.proofs.Common.{[], ◌∷◌, length, map, reverse, get_or, set, refl, sym, ap, subst, ◌∙◌, inl, inr, arith}
use Rattle.std.specs.Prelude.{◌&&◌, max, nat_lt}
use Rattle.std.specs.List.{All, swap}
use Rattle.std.proofs.Math.ListN.{get_or-map as get_or-map_same}
use Rattle.std.proofs.lemmas.Int.{ints}
use Rattle.std.proofs.lemmas.Bool.{and_from, and_parts, cases_eq, lt-ltb, ltb-true}
use Rattle.std.proofs.lemmas.List.{get_or_default, ext_get_or, get_or-map, length-map, length-reverse, map-set, reverse-reverse}
use Rattle.std.proofs.lemmas.List.Elements.{All-weaker}
use Rattle.std.proofs.lemmas.Simd.{map-map}
use Rattle.std.proofs.lemmas.List.Edits.{length-swap, swap_is, swapped_from_swap}
use Rattle.std.proofs.lemmas.List.FromFn.{length-range_with_len}
use Rattle.std.proofs.lemmas.List.Sorted.{IsPermutation-swap}
use Rattle.nd_base.specs.declared.error.ErrorKind.TheVariants.{IncompatibleShape, OutOfBounds}
use Rattle.nd_base.specs.declared.order.Order.TheVariants.{RowMajor, ColumnMajor}
use Rattle.nd_base.specs.Indices.{below, indices, is_index}
use Rattle.nd_base.specs.Offset.{offset_of}
use Rattle.nd_base.specs.Signed.{signed, all_signed}
use Rattle.nd_base.proofs.Laws.IsIndex.{coordinate_of_index, is_index-reverse, is_index_from_coordinates, length_of_index}
use Rattle.nd_base.proofs.Laws.Indices.{All-indices_in}
use Rattle.nd_base.proofs.Laws.Lists.{map-reverse, map_same}
use Rattle.nd_base.proofs.Laws.Offset.{offset_of-reverse}
use Rattle.nd_dim.specs.AxesInOrder.{reordered, is_axis_order, inverse_order}
use Rattle.nd_dim.proofs.Laws.AxesInOrder.{axis_found, get_or_map_at, position_of}
use Rattle.nd_dim.proofs.Laws.AxesInOrder.{in_own_order, length-inverse_order, length_of_order, order_of_permutation, total}
use Rattle.nd_dim.proofs.Laws.AxesInOrder.{total_in_order, undone_by_inverse, undone_by_order}
use Rattle.ndarray_layout.specs.Descends.{Descends}
use Rattle.ndarray_layout.specs.PermutedView.{permute_fault, permuted_of, permute_source, reversed_of, swap_fault, swapped_of}
use Rattle.ndarray_layout.specs.View.{View, IsView, place_at, view_places}
use Rattle.ndarray_layout.proofs.Passed.{passed}
use Rattle.ndarray_layout.proofs.Laws.Sources.{Descends-from_start, at_least}

-- ---- the transpose
offset_reversed : (strides : List ℤ) (index : List ℕ) → length strides ≡ length index
    → offset_of (reverse strides) index ≡ offset_of strides (reverse index)
offset_reversed strides index e =
    sym (ap (offset_of (reverse strides)) (reverse-reverse index))
    ∙ offset_of-reverse strides (reverse index) (omega (arith, length-reverse index))

pub Descends-reversed_of : (view : View) → IsView view → Descends reverse view (reversed_of view)
Descends-reversed_of view v = Descends-from_start v (record {
  sources = record {
    counts = length-reverse view.shape ∙ v.valid.same_count ∙ sym (length-reverse view.strides);
    within = λ least index few here.
        sym (is_index-reverse (at_least least view.shape) (reverse index))
        ∙ ap (is_index (reverse (at_least least view.shape))) (reverse-reverse index)
        ∙ rw (map-reverse (max least) view.shape) at here;
    offset = λ index here.
        let long = length_of_index (at_least 1 (reverse view.shape)) index here in
        let count = length-map (reverse view.shape) (max 1) in
        omega (
          arith,
          ints,
          offset_reversed view.strides index (omega (arith, long, count, length-reverse view.shape, v.valid.same_count)),
        );
  };
  apart = λ index other here there same. sym (reverse-reverse index) ∙ ap reverse same ∙ reverse-reverse other;
})

-- transposed twice it is the view
pub reversed_twice : (view : View) → reversed_of (reversed_of view) ≡ view
reversed_twice view =
    ap (λ shape. record { start = view.start; shape = shape; strides = reverse (reverse view.strides) }) (reverse-reverse view.shape)
    ∙ ap (λ strides. record { start = view.start; shape = view.shape; strides = strides }) (reverse-reverse view.strides)

-- its places by rows are those of the view by columns
pub places_of_transpose : (view : View) → length view.shape ≡ length view.strides
    → view_places RowMajor (reversed_of view) ≡ view_places ColumnMajor view
places_of_transpose view count =
    let turned = indices (reverse view.shape) in
    let same : All (λ index. place_at (reversed_of view) index ≡ place_at view (reverse index)) turned =
    All-weaker (λ index. is_index (reverse view.shape) index ≡ true)
    (λ index. place_at (reversed_of view) index ≡ place_at view (reverse index))
    (λ index here. ap (λ offset. pos view.start +ℤ offset) (offset_reversed view.strides index
    (sym count ∙ sym (length-reverse view.shape) ∙ sym (length_of_index (reverse view.shape) index here)))) turned
    (All-indices_in RowMajor (reverse view.shape)) in
    map_same (place_at (reversed_of view)) (λ index. place_at view (reverse index)) turned same
    ∙ sym (map-map (place_at view) reverse turned)

-- ---- all axes in an order
-- what folds over the axes of lists in an order
offset_turns : (x y z : ℤ) → x +ℤ (y +ℤ z) ≡ y +ℤ (x +ℤ z)
offset_turns x y z = omega (arith, ints)

abbrev offsets_total : List ℤ → List ℕ → List ℕ → ℤ
offsets_total strides index =
    total {A = ℤ} (λ x y. x +ℤ y) (pos 0) offset_turns (λ axis. pos (get_or index axis 0) *ℤ get_or strides axis (pos 0))

offsets_in_order : (strides : List ℤ) (index axes : List ℕ)
    → offset_of (reordered (pos 0) axes strides) (reordered 0 axes index) ≡ offsets_total strides index axes
offsets_in_order strides index [] = refl
offsets_in_order strides index (axis ∷ axes) =
    ap (λ rest. (pos (get_or index axis 0) *ℤ get_or strides axis (pos 0)) +ℤ rest) (offsets_in_order strides index axes)

own : {X : Type 0} (otherwise : X) (n : ℕ) (items : List X) → length items ≡ n → reordered otherwise (below n) items ≡ items
own otherwise n items count = subst (λ m. reordered otherwise (below m) items ≡ items) count (in_own_order otherwise items)

-- a source of indices that the order takes back to them
abbrev pub TakenBack : ℕ → List ℕ → (List ℕ → List ℕ) → Type 0
TakenBack n axes source = (index : List ℕ) → length index ≡ n → (length (source index) ≡ n) × (reordered 0 axes (source index) ≡ index)

-- a function of each item may come first
map-in_order : {X Y : Type 0} (f : X → Y) (otherwise : X) (axes : List ℕ) (items : List X)
    → map f (reordered otherwise axes items) ≡ reordered (f otherwise) axes (map f items)
map-in_order f otherwise [] items = refl
map-in_order f otherwise (axis ∷ axes) items =
    ap (λ item. item ∷ map f (reordered otherwise axes items)) (sym (get_or-map_same f items axis otherwise))
    ∙ ap (λ rest. get_or (map f items) axis (f otherwise) ∷ rest) (map-in_order f otherwise axes items)

-- so strides are read as signed before or after
pub signed_in_order : (axes strides : List ℕ) → all_signed (reordered 0 axes strides) ≡ reordered (pos 0) axes (all_signed strides)
signed_in_order axes strides = map-in_order signed 0 axes strides

module _ (n : ℕ) (axes : List ℕ) (order : is_axis_order n axes ≡ true) (source : List ℕ → List ℕ) (back : TakenBack n axes source) where
  is_index-source : (otherwise : ℕ) (shape index : List ℕ) → length shape ≡ n → is_index (reordered otherwise axes shape) index ≡ true
      → length index ≡ n → is_index shape (source index) ≡ true
  is_index-source otherwise shape index count here long =
      let taken = back index long in
      is_index_from_coordinates shape (source index) (taken.0 ∙ sym count) (λ axis h.
      let found = axis_found n axes order axis (omega arith) in
      let at = position_of axis axes in
      let many : length (reordered otherwise axes shape) ≡ length axes = length-map axes (λ a. get_or shape a otherwise) in
      let below = coordinate_of_index (reordered otherwise axes shape) index at here (omega (arith, found.0)) in
      let mine : get_or index at 0 ≡ get_or (source index) axis 0 =
      ap (λ xs. get_or xs at 0) (sym taken.1) ∙ get_or_map_at axes (source index) at 0 found.0
      ∙ ap (λ a. get_or (source index) a 0) found.1 in
      let its : get_or (reordered otherwise axes shape) at 0 ≡ get_or shape axis 0 =
      get_or-map (λ a. get_or shape a otherwise) axes at 0 0 found.0 ∙ ap (λ a. get_or shape a otherwise) found.1
      ∙ get_or_default shape axis otherwise 0 h in
      omega arith)

  offset_of_source : (strides : List ℤ) (index : List ℕ) → length strides ≡ n → length index ≡ n
      → offset_of (reordered (pos 0) axes strides) index ≡ offset_of strides (source index)
  offset_of_source strides index count long =
      let taken = back index long in
      sym (ap (offset_of (reordered (pos 0) axes strides)) taken.1)
      ∙ offsets_in_order strides (source index) axes
      ∙ sym (total_in_order n axes order (λ x y. x +ℤ y) (pos 0) offset_turns
      (λ axis. pos (get_or (source index) axis 0) *ℤ get_or strides axis (pos 0)))
      ∙ sym (offsets_in_order strides (source index) (below n))
      ∙ ap (λ all. offset_of all (reordered 0 (below n) (source index))) (own (pos 0) n strides count)
      ∙ ap (offset_of strides) (own 0 n (source index) taken.0)

-- a view with its axes in an order, whatever tells the sources of its indices
module _ (axes : List ℕ) (view : View) (v : IsView view) (order : is_axis_order (length view.shape) axes ≡ true)
    (source : List ℕ → List ℕ) (back : TakenBack (length view.shape) axes source) where
  abbrev n : ℕ
  n = length view.shape

  long_index : (least : ℕ) (index : List ℕ) → is_index (at_least least (reordered 0 axes view.shape)) index ≡ true → length index ≡ n
  long_index least index here =
      length_of_index (at_least least (reordered 0 axes view.shape)) index here ∙ length-map (reordered 0 axes view.shape) (max least)
      ∙ length-map axes (λ axis. get_or view.shape axis 0) ∙ length_of_order n axes order

  Descends-in_order : Descends source view (permuted_of axes view)
  Descends-in_order = Descends-from_start v (record {
    sources = record {
      counts = length-map axes (λ axis. get_or view.shape axis 0) ∙ sym (length-map axes (λ axis. get_or view.strides axis (pos 0)));
      within = λ least index few here.
          is_index-source n axes order source back (max least 0) (at_least least view.shape) index (length-map view.shape (max least))
          (rw (map-in_order (max least) 0 axes view.shape) at here) (long_index least index here);
      offset = λ index here. omega (
        arith,
        ints,
        offset_of_source n axes order source back view.strides index (sym v.valid.same_count) (long_index 1 index here),
      );
    };
    apart = λ index other here there same.
        sym (back index (long_index 1 index here)).1 ∙ ap (reordered 0 axes) same ∙ (back other (long_index 1 other there)).1;
  })

pub order_of_no_fault : (shape axes : List ℕ) → permute_fault shape axes ≡ None → is_axis_order (length shape) axes ≡ true
order_of_no_fault shape axes none = passed IncompatibleShape (is_axis_order (length shape) axes) none

pub no_fault_of_order : (shape axes : List ℕ) → is_axis_order (length shape) axes ≡ true → permute_fault shape axes ≡ None
no_fault_of_order shape axes order = ap (λ fits. cond fits None (Some IncompatibleShape)) order

-- a view with its axes in an order
pub Descends-permuted_of : (axes : List ℕ) (view : View) → IsView view → permute_fault view.shape axes ≡ None
    → Descends (permute_source axes) view (permuted_of axes view)
Descends-permuted_of axes view v none =
    let order = order_of_no_fault view.shape axes none in
    let n = length view.shape in
    Descends-in_order axes view v order (permute_source axes) (λ index long. (
      length-map (inverse_order axes) (λ axis. get_or index axis 0)
          ∙ length-inverse_order n axes order,
      undone_by_order n axes order 0 index long,
    ))

-- an order and its inverse undo one another
pub permuted_back : (axes : List ℕ) (view : View) → length view.shape ≡ length view.strides → permute_fault view.shape axes ≡ None
    → permuted_of (inverse_order axes) (permuted_of axes view) ≡ view
permuted_back axes view count none =
    let order = order_of_no_fault view.shape axes none in
    let n = length view.shape in
    ap (λ shape. record {
      start = view.start;
      shape = shape;
      strides =
          reordered (pos 0) (inverse_order axes) (reordered (pos 0) axes view.strides);
    })
    (undone_by_inverse n axes order 0 view.shape refl)
    ∙ ap (λ strides. record { start = view.start; shape = view.shape; strides = strides })
    (undone_by_inverse n axes order (pos 0) view.strides (sym count))

-- ---- two axes
pub axes_of_no_fault : (shape : List ℕ) (axis other : ℕ) → swap_fault shape axis other ≡ None
    → (axis < length shape) × (other < length shape)
axes_of_no_fault shape axis other none =
    let parts = and_parts (nat_lt axis (length shape)) (nat_lt other (length shape))
    (passed OutOfBounds (nat_lt axis (length shape) && nat_lt other (length shape)) none) in
    (ltb-true axis (length shape) parts.0, ltb-true other (length shape) parts.1)

pub no_fault_of_axes : (shape : List ℕ) (axis other : ℕ) → axis < length shape → other < length shape → swap_fault shape axis other ≡ None
no_fault_of_axes shape axis other first second =
    ap (λ there. cond there None (Some OutOfBounds))
    (and_from (nat_lt axis (length shape)) (nat_lt other (length shape)) (lt-ltb axis (length shape) first)
    (lt-ltb other (length shape) second))

-- exchanged twice they are as they were
swap_twice : {X : Type 0} (d : X) (xs : List X) (a b : ℕ) → a < length xs → b < length xs → swap (swap xs a b) a b ≡ xs
swap_twice d xs a b p q =
    let ys = swap xs a b in
    let zs = swap ys a b in
    let first = swapped_from_swap xs ys a b d p q refl in
    let second = swapped_from_swap ys zs a b d (omega (arith, length-swap xs a b)) (omega (arith, length-swap xs a b)) refl in
    ext_get_or d zs xs (length-swap ys a b ∙ length-swap xs a b) (λ k in_bounds. elim (cases_eq k a) [
      | inl at ↦ ap (λ i. get_or zs i d) at ∙ second.0 ∙ first.1 ∙ ap (λ i. get_or xs i d) (sym at)
      | inr not_at ↦ elim (cases_eq k b) [
        | inl at ↦ ap (λ i. get_or zs i d) at ∙ second.1 ∙ first.0 ∙ ap (λ i. get_or xs i d) (sym at)
        | inr nor ↦ second.2 k not_at nor ∙ first.2 k not_at nor
      ]
    ])

pub map-swap : {X Y : Type 0} (f : X → Y) (d : X) (xs : List X) (a b : ℕ) → a < length xs → b < length xs
    → map f (swap xs a b) ≡ swap (map f xs) a b
map-swap f d xs a b p q =
    ap (map f) (sym (swap_is xs a b d p q))
    ∙ map-set f (set xs a (get_or xs b d)) b (get_or xs a d)
    ∙ ap (λ ys. set ys b (f (get_or xs a d))) (map-set f xs a (get_or xs b d))
    ∙ ap (λ y. set (set (map f xs) a y) b (f (get_or xs a d))) (sym (get_or-map f xs b d (f d) q))
    ∙ ap (λ y. set (set (map f xs) a (get_or (map f xs) b (f d))) b y) (sym (get_or-map f xs a d (f d) p))
    ∙ swap_is (map f xs) a b (f d) (omega (arith, length-map xs f)) (omega (arith, length-map xs f))

-- two exchanged axes are an order of all
module _ (n axis other : ℕ) (first : axis < n) (second : other < n) where
  abbrev exchanged : List ℕ
  exchanged = swap (below n) axis other

  in_range : (k : ℕ) → k < n → k < length (below n)
  in_range k h = omega (arith, length-range_with_len 0 n)

  exchanged_order : is_axis_order n exchanged ≡ true
  exchanged_order = order_of_permutation n exchanged
      (IsPermutation-swap (below n) exchanged axis other (in_range axis first) (in_range other second) refl)

  reordered-exchanged : {X : Type 0} (otherwise : X) (items : List X) → length items ≡ n
      → reordered otherwise exchanged items ≡ swap items axis other
  reordered-exchanged otherwise items count =
      map-swap (λ a. get_or items a otherwise) 0 (below n) axis other (in_range axis first) (in_range other second)
      ∙ ap (λ xs. swap xs axis other) (own otherwise n items count)

pub Descends-swapped_of : (axis other : ℕ) (view : View) → IsView view → swap_fault view.shape axis other ≡ None
    → Descends (λ index. swap index axis other) view (swapped_of axis other view)
Descends-swapped_of axis other view v none =
    let n = length view.shape in
    let there = axes_of_no_fault view.shape axis other none in
    let axes = exchanged n axis other there.0 there.1 in
    rw (
      reordered-exchanged n axis other there.0 there.1 0 view.shape refl,
      reordered-exchanged n axis other there.0 there.1 (pos 0) view.strides (sym v.valid.same_count),
    ) at (Descends-in_order axes view v (exchanged_order n axis other there.0 there.1) (λ index. swap index axis other) (λ index long. (
      length-swap index axis other ∙ long,
      reordered-exchanged n axis other there.0 there.1 0 (swap index axis other) (length-swap index axis other ∙ long)
          ∙ swap_twice 0 index axis other (omega (arith, there.0)) (omega (arith, there.1)),
    )))
