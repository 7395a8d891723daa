-- A slice that is moved by an index fits the shape, and lies by the offset of that index further on.
use Rattle.std.proofs.Common.{◌≡◌, ℕ, zero, suc, ◌+◌, ◌*◌, ◌-◌, ◌<◌, ℤ, pos, negsuc, ◌+ℤ◌, ◌*ℤ◌, true, max}
use Rattle.std.proofs.Common.{Option, Some, None, List, [], ◌∷◌, length, get_or, map, refl, sym, ap, ◌∙◌, arith}
use Rattle.std.specs.Prelude.{nat_lt}
use Rattle.std.proofs.lemmas.Bool.{and_from, and_parts, eq-eqb, le-leb, lt-ltb, ltb-true}
use Rattle.std.proofs.lemmas.Int.{ints}
use Rattle.std.proofs.lemmas.Simd.{map-map}
use Rattle.std.specs.Int.{div_ceil}
use Rattle.std.specs.Option.{option_or}
use Rattle.ndarray_layout.specs.declared.ErrorKind.{ErrorKind}
use Rattle.ndarray_layout.specs.declared.Fit.TheVariants.{Strict}
use Rattle.ndarray_layout.specs.declared.Order.TheVariants.{RowMajor}
use Rattle.ndarray_layout.specs.declared.Slice.{Slice}
use Rattle.ndarray_layout.specs.declared.SliceInfoElem.{SliceInfoElem}
use Rattle.ndarray_layout.specs.declared.SliceInfoElem.TheVariants as elem
use Rattle.ndarray_layout.specs.AxisFault.{IndexFits, SliceFits, index_fault, slice_fault}
use Rattle.ndarray_layout.specs.Indices.{indices_in, is_index}
use Rattle.ndarray_layout.specs.Offset.{offset_of}
use Rattle.ndarray_layout.specs.Picks.{between, picks}
use Rattle.ndarray_layout.specs.Place.{place, places}
use Rattle.ndarray_layout.specs.Signed.{magnitude}
use Rattle.ndarray_layout.specs.Size.{size}
use Rattle.ndarray_layout.specs.SliceBounds.{end_meaning, meaning, slice_with, start_meaning}
use Rattle.ndarray_layout.specs.SliceFault.{argument_fault, first_fault, in_count}
use Rattle.ndarray_layout.specs.SlicedAxis.{first_offset, picked_stride}
use Rattle.ndarray_layout.specs.SlicedLayout.{sliced_offset, sliced_shape, sliced_strides}
use Rattle.ndarray_layout.specs.SlicedView.{slice_of}
use Rattle.ndarray_layout.specs.View.{IsView, View, view_places}
use Rattle.ndarray_layout.proofs.Laws.AxisFault.{coordinate_below, end_below, no_fault_of_fits, start_below, step_moves}
use Rattle.ndarray_layout.proofs.Laws.Between.{between_within, length-between, pick_down, pick_up}
use Rattle.ndarray_layout.proofs.Laws.Lists.{map_same}
use Rattle.ndarray_layout.proofs.Laws.SliceFault.{elements_of_no_fault, index_of_no_fault, slice_of_no_fault}
use Rattle.ndarray_layout.proofs.Laws.SlicedView.{start-slice_of}
use Rattle.ndarray_layout.proofs.Laws.Times.{times_sum}
use Rattle.ndarray_layout.proofs.Laws.View.{no_places}
use Rattle.nd_owned.specs.Moved.{moved, moves, moves_along}
use Rattle.nd_owned.specs.private.MovedRows.{IsOffset}

-- ---- what a range picks, so many coordinates further on
module _ (step : ℤ) (start stop end by : ℕ) (moves_on : 0 < magnitude step) (same : stop ≡ max start end) where
  pub as_many : length (between step (start + by) (stop + by)) ≡ length (between step start end)
  as_many =
      let count : stop + by - (start + by) ≡ end - start = omega arith in
      length-between step (start + by) (stop + by) moves_on
      ∙ ap (λ n. div_ceil n (magnitude step)) count
      ∙ sym (length-between step start end moves_on)

first_further : (step : ℤ) (start stop end by : ℕ) → 0 < magnitude step → stop ≡ max start end → 0 < length (between step start end)
    → get_or (between step (start + by) (stop + by)) 0 0 ≡ get_or (between step start end) 0 0 + by
first_further (pos k) start stop end by moves_on same some =
    omega (
      arith,
      pick_up k (start + by) (stop + by) 0 moves_on (omega (arith, as_many (pos k) start stop end by moves_on same)),
      pick_up k start end 0 moves_on some,
    )
first_further (negsuc k) start stop end by moves_on same some =
    omega (
      arith,
      pick_down k (start + by) (stop + by) 0 (omega (arith, as_many (negsuc k) start stop end by moves_on same)),
      pick_down k start end 0 some,
      between_within (negsuc k) start end 0 moves_on some,
    )

first_at : (picks : List ℕ) (stride : ℤ) → 0 < length picks → first_offset picks stride ≡ pos (get_or picks 0 0) *ℤ stride
first_at [] stride some = absurd (omega arith)
first_at (pick ∷ picks) stride some = refl

-- ---- a slice, moved
module _ (len by : ℕ) (start : ℤ) (end : Option ℤ) (step : ℤ) (fits : SliceFits Strict len (slice_with start end step))
    (below : by < moves_along (len, elem.Slice start end step)) where
  abbrev old : Slice
  old = slice_with start end step

  abbrev first : ℕ
  first = magnitude (start_meaning Strict len old)

  abbrev last : ℕ
  last = magnitude (end_meaning Strict len old)

  abbrev new : Slice
  new = slice_with (pos (first + by)) (Some (pos (max first last + by))) step

  moves_on : 0 < magnitude step
  moves_on = step_moves Strict len old fits

  new_fits : slice_fault Strict len new ≡ None
  new_fits =
      let starts = start_below Strict len old fits in
      let ends = end_below Strict len old fits in
      no_fault_of_fits Strict len new (record {
        start_within = le-leb (first + by) len (omega (arith, starts, ends, below));
        end_within = le-leb (max first last + by) len (omega (arith, starts, ends, below));
        step_moves = fits.step_moves;
      })

  by_below : 0 < length (picks Strict len old) → by < len
  by_below some =
      let under : by < len - max first last + 1 = below in
      omega (
        arith,
        under,
        start_below Strict len old fits,
        end_below Strict len old fits,
        between_within step first last 0 moves_on some,
      )

  new_count : length (picks Strict len new) ≡ length (picks Strict len old)
  new_count = as_many step first (max first last) last by moves_on refl

  new_offset : (stride : ℤ) → 0 < length (picks Strict len old)
      → first_offset (picks Strict len new) stride ≡ first_offset (picks Strict len old) stride +ℤ (pos by *ℤ stride)
  new_offset stride some =
      first_at (picks Strict len new) stride (omega (arith, new_count))
      ∙ ap (λ n. pos n *ℤ stride) (first_further step first (max first last) last by moves_on refl some)
      ∙ times_sum (get_or (picks Strict len old) 0 0) by stride
      ∙ ap (λ z. z +ℤ (pos by *ℤ stride)) (sym (first_at (picks Strict len old) stride some))

-- ---- an index, moved
module _ (len by : ℕ) (index : ℤ) (fits : IndexFits len index) (below : by < moves_along (len, elem.Index index)) where
  index_fits : index_fault len (pos (magnitude (meaning len index) + by)) ≡ None
  index_fits =
      let coordinate = magnitude (meaning len index) in
      let within : coordinate + by < len = omega (arith, below, (coordinate_below len index fits).1) in
      rw (lt-ltb (coordinate + by) len within) refl

  index_offset : (stride : ℤ) → meaning len (pos (magnitude (meaning len index) + by)) *ℤ stride
      ≡ (meaning len index *ℤ stride) +ℤ (pos by *ℤ stride)
  index_offset stride =
      times_sum (magnitude (meaning len index)) by stride
      ∙ ap (λ z. (z *ℤ stride) +ℤ (pos by *ℤ stride)) (sym (coordinate_below len index fits).0)

-- ---- an argument, moved
-- what one that fits is then
pub record MovesTo (elems others : List SliceInfoElem) (shape index : List ℕ) (steps : List ℤ) : Type 0 where
  pub count : in_count others ≡ in_count elems
  pub fits : first_fault Strict shape others ≡ None
  pub lens : sliced_shape Strict others shape ≡ sliced_shape Strict elems shape
  pub strides : sliced_strides Strict others shape steps ≡ sliced_strides Strict elems shape steps
  pub here : 0 < size (sliced_shape Strict elems shape) → is_index shape index ≡ true
  pub offset : 0 < size (sliced_shape Strict elems shape)
      → sliced_offset Strict others shape steps ≡ sliced_offset Strict elems shape steps +ℤ offset_of steps index

of_product : (a b : ℕ) → 0 < a * b → (0 < a) × (0 < b)
of_product zero b some = absurd (omega (arith, some))
of_product (suc a) zero some = absurd (omega (arith, some))
of_product (suc a) (suc b) some = (omega arith, omega arith)

none_else : {fault : Option ErrorKind} (others : Option ErrorKind) → fault ≡ None → others ≡ None → option_or fault others ≡ None
none_else others first second = ap (λ fault. option_or fault others) first ∙ second

moves_to : (elems : List SliceInfoElem) (shape index : List ℕ) (strides : List ℤ) → in_count elems ≡ length shape
    → first_fault Strict shape elems ≡ None → length shape ≡ length strides → is_index (moves elems shape) index ≡ true
    → MovesTo elems (moved shape index elems) shape index strides
moves_to [] [] [] strides counts none same here =
    record { count = refl; fits = refl; lens = refl; strides = refl; here = λ some. refl; offset = λ some. refl }
moves_to [] [] (by ∷ index) strides counts none same here = absurd (cc)
moves_to [] (len ∷ shape) index strides counts none same here = absurd (omega (arith, counts))
moves_to (elem.NewAxis ∷ elems) shape index strides counts none same here =
    let others = moves_to elems shape index strides counts none same here in
    record {
      count = others.count;
      fits = others.fits;
      lens = ap (λ lens. 1 ∷ lens) others.lens;
      strides = ap (λ strides. pos 0 ∷ strides) others.strides;
      here = λ some. others.here (of_product 1 (size (sliced_shape Strict elems shape)) some).1;
      offset = λ some. others.offset (of_product 1 (size (sliced_shape Strict elems shape)) some).1;
    }
moves_to (elem.Slice start end step ∷ elems) [] index strides counts none same here = absurd (omega (arith, counts))
moves_to (elem.Slice start end step ∷ elems) (len ∷ shape) [] strides counts none same here = absurd (cc)
moves_to (elem.Slice start end step ∷ elems) (len ∷ shape) (by ∷ index) [] counts none same here = absurd (omega (arith, same))
moves_to (elem.Slice start end step ∷ elems) (len ∷ shape) (by ∷ index) (stride ∷ strides) counts none same here =
    let parts = slice_of_no_fault Strict len shape (slice_with start end step) elems none in
    let split = and_parts (nat_lt by (moves_along (len, elem.Slice start end step))) (is_index (moves elems shape) index) here in
    let below = ltb-true by (moves_along (len, elem.Slice start end step)) split.0 in
    let others = moves_to elems shape index strides (omega (arith, counts)) parts.1 (omega (arith, same)) split.1 in
    let count = new_count len by start end step parts.0 below in
    let picked = length (picks Strict len (slice_with start end step)) in
    record {
      count = ap (λ n. 1 + n) others.count;
      fits = none_else (first_fault Strict shape (moved shape index elems)) (new_fits len by start end step parts.0 below) others.fits;
      lens = ap (λ n. n ∷ sliced_shape Strict (moved shape index elems) shape) count ∙ ap (λ lens. picked ∷ lens) others.lens;
      strides = ap (λ n. picked_stride n stride step ∷ sliced_strides Strict (moved shape index elems) shape strides) count
          ∙ ap (λ strides. picked_stride picked stride step ∷ strides) others.strides;
      here = λ some.
          let each = of_product picked (size (sliced_shape Strict elems shape)) some in
          and_from (nat_lt by len) (is_index shape index) (lt-ltb by len (by_below len by start end step parts.0 below each.0))
          (others.here each.1);
      offset = λ some.
          let each = of_product picked (size (sliced_shape Strict elems shape)) some in
          omega (arith, ints, new_offset len by start end step parts.0 below stride each.0, others.offset each.1);
    }
moves_to (elem.Index i ∷ elems) [] index strides counts none same here = absurd (omega (arith, counts))
moves_to (elem.Index i ∷ elems) (len ∷ shape) [] strides counts none same here = absurd (cc)
moves_to (elem.Index i ∷ elems) (len ∷ shape) (by ∷ index) [] counts none same here = absurd (omega (arith, same))
moves_to (elem.Index i ∷ elems) (len ∷ shape) (by ∷ index) (stride ∷ strides) counts none same here =
    let parts = index_of_no_fault Strict len shape i elems none in
    let split = and_parts (nat_lt by (moves_along (len, elem.Index i))) (is_index (moves elems shape) index) here in
    let below = ltb-true by (moves_along (len, elem.Index i)) split.0 in
    let others = moves_to elems shape index strides (omega (arith, counts)) parts.1 (omega (arith, same)) split.1 in
    record {
      count = ap (λ n. 1 + n) others.count;
      fits = none_else (first_fault Strict shape (moved shape index elems)) (index_fits len by i parts.0 below) others.fits;
      lens = others.lens;
      strides = others.strides;
      here = λ some.
          and_from (nat_lt by len) (is_index shape index) (lt-ltb by len (omega (arith, below, (coordinate_below len i parts.0).1)))
          (others.here some);
      offset = λ some. omega (arith, ints, index_offset len by i parts.0 below stride, others.offset some);
    }

-- ---- the slice of a view, moved
module _ (view : View) (elems : List SliceInfoElem) (index : List ℕ) (v : IsView view)
    (none : argument_fault Strict view.shape elems ≡ None)
    (here : is_index (moves elems view.shape) index ≡ true) where
  abbrev others : List SliceInfoElem
  others = moved view.shape index elems

  moving : MovesTo elems others view.shape index view.strides
  moving =
      let parts = elements_of_no_fault Strict view.shape elems none in
      moves_to elems view.shape index view.strides parts.0 parts.1 v.valid.same_count here

  -- it fits the shape
  pub moved_fits : argument_fault Strict view.shape (moved view.shape index elems) ≡ None
  moved_fits =
      let parts = elements_of_no_fault Strict view.shape elems none in
      rw (eq-eqb (in_count others) (length view.shape) (moving.count ∙ parts.0)) moving.fits

  -- and has the same shape
  pub moved_shape : sliced_shape Strict (moved view.shape index elems) view.shape ≡ sliced_shape Strict elems view.shape
  moved_shape = moving.lens

  -- where it picks something, the index is one of the shape
  pub moved_here : 0 < size (sliced_shape Strict elems view.shape) → is_index view.shape index ≡ true
  moved_here = moving.here

  -- each of its places lies as far from that of the slice
  pub moved_places : (offset : ℤ) → IsOffset (record { view = view; elems = elems }) index offset
      → view_places RowMajor (slice_of Strict (moved view.shape index elems) view)
      ≡ map (λ place. place +ℤ offset) (view_places RowMajor (slice_of Strict elems view))
  moved_places offset is = by (size (sliced_shape Strict elems view.shape)) refl
    where
      by : (n : ℕ) → size (sliced_shape Strict elems view.shape) ≡ n
          → view_places RowMajor (slice_of Strict others view)
          ≡ map (λ place. place +ℤ offset) (view_places RowMajor (slice_of Strict elems view))
      by zero empty =
          no_places RowMajor (slice_of Strict others view) (ap size moving.lens ∙ empty)
          ∙ ap (map (λ place. place +ℤ offset)) (sym (no_places RowMajor (slice_of Strict elems view) empty))
      by (suc n) some =
          let begins = start-slice_of Strict elems view v none in
          let begins_there = start-slice_of Strict others view v moved_fits in
          let start : pos (slice_of Strict others view).start ≡ pos (slice_of Strict elems view).start +ℤ offset =
          omega (arith, ints, begins, begins_there, is (omega (arith, some)), moving.offset (omega (arith, some))) in
          let lens = sliced_shape Strict elems view.shape in
          let steps = sliced_strides Strict elems view.shape view.strides in
          let indices = indices_in RowMajor lens in
          ap (λ shape. places RowMajor (slice_of Strict others view).start shape
          (sliced_strides Strict others view.shape view.strides)) moving.lens
          ∙ ap (places RowMajor (slice_of Strict others view).start lens) moving.strides
          ∙ map_same (place (slice_of Strict others view).start steps) (λ at. place (slice_of Strict elems view).start steps at +ℤ offset)
          indices (λ k d below. omega (arith, ints, start))
          ∙ sym (map-map (λ place. place +ℤ offset) (place (slice_of Strict elems view).start steps) indices)
