-- Slicing axis by axis: what is left by the elements so far, and the slice of the rest.
use Rattle.std.proofs.Common.{◌≡◌, ℕ, ◌+◌, ◌<◌, ◌≤◌, ℤ, pos, ◌+ℤ◌, ◌*ℤ◌, ◌≤ℤ◌, List, [], ◌∷◌, ◌++◌, length, get_or, take}
use Rattle.std.proofs.Common.{drop, set, None, Some, arith, refl, ap, sym, ◌∙◌, append_assoc, to_z, of_z}
use Rattle.std.specs.Prelude.{FitsSigned, max, neg_ℤ}
use Rattle.std.proofs.Math.IntN.{zero-*ℤ}
use Rattle.std.specs.Int.{w64}
use Rattle.std.specs.Option.{option_or}
use Rattle.std.proofs.lemmas.Int.{ints, to_z-of_z}
use Rattle.std.proofs.Math.ListN.{get_or-map}
use Rattle.std.proofs.lemmas.List.{map-append, length-map, length-set, length-drop, append-nil, drop_all, drop_more, take_all}
use Rattle.std.proofs.lemmas.List.{take_more_set}
use Rattle.nd_base.specs.declared.error.ErrorKind.{ErrorKind}
use Rattle.nd_base.proofs.Laws.Definitions.{all_signed, magnitude, signed, limit, high_span, low_span, reach, reach_down}
use Rattle.nd_base.proofs.Laws.Definitions.{reach_up, IsValidLayout}
use Rattle.nd_slice.specs.declared.fit.Fit.{Fit}
use Rattle.nd_slice.specs.declared.slice.Slice.{Slice}
use Rattle.nd_slice.specs.declared.elem.SliceInfoElem.{SliceInfoElem}
use Rattle.nd_slice.specs.declared.elem.SliceInfoElem.TheVariants as elem
use Rattle.nd_slice.specs.Picks.{picks}
use Rattle.nd_slice.specs.SliceBounds.{meaning}
use Rattle.nd_slice.specs.AxisFault.{slice_fault, index_fault}
use Rattle.nd_slice.specs.SliceFault.{in_count, out_count, first_fault}
use Rattle.nd_slice.specs.SlicedAxis.{picked_stride, first_offset}
use Rattle.nd_slice.specs.SlicedLayout.{sliced_shape, sliced_strides, sliced_offset}
use Rattle.nd_slice.proofs.Laws.AxisFault.{coordinate_below, fits_of_no_fault, index_fits_of_no_fault}
use Rattle.nd_base.proofs.Laws.Offset.{coordinate_bounds}
use Rattle.ndarray_layout.proofs.AxisByAxis.{AxisHasSources, lone_coordinate}
use Rattle.ndarray_layout.proofs.Slices.{picked_axis}
use Rattle.ndarray_layout.proofs.Laws.Sources.{down-at_least, up-at_least}
use Rattle.nd_base.proofs.Laws.Span.{low_high_span, reach_parts}
use Rattle.nd_base.proofs.Laws.NonzeroSize.{length_le_nonzero_size}
use Rattle.nd_base.proofs.Laws.Span.{reach_le_span}

-- rest, lens and steps are the elements, the lengths and the strides still to come
pub record SlicedSoFar (fit : Fit) (elems : List SliceInfoElem) (shape : List ℕ) (strides : List ℤ) (rest : List SliceInfoElem)
    (lens : List ℕ) (steps : List ℤ) (new : ℕ) (new_shape new_strides : List ℕ) (offset : ℤ) : Type 0 where
  pub same_count : length lens ≡ length steps
  pub counts : in_count rest ≡ length lens
  pub room : new + out_count rest ≡ length new_shape
  pub same_room : length new_strides ≡ length new_shape
  pub fault : first_fault fit lens rest ≡ first_fault fit shape elems
  pub shape_is : take new new_shape ++ sliced_shape fit rest lens ≡ sliced_shape fit elems shape
  pub strides_is : all_signed (take new new_strides) ++ sliced_strides fit rest lens steps ≡ sliced_strides fit elems shape strides
  pub offset_is : offset +ℤ sliced_offset fit rest lens steps ≡ sliced_offset fit elems shape strides
  pub low : pos (low_span lens steps) ≤ℤ (pos (low_span shape strides) +ℤ offset)
  pub high : (offset +ℤ pos (high_span lens steps)) ≤ℤ pos (high_span shape strides)

-- the state of the loop: the element k and the axis are those that come next
pub record SlicedTo (fit : Fit) (elems : List SliceInfoElem) (shape strides : List ℕ) (k axis new : ℕ) (ns nt : List ℕ)
    (offset : ℤ) : Type 0 where
  pub so_far : SlicedSoFar fit elems shape (all_signed strides) (drop k elems) (drop axis shape) (drop axis (all_signed strides)) new ns
      nt offset

-- ---- the first element, and the end
pub none_sliced : {fit : Fit} {elems : List SliceInfoElem} {shape : List ℕ} {strides : List ℤ} {ns nt : List ℕ}
    → IsValidLayout shape strides → in_count elems ≡ length shape → length ns ≡ out_count elems → length nt ≡ out_count elems
    → SlicedSoFar fit elems shape strides elems shape strides 0 ns nt (pos 0)
none_sliced valid counts room also = record {
  same_count = valid.same_count;
  counts = counts;
  room = omega (arith, room);
  same_room = omega (arith, room, also);
  fault = refl;
  shape_is = refl;
  strides_is = refl;
  offset_is = omega (arith, ints);
  low = omega (arith, ints);
  high = omega (arith, ints);
}

pub record AllSliced (fit : Fit) (elems : List SliceInfoElem) (shape : List ℕ) (strides : List ℤ) (ns nt : List ℕ) (offset : ℤ) : Type 0
  where
    pub fault : None ≡ first_fault fit shape elems
    pub shape_is : ns ≡ sliced_shape fit elems shape
    pub strides_is : all_signed nt ≡ sliced_strides fit elems shape strides
    pub offset_is : offset ≡ sliced_offset fit elems shape strides

module _ {fit : Fit} {elems : List SliceInfoElem} {shape : List ℕ} {strides : List ℤ} {ns nt : List ℕ} {offset : ℤ} where
  none_left : (lens : List ℕ) (steps : List ℤ) (new : ℕ) → SlicedSoFar fit elems shape strides [] lens steps new ns nt offset
      → AllSliced fit elems shape strides ns nt offset
  none_left [] steps new s = record {
    fault = s.fault;
    shape_is = sym (take_all new ns (omega (arith, s.room))) ∙ sym (append-nil (take new ns)) ∙ s.shape_is;
    strides_is = ap all_signed (sym (take_all new nt (omega (arith, s.room, s.same_room)))) ∙ sym (append-nil (all_signed (take new nt)))
        ∙ s.strides_is;
    offset_is = omega (arith, ints, s.offset_is);
  }
  none_left (len ∷ lens) steps new s = absurd (omega (arith, s.counts))

-- ---- the next element and the next axis
-- what is known at an element that is for an axis
pub record AtAxis (fit : Fit) (elems : List SliceInfoElem) (shape strides : List ℕ) (one : SliceInfoElem) (k axis : ℕ) (new : ℕ)
    (ns nt : List ℕ) (offset : ℤ) : Type 0 where
  pub so_far : SlicedSoFar fit elems shape (all_signed strides) (one ∷ drop (k + 1) elems) (get_or shape axis 0 ∷ drop (axis + 1) shape)
      (signed (get_or strides axis 0) ∷ drop (axis + 1) (all_signed strides)) new ns nt offset
  pub len_fits : get_or shape axis 0 ≤ limit
  pub reach_fits : reach (get_or shape axis 0) (signed (get_or strides axis 0)) ≤ limit

module _ {fit : Fit} {elems : List SliceInfoElem} {shape strides : List ℕ} {k axis new : ℕ} {ns nt : List ℕ} {offset : ℤ} where
  pub all_sliced : length elems ≤ k → SlicedTo fit elems shape strides k axis new ns nt offset
      → AllSliced fit elems shape (all_signed strides) ns nt offset
  all_sliced h s = none_left (drop axis shape) (drop axis (all_signed strides)) new (rw (drop_all k elems h) at s.so_far)

  pub at_elem : {one : SliceInfoElem} (other : SliceInfoElem) → k < length elems → get_or elems k other ≡ one
      → SlicedTo fit elems shape strides k axis new ns nt offset
      → SlicedSoFar fit elems shape (all_signed strides) (one ∷ drop (k + 1) elems) (drop axis shape) (drop axis (all_signed strides))
      new ns nt offset
  at_elem other h e s = rw (drop_more elems k other h ∙ ap (λ x. x ∷ drop (k + 1) elems) e) at s.so_far

  -- an element that is for an axis has one, and one that leaves an axis has room for it
  pub axis_there : {one : SliceInfoElem} (other : SliceInfoElem) → IsValidLayout shape (all_signed strides) → k < length elems
      → get_or elems k other ≡ one → 0 < in_count (one ∷ drop (k + 1) elems) → SlicedTo fit elems shape strides k axis new ns nt offset
      → (axis < length shape) × (axis < length strides)
  axis_there other valid h e some s =
      let here = at_elem other h e s in
      let below : axis < length shape = omega (arith, here.counts, length-drop axis shape) in
      (below, omega (arith, below, valid.same_count, length-map strides signed))

  pub room_there : {one : SliceInfoElem} (other : SliceInfoElem) → k < length elems → get_or elems k other ≡ one
      → 0 < out_count (one ∷ drop (k + 1) elems) → SlicedTo fit elems shape strides k axis new ns nt offset
      → (new < length ns) × (new < length nt)
  room_there other h e some s =
      let here = at_elem other h e s in
      (omega (arith, here.room), omega (arith, here.room, here.same_room))

  pub at_both : {one : SliceInfoElem} (other : SliceInfoElem) → IsValidLayout shape (all_signed strides) → k < length elems
      → get_or elems k other ≡ one → 0 < in_count (one ∷ drop (k + 1) elems) → SlicedTo fit elems shape strides k axis new ns nt offset
      → AtAxis fit elems shape strides one k axis new ns nt offset
  at_both {one = one} other valid h e some s =
      let left = drop (axis + 1) (all_signed strides) in
      let here = at_elem other h e s in
      let below = (axis_there other valid h e some s).0 in
      let same : get_or (all_signed strides) axis (pos 0) ≡ signed (get_or strides axis 0) = get_or-map signed strides axis 0 in
      let next : drop axis (all_signed strides) ≡ signed (get_or strides axis 0) ∷ left =
      drop_more (all_signed strides) axis (pos 0) (omega (arith, below, valid.same_count)) ∙ ap (λ z. z ∷ left) same in
      record {
        so_far = rw (drop_more shape axis 0 below, next) at here;
        len_fits = omega (arith, length_le_nonzero_size shape axis, valid.size_fits);
        reach_fits = omega (
          arith,
          ap (reach (get_or shape axis 0)) same,
          reach_le_span shape (all_signed strides) axis below valid.same_count,
          valid.span_fits,
        );
      }

-- ---- what is written
wrote_len : (new v : ℕ) (ns out : List ℕ) {whole : List ℕ} → new < length ns → take new ns ++ (v ∷ out) ≡ whole
    → take (new + 1) (set ns new v) ++ out ≡ whole
wrote_len new v ns out h e = ap (λ xs. xs ++ out) (take_more_set ns new v h) ∙ append_assoc (take new ns) (v ∷ []) out ∙ e

wrote_stride : (new v : ℕ) {z : ℤ} (nt : List ℕ) (out : List ℤ) {whole : List ℤ} → new < length nt → signed v ≡ z
    → all_signed (take new nt) ++ (z ∷ out) ≡ whole → all_signed (take (new + 1) (set nt new v)) ++ out ≡ whole
wrote_stride new v {z} nt out h s e =
    ap (λ xs. all_signed xs ++ out) (take_more_set nt new v h)
    ∙ ap (λ xs. xs ++ out) (map-append signed (take new nt) (v ∷ []))
    ∙ append_assoc (all_signed (take new nt)) (signed v ∷ []) out
    ∙ ap (λ x. all_signed (take new nt) ++ (x ∷ out)) s ∙ e

-- an axis of another one begins between the reaches of that
first_within : {source : ℕ → ℕ} {len new : ℕ} {stride moved new_stride : ℤ} → AxisHasSources source len stride moved new new_stride
    → (neg_ℤ (pos (reach_down len stride)) ≤ℤ moved) × (moved ≤ℤ pos (reach_up len stride))
first_within {source} {len} {stride = stride} {new_stride = new_stride} axis =
    let bounds = coordinate_bounds (max 1 len) stride (source 0) (axis.within 1 0 (omega arith) (omega arith)) in
    let first = axis.offset 0 (omega arith) in
    let start = zero-*ℤ new_stride in (
      omega (arith, ints, bounds.0, first, start, down-at_least len stride),
      omega (arith, ints, bounds.1, first, start, up-at_least len stride),
    )

-- ---- the steps
module _ {fit : Fit} {elems : List SliceInfoElem} {shape : List ℕ} {strides : List ℤ} {rest : List SliceInfoElem} {lens : List ℕ}
    {steps : List ℤ} {new : ℕ} {ns nt : List ℕ} {offset : ℤ} where
  pub slice_step : {slice : Slice} {len : ℕ} {stride : ℤ} {count : ℕ} (bits : ℕ) {moved : ℤ} → count ≡ length (picks fit len slice)
      → signed bits ≡ picked_stride (length (picks fit len slice)) stride slice.step → moved ≡ first_offset (picks fit len slice) stride
      → slice_fault fit len slice ≡ None
      → SlicedSoFar fit elems shape strides (elem.Slice slice.start slice.end slice.step ∷ rest) (len ∷ lens) (stride ∷ steps) new ns nt
      offset → SlicedSoFar fit elems shape strides rest lens steps (new + 1) (set ns new count) (set nt new bits) (offset +ℤ moved)
  slice_step {slice} {len} {stride} {count} bits n t m none s =
      let axis = first_within (picked_axis fit len slice (fits_of_no_fault fit len slice none) stride) in
      let shape_is : take new ns ++ (count ∷ sliced_shape fit rest lens) ≡ sliced_shape fit elems shape = rw n s.shape_is in
      let strides_is = s.strides_is in
      record {
        same_count = omega (arith, s.same_count);
        counts = omega (arith, s.counts);
        room = omega (arith, s.room, length-set ns new count);
        same_room = omega (arith, s.same_room, length-set ns new count, length-set nt new bits);
        fault = ap (λ fault. option_or fault (first_fault fit lens rest)) (sym none) ∙ s.fault;
        shape_is = wrote_len new count ns (sliced_shape fit rest lens) (omega (arith, s.room)) shape_is;
        strides_is = wrote_stride new bits nt (sliced_strides fit rest lens steps) (omega (arith, s.room, s.same_room)) t strides_is;
        offset_is = rw m (omega (arith, ints, s.offset_is));
        low = rw m (omega (arith, ints, s.low, axis.0));
        high = rw m (omega (arith, ints, s.high, axis.1));
      }

  pub index_step : (index : ℤ) {len : ℕ} {stride moved : ℤ} → moved ≡ meaning len index *ℤ stride → index_fault len index ≡ None
      → SlicedSoFar fit elems shape strides (elem.Index index ∷ rest) (len ∷ lens) (stride ∷ steps) new ns nt offset
      → SlicedSoFar fit elems shape strides rest lens steps new ns nt (offset +ℤ moved)
  index_step index {len} {stride} m none s =
      let coordinate = coordinate_below len index (index_fits_of_no_fault len index none) in
      let axis = first_within (lone_coordinate len (magnitude (meaning len index)) stride coordinate.1) in
      record {
        same_count = omega (arith, s.same_count);
        counts = omega (arith, s.counts);
        room = s.room;
        same_room = s.same_room;
        fault = ap (λ fault. option_or fault (first_fault fit lens rest)) (sym none) ∙ s.fault;
        shape_is = s.shape_is;
        strides_is = s.strides_is;
        offset_is = rw m (omega (arith, ints, s.offset_is));
        low = rw (m, coordinate.0) (omega (arith, ints, s.low, axis.0));
        high = rw (m, coordinate.0) (omega (arith, ints, s.high, axis.1));
      }

  pub new_axis_step : SlicedSoFar fit elems shape strides (elem.NewAxis ∷ rest) lens steps new ns nt offset
      → SlicedSoFar fit elems shape strides rest lens steps (new + 1) (set ns new 1) (set nt new 0) offset
  new_axis_step s = record {
    same_count = s.same_count;
    counts = s.counts;
    room = omega (arith, s.room, length-set ns new 1);
    same_room = omega (arith, s.same_room, length-set ns new 1, length-set nt new 0);
    fault = s.fault;
    shape_is = wrote_len new 1 ns (sliced_shape fit rest lens) (omega (arith, s.room)) s.shape_is;
    strides_is = wrote_stride new 0 nt (sliced_strides fit rest lens steps) (omega (arith, s.room, s.same_room)) refl s.strides_is;
    offset_is = s.offset_is;
    low = s.low;
    high = s.high;
  }

  -- an element at fault is the first one
  pub slice_at_fault : {slice : Slice} {len : ℕ} {stride : ℤ} {kind : ErrorKind} → Some kind ≡ slice_fault fit len slice
      → SlicedSoFar fit elems shape strides (elem.Slice slice.start slice.end slice.step ∷ rest) (len ∷ lens) (stride ∷ steps) new ns nt
      offset → Some kind ≡ first_fault fit shape elems
  slice_at_fault at s = ap (λ fault. option_or fault (first_fault fit lens rest)) at ∙ s.fault

-- ---- what fits
pub offset_fits : {fit : Fit} {elems : List SliceInfoElem} {shape : List ℕ} {strides : List ℤ} {rest : List SliceInfoElem} {lens : List ℕ}
    {steps : List ℤ} {new : ℕ} {ns nt : List ℕ} {offset : ℤ} → IsValidLayout shape strides → SlicedSoFar fit elems shape strides rest lens
    steps new ns nt offset → FitsSigned w64 offset
offset_fits {shape} {strides} valid s = omega (arith, ints, s.low, s.high, low_high_span shape strides, valid.span_fits)

-- ---- the arms of the loop
-- the state after an element, and that the new offset fits
pub record Stepped (fit : Fit) (elems : List SliceInfoElem) (shape strides : List ℕ) (k axis new : ℕ) (ns nt : List ℕ) (offset : ℤ) : Type 0
  where
    pub fits : FitsSigned w64 offset
    pub next : SlicedTo fit elems shape strides k axis new ns nt (to_z w64 (of_z w64 offset))

stepped : {fit : Fit} {elems : List SliceInfoElem} {shape strides : List ℕ} {k axis new : ℕ} {ns nt : List ℕ} {offset : ℤ}
    → IsValidLayout shape (all_signed strides)
    → SlicedSoFar fit elems shape (all_signed strides) (drop k elems) (drop axis shape) (drop axis (all_signed strides)) new ns nt offset
    → Stepped fit elems shape strides k axis new ns nt offset
stepped {offset = offset} valid s =
    let f = offset_fits valid s in
    record { fits = f; next = record { so_far = rw (to_z-of_z w64 offset f) s } }

module _ {fit : Fit} {elems : List SliceInfoElem} {shape strides : List ℕ} {k axis new : ℕ} {ns nt : List ℕ} {offset : ℤ} where
  pub slice_arm : {slice : Slice} {count : ℕ} (bits : ℕ) {moved : ℤ} → IsValidLayout shape (all_signed strides)
      → AtAxis fit elems shape strides (elem.Slice slice.start slice.end slice.step) k axis new ns nt offset
      → count ≡ length (picks fit (get_or shape axis 0) slice)
      → signed bits ≡ picked_stride (length (picks fit (get_or shape axis 0) slice)) (signed (get_or strides axis 0)) slice.step
      → moved ≡ first_offset (picks fit (get_or shape axis 0) slice) (signed (get_or strides axis 0))
      → slice_fault fit (get_or shape axis 0) slice ≡ None
      → Stepped fit elems shape strides (k + 1) (axis + 1) (new + 1) (set ns new count) (set nt new bits) (offset +ℤ moved)
  slice_arm bits valid at n t m none = stepped valid (slice_step bits n t m none at.so_far)

  pub index_arm : (index : ℤ) {moved : ℤ} → IsValidLayout shape (all_signed strides)
      → AtAxis fit elems shape strides (elem.Index index) k axis new ns nt offset
      → moved ≡ meaning (get_or shape axis 0) index *ℤ signed (get_or strides axis 0) → index_fault (get_or shape axis 0) index ≡ None
      → Stepped fit elems shape strides (k + 1) (axis + 1) new ns nt (offset +ℤ moved)
  index_arm index valid at m none = stepped valid (index_step index m none at.so_far)

-- what an index means, and where it lies
pub record IsCoordinateAt (len : ℕ) (stride : ℤ) (index : ℤ) : Type 0 where
  pub low : pos 0 ≤ℤ meaning len index
  pub small : (n : ℕ) → pos n ≡ meaning len index → n ≤ limit
  pub offset_fits : (n : ℕ) → pos n ≡ meaning len index → FitsSigned w64 (pos n *ℤ stride)

pub index_within : {fit : Fit} {elems : List SliceInfoElem} {shape strides : List ℕ} {index : ℤ} {k axis new : ℕ} {ns nt : List ℕ}
    {offset : ℤ} → AtAxis fit elems shape strides (elem.Index index) k axis new ns nt offset → index_fault (get_or shape axis 0) index
    ≡ None → IsCoordinateAt (get_or shape axis 0) (signed (get_or strides axis 0)) index
index_within {shape} {strides} {index} {axis} at none =
    let len = get_or shape axis 0 in
    let stride = signed (get_or strides axis 0) in
    let coordinate = coordinate_below len index (index_fits_of_no_fault len index none) in
    let fits = at.len_fits in
    let reaches = at.reach_fits in
    record {
      low = rw coordinate.0 (omega (arith, ints));
      small = λ n e. omega (arith, ints, coordinate.0, coordinate.1, e);
      offset_fits = λ n e.
          let below : n < len = omega (arith, ints, coordinate.0, coordinate.1, e) in
          let axis = coordinate_bounds len stride n below in
          omega (arith, ints, axis.0, axis.1, reach_parts len stride);
    }
