-- What a slice with a step of 1 picks: every coordinate of its range, so that pick j is the start plus j. A crop is such a slice of each
-- axis.
use Rattle.std.proofs.Common.{◌≡◌, ℕ, ◌+◌, ◌-◌, ◌<◌, ◌≤◌, min, ℤ, pos, negsuc, Option, Some, None, List, [], ◌∷◌, length, refl, ap, ◌∙◌}
use Rattle.std.proofs.Common.{arith, IsTrue, map, nat_lt, slice_index}
use Rattle.std.specs.Int.{div_ceil}
use Rattle.std.specs.List.{range_with_len}
use Rattle.std.proofs.lemmas.Bool.{and_parts, cond-true, eq-eqb, le-leb, ltb-true}
use Rattle.std.proofs.lemmas.Grind.{div_ceil_times}
use Rattle.std.proofs.lemmas.List.{ext_get_or}
use Rattle.std.proofs.lemmas.List.FromFn.{length-range_with_len, get_or-range_with_len}
use Rattle.nd_base.specs.Elementwise.{sums, differences, DifferencesFit}
use Rattle.nd_base.specs.Indices.{below}
use Rattle.nd_base.specs.declared.error.ErrorKind.TheVariants.{IncompatibleShape}
use Rattle.nd_slice.proofs.Definitions.{Fit, Slice, SliceInfoElem, argument_fault, between, end_meaning, first_fault, in_count, is_index}
use Rattle.nd_slice.proofs.Definitions.{magnitude, nearest, picks, range, selected, slice_fault, slice_with, sliced_shape, start_meaning}
use Rattle.nd_slice.specs.declared.fit.Fit.TheVariants.{Strict, Clamp}
use Rattle.nd_slice.specs.declared.elem.SliceInfoElem.TheVariants as elem
use Rattle.nd_slice.proofs.Laws.AxisFault.{no_fault_of_fits}
use Rattle.nd_slice.proofs.Laws.Between.{length-between, pick_up}

-- ---- of a range
-- a step of 1, or of 1 back, picks as many numbers as there are
pub length-between_unit : (step : ℤ) (start end : ℕ) → magnitude step ≡ 1 → length (between step start end) ≡ end - start
length-between_unit step start end unit =
    let whole = div_ceil_times (end - start) 1 (omega arith) in
    omega (arith, length-between step start end (omega (arith, unit)) ∙ ap (div_ceil (end - start)) unit, whole.0, whole.1)

length-between_one : (start end : ℕ) → length (between (pos 1) start end) ≡ end - start
length-between_one start end = length-between_unit (pos 1) start end refl

-- a step of 1 picks all numbers from start up to, not including, end
pub between_one : (start end : ℕ) → between (pos 1) start end ≡ range start end
between_one start end =
    let count = length-between_one start end in
    ext_get_or 0 (between (pos 1) start end) (range start end) (omega (arith, count, length-range_with_len start (end - start)))
    (λ j in_bounds.
    omega (arith, pick_up 1 start end j (omega arith) in_bounds, get_or-range_with_len start (end - start) j 0 (omega (arith, count))))

-- one number alone
pub between_lone : (number : ℕ) → between (pos 1) number (number + 1) ≡ number ∷ []
between_lone number = let one : number + 1 - number ≡ 1 = omega arith in between_one number (number + 1) ∙ ap (range_with_len number) one

-- ---- of an axis
module _ (fit : Fit) (len : ℕ) (start : ℤ) (end : Option ℤ) where
  abbrev by_one : Slice
  by_one = slice_with start end (pos 1)

  -- a slice with a step of 1 picks as many coordinates as its range has
  pub length-picks_by_one : length (picks fit len (slice_with start end (pos 1)))
      ≡ magnitude (end_meaning fit len (slice_with start end (pos 1))) - magnitude (start_meaning fit len (slice_with start end (pos 1)))
  length-picks_by_one = length-between_one (magnitude (start_meaning fit len by_one)) (magnitude (end_meaning fit len by_one))

  -- pick j is the coordinate where its range begins plus j
  pub pick_by_one : (j : ℕ) → j < length (picks fit len (slice_with start end (pos 1)))
      → slice_index (picks fit len (slice_with start end (pos 1))) j ≡ magnitude (start_meaning fit len (slice_with start end (pos 1))) + j
  pick_by_one j in_bounds = omega (
    arith,
    pick_up 1 (magnitude (start_meaning fit len by_one)) (magnitude (end_meaning fit len by_one)) j (omega arith) in_bounds,
  )

range_from_zero : (len : ℕ) → range 0 len ≡ below len
range_from_zero len = let count : len - 0 ≡ len = omega arith in ap (range_with_len 0) count

-- `..` picks every coordinate, in order
pub picks_of_all : (fit : Fit) (len : ℕ) → picks fit len (slice_with (pos 0) None (pos 1)) ≡ below len
picks_of_all Strict len = between_one 0 len ∙ range_from_zero len
picks_of_all Clamp len = let first : min 0 len ≡ 0 = omega arith in ap (λ start. between (pos 1) start len) first ∙ between_one 0 len
    ∙ range_from_zero len

-- pick j of `..` is coordinate j
pub pick_of_all : (fit : Fit) (len j : ℕ) → j < len → slice_index (picks fit len (slice_with (pos 0) None (pos 1))) j ≡ j
pick_of_all fit len j in_bounds = rw (picks_of_all fit len) (omega (arith, get_or-range_with_len 0 len j 0 in_bounds))

nearest_below : (len : ℕ) (number : ℤ) → magnitude (nearest len number) ≤ len
nearest_below len (pos number) = omega arith
nearest_below len (negsuc number) = omega arith

end_below : (len : ℕ) (slice_start : ℤ) (end : Option ℤ) → magnitude (end_meaning Clamp len (slice_with slice_start end (pos 1))) ≤ len
end_below len start None = omega arith
end_below len start (Some end) = nearest_below len _

-- where a range that begins at a coordinate counted from the front picks anything, pick j is that coordinate plus j
pub pick_of_range : (fit : Fit) (len start : ℕ) (end : Option ℤ) (j : ℕ) → j < length (picks fit len (slice_with (pos start) end (pos 1)))
    → slice_index (picks fit len (slice_with (pos start) end (pos 1))) j ≡ start + j
pick_of_range Strict len start end j in_bounds = pick_by_one Strict len (pos start) end j in_bounds
pick_of_range Clamp len start end j in_bounds =
    let room = length-picks_by_one Clamp len (pos start) end in
    omega (arith, pick_by_one Clamp len (pos start) end j in_bounds, room, end_below len (pos start) end)

-- ---- of all axes
-- the argument that takes of each axis the range from a coordinate counted from the front on, with a step of 1
abbrev pub ranges : List ℕ → List (Option ℤ) → List SliceInfoElem
ranges [] ends = []
ranges (start ∷ starts) [] = []
ranges (start ∷ starts) (end ∷ ends) = elem.Slice (pos start) end (pos 1) ∷ ranges starts ends

-- an index of a crop stands for the index of the whole that is the starts plus it
pub selected_by_ranges : (fit : Fit) (starts : List ℕ) (ends : List (Option ℤ)) (shape index : List ℕ)
    → IsTrue (is_index (sliced_shape fit (ranges starts ends) shape) index)
    → selected fit (ranges starts ends) shape index ≡ sums starts index
selected_by_ranges fit [] ends shape index here = refl
selected_by_ranges fit (start ∷ starts) [] shape [] here = refl
selected_by_ranges fit (start ∷ starts) [] shape (j ∷ index) here = absurd (cc)
selected_by_ranges fit (start ∷ starts) (end ∷ ends) [] [] here = refl
selected_by_ranges fit (start ∷ starts) (end ∷ ends) [] (j ∷ index) here = absurd (cc)
selected_by_ranges fit (start ∷ starts) (end ∷ ends) (len ∷ shape) [] here = refl
selected_by_ranges fit (start ∷ starts) (end ∷ ends) (len ∷ shape) (j ∷ index) here =
    let count = length (picks fit len (slice_with (pos start) end (pos 1))) in
    let parts = and_parts (nat_lt j count) (is_index (sliced_shape fit (ranges starts ends) shape) index) here in
    let first = pick_of_range fit len start end j (ltb-true j count parts.0) in
    let rest = selected_by_ranges fit starts ends shape index parts.1 in
    cc

-- ---- from a start up to an end on each axis
-- the argument that takes of each axis the coordinates from a start up to, not including, an end
abbrev pub ranges_between : List ℕ → List ℕ → List SliceInfoElem
ranges_between starts ends = ranges starts (map (λ end. Some (pos end)) ends)

-- it leaves of each axis as many coordinates as the end is above the start
pub shape_between : (starts ends shape : List ℕ) → length starts ≡ length shape → length ends ≡ length shape
    → sliced_shape Strict (ranges_between starts ends) shape ≡ differences ends starts
shape_between [] [] [] e f = refl
shape_between [] [] (len ∷ shape) e f = absurd (omega arith)
shape_between [] (end ∷ ends) shape e f = absurd (omega arith)
shape_between (start ∷ starts) [] shape e f = absurd (omega arith)
shape_between (start ∷ starts) (end ∷ ends) [] e f = absurd (omega arith)
shape_between (start ∷ starts) (end ∷ ends) (len ∷ shape) e f =
    let first = length-picks_by_one Strict len (pos start) (Some (pos end)) in
    let rest = shape_between starts ends shape (omega arith) (omega arith) in
    cc

axis_fits : (len start end : ℕ) → start ≤ len → end ≤ len → slice_fault Strict len (slice_with (pos start) (Some (pos end)) (pos 1)) ≡ None
axis_fits len start end a b = no_fault_of_fits Strict len (slice_with (pos start) (Some (pos end)) (pos 1)) (record {
  start_within = le-leb start len a;
  end_within = le-leb end len b;
  step_moves = refl;
})

axes_fit : (starts ends shape : List ℕ) → DifferencesFit shape starts → DifferencesFit shape ends
    → first_fault Strict shape (ranges_between starts ends) ≡ None
axes_fit [] ends shape a b = refl
axes_fit (start ∷ starts) [] shape a b = refl
axes_fit (start ∷ starts) (end ∷ ends) [] a b = refl
axes_fit (start ∷ starts) (end ∷ ends) (len ∷ shape) a b =
    rw (axis_fits len start end a.0 b.0) (axes_fit starts ends shape a.1 b.1)

one_for_each_axis : (starts ends shape : List ℕ) → DifferencesFit shape starts → DifferencesFit shape ends
    → in_count (ranges_between starts ends) ≡ length shape
one_for_each_axis [] ends [] a b = refl
one_for_each_axis [] ends (len ∷ shape) a b = absurd a
one_for_each_axis (start ∷ starts) ends [] a b = absurd a
one_for_each_axis (start ∷ starts) [] (len ∷ shape) a b = absurd b
one_for_each_axis (start ∷ starts) (end ∷ ends) (len ∷ shape) a b = omega (arith, one_for_each_axis starts ends shape a.1 b.1)

-- and it fits a shape of which no length is below the start or the end on its axis
pub fits_between : (starts ends shape : List ℕ) → DifferencesFit shape starts → DifferencesFit shape ends
    → argument_fault Strict shape (ranges_between starts ends) ≡ None
fits_between starts ends shape a b =
    let same = eq-eqb (in_count (ranges_between starts ends)) (length shape) (one_for_each_axis starts ends shape a b) in
    cond-true _ (first_fault Strict shape (ranges_between starts ends)) (Some IncompatibleShape) same ∙ axes_fit starts ends shape a b
