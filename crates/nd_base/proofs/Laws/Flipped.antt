-- Laws of indices that count from the far end of each axis whose stride is negative: so every step leads up.
use Rattle.std.proofs.Common.{◌≡◌, ℕ, suc, ◌+◌, ◌-◌, ◌*◌, ◌<◌, ℤ, pos, negsuc, neg_ℤ, ◌+ℤ◌, ◌*ℤ◌, true, false, eqb, List, [], ◌∷◌}
use Rattle.std.proofs.Common.{length, map, replicate, refl, ap, ◌∙◌, arith, pos_of_ne-zero}
use Rattle.std.specs.Prelude.{nat_lt}
use Rattle.std.proofs.lemmas.Bool.{and_from, and_parts, eqb-false, lt-ltb, ltb-true, or_parts}
use Rattle.std.proofs.lemmas.Int.{ints}
use Rattle.nd_base.proofs.Laws.Definitions.{is_index, offset_of, farthest_offset, magnitude, is_empty, high_span, low_span, reach_down}
use Rattle.nd_base.proofs.Laws.Definitions.{span}
use Rattle.nd_base.proofs.Laws.IsIndex.{is_index-zeros}
use Rattle.nd_base.proofs.Laws.FarthestOffset.{farthest_offset-zeros}
use Rattle.nd_base.proofs.Laws.Span.{low_high_span}

-- ---- the coordinate and the index
-- a coordinate, counted from the far end where the stride is negative
abbrev pub flipped_coordinate : ℕ → ℤ → ℕ → ℕ
flipped_coordinate len (pos s) i = i
flipped_coordinate len (negsuc s) i = len - 1 - i

-- each coordinate so
abbrev pub flipped : List ℕ → List ℤ → List ℕ → List ℕ
flipped [] strides index = index
flipped (len ∷ shape) [] index = index
flipped (len ∷ shape) (stride ∷ strides) [] = []
flipped (len ∷ shape) (stride ∷ strides) (i ∷ index) = flipped_coordinate len stride i ∷ flipped shape strides index

flipped_coordinate_below : (len : ℕ) (stride : ℤ) (i : ℕ) → i < len → flipped_coordinate len stride i < len
flipped_coordinate_below len (pos s) i h = h
flipped_coordinate_below len (negsuc s) i h = omega arith

flipped_coordinate_twice : (len : ℕ) (stride : ℤ) (i : ℕ) → i < len → flipped_coordinate len stride (flipped_coordinate len stride i) ≡ i
flipped_coordinate_twice len (pos s) i h = refl
flipped_coordinate_twice len (negsuc s) i h = omega arith

-- it is an index of the shape again
pub is_index-flipped : (shape : List ℕ) (strides : List ℤ) (index : List ℕ) → is_index shape index ≡ true
    → is_index shape (flipped shape strides index) ≡ true
is_index-flipped [] strides index h = h
is_index-flipped (len ∷ shape) [] index h = h
is_index-flipped (len ∷ shape) (stride ∷ strides) [] h = h
is_index-flipped (len ∷ shape) (stride ∷ strides) (i ∷ index) h =
    let parts = and_parts (nat_lt i len) (is_index shape index) h in
    let first = flipped_coordinate_below len stride i (ltb-true i len parts.0) in
    and_from (nat_lt (flipped_coordinate len stride i) len) (is_index shape (flipped shape strides index))
    (lt-ltb (flipped_coordinate len stride i) len first) (is_index-flipped shape strides index parts.1)

-- and turned twice it is itself
pub flipped-flipped : (shape : List ℕ) (strides : List ℤ) (index : List ℕ) → is_index shape index ≡ true
    → flipped shape strides (flipped shape strides index) ≡ index
flipped-flipped [] strides index h = refl
flipped-flipped (len ∷ shape) [] index h = refl
flipped-flipped (len ∷ shape) (stride ∷ strides) [] h = refl
flipped-flipped (len ∷ shape) (stride ∷ strides) (i ∷ index) h =
    let parts = and_parts (nat_lt i len) (is_index shape index) h in
    ap (λ j. j ∷ flipped shape strides (flipped shape strides index)) (flipped_coordinate_twice len stride i (ltb-true i len parts.0))
    ∙ ap (λ js. i ∷ js) (flipped-flipped shape strides index parts.1)

-- ---- its offset
step_back : (i n s : ℕ) → (pos i *ℤ negsuc s) +ℤ pos ((i + n) * suc s) ≡ pos (n * suc s)
step_back i n s = omega (arith, ints)

flipped_coordinate_moves : (len : ℕ) (stride : ℤ) (i : ℕ) → i < len
    → (pos i *ℤ stride) +ℤ pos (reach_down len stride) ≡ pos (flipped_coordinate len stride i * magnitude stride)
flipped_coordinate_moves len (pos s) i h = omega (arith, ints)
flipped_coordinate_moves len (negsuc s) i h =
    let n = len - 1 - i in
    let e : len - 1 ≡ i + n = omega arith in
    ap (λ k. (pos i *ℤ negsuc s) +ℤ pos (k * suc s)) e ∙ step_back i n s

-- an offset, counted from the least one, is how far the turned index lies whatever the signs
pub offset_of-flipped : (shape : List ℕ) (strides : List ℤ) (index : List ℕ) → length shape ≡ length strides → is_index shape index ≡ true
    → offset_of strides index +ℤ pos (low_span shape strides) ≡ pos (farthest_offset strides (flipped shape strides index))
offset_of-flipped [] [] [] e h = omega (arith, ints)
offset_of-flipped [] [] (i ∷ index) e h = absurd (cc)
offset_of-flipped [] (stride ∷ strides) index e h = absurd (omega arith)
offset_of-flipped (len ∷ shape) [] index e h = absurd (omega arith)
offset_of-flipped (len ∷ shape) (stride ∷ strides) [] e h = absurd (cc)
offset_of-flipped (len ∷ shape) (stride ∷ strides) (i ∷ index) e h =
    let parts = and_parts (nat_lt i len) (is_index shape index) h in
    let here = flipped_coordinate_moves len stride i (ltb-true i len parts.0) in
    let rest = offset_of-flipped shape strides index (omega arith) parts.1 in
    omega (arith, ints, here, rest)

-- ---- the least and the greatest offset
abbrev last_coordinates : List ℕ → List ℕ
last_coordinates shape = map (λ len. len - 1) shape

farthest_of_last : (shape : List ℕ) (strides : List ℤ) → farthest_offset strides (last_coordinates shape) ≡ span shape strides
farthest_of_last [] strides = refl
farthest_of_last (len ∷ shape) [] = refl
farthest_of_last (len ∷ shape) (stride ∷ strides) = omega (arith, farthest_of_last shape strides)

is_index-last : (shape : List ℕ) → is_empty shape ≡ false → is_index shape (last_coordinates shape) ≡ true
is_index-last [] h = refl
is_index-last (len ∷ shape) h =
    let parts = or_parts (eqb len 0) (is_empty shape) h in
    let some : 0 < len = pos_of_ne-zero (eqb-false len 0 parts.0) in
    and_from (nat_lt (len - 1) len) (is_index shape (last_coordinates shape)) (lt-ltb (len - 1) len (omega arith))
    (is_index-last shape parts.1)

module _ (shape : List ℕ) (strides : List ℤ) where
  -- where an index lies so far whatever the signs, the turned one lies as far above the least offset
  pub has_offset_flipped : (index : List ℕ) (k : ℕ) → length shape ≡ length strides → is_index shape index ≡ true
      → farthest_offset strides index ≡ k
      → (found : List ℕ) × (is_index shape found ≡ true) × (offset_of strides found ≡ pos k +ℤ neg_ℤ (pos (low_span shape strides)))
  has_offset_flipped index k e h far =
      let back = flipped shape strides index in
      let in_bounds = is_index-flipped shape strides index h in
      let moved = offset_of-flipped shape strides back e in_bounds in
      let same = ap (farthest_offset strides) (flipped-flipped shape strides index h) ∙ far in
      (back, in_bounds, omega (arith, ints, moved, same))

  -- a shape with an index has one whose offset is the low span down
  pub least_offset : length shape ≡ length strides → is_empty shape ≡ false
      → (index : List ℕ) × (is_index shape index ≡ true) × (offset_of strides index ≡ neg_ℤ (pos (low_span shape strides)))
  least_offset e some =
      let found = has_offset_flipped (replicate (length shape) 0) 0 e (is_index-zeros shape some)
      (farthest_offset-zeros strides (length shape)) in
      (found.0, found.1, omega (arith, ints, found.2))

  -- and one whose offset is the high span up
  pub greatest_offset : length shape ≡ length strides → is_empty shape ≡ false
      → (index : List ℕ) × (is_index shape index ≡ true) × (offset_of strides index ≡ pos (high_span shape strides))
  greatest_offset e some =
      let found = has_offset_flipped (last_coordinates shape) (span shape strides) e (is_index-last shape some)
      (farthest_of_last shape strides) in
      (found.0, found.1, omega (arith, ints, found.2, low_high_span shape strides))
