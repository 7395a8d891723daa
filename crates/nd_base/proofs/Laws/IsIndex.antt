-- Laws of the test for an index of a shape.
use Rattle.std.proofs.Common.{◌≡◌, ℕ, zero, suc, ◌-◌, ◌<◌, true, false, eqb, List, [], ◌∷◌, length, get_or, replicate, reverse}
use Rattle.std.proofs.Common.{refl, sym, ap, ◌∙◌, arith, pos_of_ne-zero}
use Rattle.std.specs.Prelude.{nat_lt}
use Rattle.std.proofs.lemmas.Bool.{and_from, and_parts, eqb-false, lt-ltb, ltb-true, ne_eqb, or_from, or_parts}
use Rattle.std.proofs.lemmas.Bool.Decides.{same_from_decides}
use Rattle.std.proofs.lemmas.List.{get_or-reverse, length-reverse, reverse-reverse}
use Rattle.nd_base.proofs.Laws.Definitions.{is_index, is_empty}

-- an index has one coordinate for each axis
pub length_of_index : (shape index : List ℕ) → is_index shape index ≡ true → length index ≡ length shape
length_of_index [] [] h = refl
length_of_index [] (i ∷ index) h = absurd (cc)
length_of_index (len ∷ lens) [] h = absurd (cc)
length_of_index (len ∷ lens) (i ∷ index) h =
    ap suc (length_of_index lens index (and_parts (nat_lt i len) (is_index lens index) h).1)

-- each coordinate of an index is below the length of its axis
pub coordinate_of_index : (shape index : List ℕ) (axis : ℕ) → is_index shape index ≡ true → axis < length shape
    → get_or index axis 0 < get_or shape axis 0
coordinate_of_index [] index axis h l = absurd (omega arith)
coordinate_of_index (len ∷ lens) [] axis h l = absurd (cc)
coordinate_of_index (len ∷ lens) (i ∷ index) zero h l =
    ltb-true i len (and_parts (nat_lt i len) (is_index lens index) h).0
coordinate_of_index (len ∷ lens) (i ∷ index) (suc axis) h l =
    coordinate_of_index lens index axis (and_parts (nat_lt i len) (is_index lens index) h).1 (omega arith)

-- a shape with an index has no zero length
pub nonempty_from_index : (shape index : List ℕ) → is_index shape index ≡ true → is_empty shape ≡ false
nonempty_from_index [] index h = refl
nonempty_from_index (len ∷ lens) [] h = absurd (cc)
nonempty_from_index (len ∷ lens) (i ∷ index) h =
    let parts = and_parts (nat_lt i len) (is_index lens index) h in
    let below : i < len = ltb-true i len parts.0 in
    or_from (eqb len 0) (is_empty lens) (ne_eqb len 0 (λ e. omega arith)) (nonempty_from_index lens index parts.1)

-- zeros are an index of a shape without a zero length
pub is_index-zeros : (shape : List ℕ) → is_empty shape ≡ false → is_index shape (replicate (length shape) 0) ≡ true
is_index-zeros [] h = refl
is_index-zeros (len ∷ lens) h =
    let parts = or_parts (eqb len 0) (is_empty lens) h in
    and_from (nat_lt 0 len) (is_index lens (replicate (length lens) 0)) (lt-ltb 0 len (pos_of_ne-zero (eqb-false len 0 parts.0)))
    (is_index-zeros lens parts.1)

-- a list with a coordinate for each axis, below its length, is an index
pub is_index_from_coordinates : (shape index : List ℕ) → length index ≡ length shape
    → ((axis : ℕ) → axis < length shape → get_or index axis 0 < get_or shape axis 0) → is_index shape index ≡ true
is_index_from_coordinates [] [] e h = refl
is_index_from_coordinates [] (i ∷ index) e h = absurd (omega arith)
is_index_from_coordinates (len ∷ shape) [] e h = absurd (omega arith)
is_index_from_coordinates (len ∷ shape) (i ∷ index) e h =
    and_from (nat_lt i len) (is_index shape index) (lt-ltb i len (h 0 (omega arith)))
    (is_index_from_coordinates shape index (omega arith) (λ axis l. h (suc axis) (omega arith)))

from_back : (shape index : List ℕ) → is_index shape index ≡ true → is_index (reverse shape) (reverse index) ≡ true
from_back shape index h =
    let count : length index ≡ length shape = length_of_index shape index h in
    is_index_from_coordinates (reverse shape) (reverse index) (length-reverse index ∙ count ∙ sym (length-reverse shape)) (λ axis l.
    let within : axis < length shape = omega (arith, length-reverse shape) in
    rw (get_or-reverse shape axis 0 within, get_or-reverse index axis 0 (omega arith), count)
    (coordinate_of_index shape index (length shape - 1 - axis) h (omega arith)))

-- an index read from the back is one of the shape read from the back
pub is_index-reverse : (shape index : List ℕ) → is_index (reverse shape) (reverse index) ≡ is_index shape index
is_index-reverse shape index =
    same_from_decides {P = is_index shape index ≡ true} (is_index (reverse shape) (reverse index)) (is_index shape index)
    (λ h. rw (reverse-reverse shape, reverse-reverse index) at (from_back (reverse shape) (reverse index) h), from_back shape index)
    (λ h. h, λ h. h)
