-- Slice arguments that begin in their order along an axis, where a list of them is read from its first item on or from its last one back.
use Rattle.std.specs.Prelude.{◌≡◌, ℕ, ◌-◌, ◌<◌, ◌≤◌, pos, Bool, true, false, if◌then◌else◌, List, [], ◌∷◌, length, slice_index_or, refl}
use Rattle.std.proofs.Math.Arith.{le→nltb}
use Rattle.std.proofs.lemmas.Bool.{ltb-true}
use Rattle.std.proofs.Common.{leb-true}
use Rattle.nd_slice.specs.declared.fit.Fit.{Fit}
use Rattle.nd_slice.specs.declared.fit.Fit.TheVariants.{Strict}
use Rattle.nd_slice.specs.declared.elem.SliceInfoElem.{SliceInfoElem}
use Rattle.nd_slice.specs.declared.elem.SliceInfoElem.TheVariants as elem
use Rattle.nd_slice.specs.RangesApart.{start_on}

-- the position in a list of count items of the one that is read at a turn, from 0 on
abbrev pub position_of : Bool → ℕ → ℕ → ℕ
position_of backwards count turn = if backwards then count - 1 - turn else turn

-- that item
abbrev pub slice_at : List (List SliceInfoElem) → Bool → ℕ → List SliceInfoElem
slice_at slices backwards turn = slice_index_or slices (position_of backwards (length slices) turn) []

-- none begins on the axis before one that is read earlier
pub record AreInOrder (fit : Fit) (shape : List ℕ) (axis : ℕ) (slices : List (List SliceInfoElem)) (backwards : Bool) : Type 0 where
  pub in_order : (i j : ℕ) → i ≤ j → j < length slices
      → start_on fit shape axis (slice_at slices backwards i) ≤ start_on fit shape axis (slice_at slices backwards j)

-- examples
last_but_one : position_of true 5 1 ≡ 3
last_but_one = refl

abbrev rows : List (List SliceInfoElem)
rows = (elem.Index (pos 3) ∷ []) ∷ (elem.Index (pos 1) ∷ []) ∷ []

last_is_first : slice_at rows true 0 ≡ elem.Index (pos 1) ∷ []
last_is_first = refl

not_from_the_first : AreInOrder Strict (4 ∷ []) 0 rows false → ⊥
not_from_the_first are = le→nltb 1 3 (are.in_order 0 1 (leb-true 0 1 refl) (ltb-true 1 2 refl))
