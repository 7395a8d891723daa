-- Words of private contracts alone, of the calls below `reshape_dim`: what is left of two shapes, and what it has to do with all of
-- them. All lists are in the order of reading.
use Rattle.std.specs.Prelude.{◌≡◌, ℕ, ◌+◌, ◌-◌, ◌<◌, ◌≤◌, false, ℤ, pos, negsuc, ◌*ℤ◌, Option, Some, None, List, [], ◌∷◌, ◌++◌, drop}
use Rattle.std.specs.Prelude.{length, map, slice_index, take, refl}
use Rattle.std.specs.Int.{w64}
use Rattle.std.specs.Int.RustNames.{FitsSigned}
use Rattle.std.specs.List.{All}
use Rattle.nd_base.specs.AsRead.{as_read}
use Rattle.nd_base.specs.Indices.{below}
use Rattle.nd_base.specs.Signed.{all_signed}
use Rattle.nd_base.specs.Size.{size, is_empty, limit}
use Rattle.nd_base.specs.Span.{span}
use Rattle.nd_base.specs.declared.error.ErrorKind.{ErrorKind}
use Rattle.nd_base.specs.declared.error.ErrorKind.TheVariants.{IncompatibleShape}
use Rattle.ndarray_layout.specs.declared.reshape.Reached.{Reached}
use Rattle.ndarray_layout.specs.declared.reshape.Shapes.{Shapes}
use Rattle.ndarray_layout.specs.reshape.ForcedStrides.{stride_at}
use Rattle.ndarray_layout.specs.reshape.ReshapeFault.{fault_as_read}

-- a layout, and the shape that takes its places
pub record Layouts : Type 0 where
  pub from : List ℕ
  pub strides : List ℤ
  pub to : List ℕ

-- with the strides as the code has them
abbrev pub layouts : List ℕ → List ℕ → List ℕ → Layouts
layouts from strides to = record { from = from; strides = all_signed strides; to = to }

-- what is left of both shapes, as they are read, after so many axes of each
abbrev pub left_in : Shapes → ℕ → ℕ → Layouts
left_in both from_axes to_axes = layouts (drop from_axes (as_read both.order both.from.now))
    (drop from_axes (as_read both.order both.strides.now)) (drop to_axes (as_read both.order both.to.now))

-- the same, for both counts as one value
abbrev pub left_at : Shapes → Reached → Layouts
left_at both at = left_in both at.from_axes at.to_axes

-- the fault of the reshape
abbrev pub fault_of : Layouts → Option ErrorKind
fault_of both = fault_as_read both.from both.strides both.to

-- the stride of an axis of the new shape
abbrev pub forced_at : Layouts → ℕ → ℤ
forced_at both axis = stride_at both.from both.strides both.to axis

-- the strides of all its axes
abbrev pub forced : Layouts → List ℤ
forced both = map (forced_at both) (below (length both.to))

-- the layout's numbers fit, and both shapes have an index
pub record CanMatch (both : Layouts) : Type 0 where
  pub same_count : length both.from ≡ length both.strides
  pub some : is_empty both.from ≡ false
  pub more : is_empty both.to ≡ false
  pub from_fits : size both.from ≤ limit
  pub to_fits : size both.to ≤ limit
  pub span_fits : span both.from both.strides ≤ limit

-- with an axis in front of the old shape
abbrev pub with_from : ℕ → ℤ → Layouts → Layouts
with_from len stride both = record { from = len ∷ both.from; strides = stride ∷ both.strides; to = both.to }

-- with an axis in front of the new shape
abbrev pub with_to : ℕ → Layouts → Layouts
with_to len both = record { from = both.from; strides = both.strides; to = len ∷ both.to }

-- two others have the same fault, and where they have strides these give the strides of both
pub record GoesOn (both : Layouts) (given : List ℤ → List ℤ) (rest : Layouts) : Type 0 where
  pub can_match : CanMatch rest
  pub fault : fault_of both ≡ fault_of rest
  pub strides : fault_of both ≡ None → forced both ≡ given (forced rest)

-- the items from one number up to another
abbrev pub segment : {A : Type 0} → ℕ → ℕ → List A → List A
segment start end items = take (end - start) (drop start items)

-- items that are followed by so many others are written anew
abbrev pub Writes : ℕ → List ℕ → List ℕ → List ℕ → Type 0
Writes after news out others = (before olds later : List ℕ) → out ≡ before ++ (olds ++ later) → length olds ≡ length news
    → length later ≡ after → others ≡ before ++ (news ++ later)

-- axes are read, and the strides of the new ones are written
pub record IsTurn (both : Layouts) (out : List ℕ) (rest : Layouts) (others : List ℕ) : Type 0 where
  pub news : List ℕ
  pub count : length both.to ≡ length news + length rest.to
  pub goes_on : GoesOn both (λ strides. all_signed news ++ strides) rest
  pub written : Writes (length rest.to) news out others

-- the strides of axes that are iterated over as one, the last of which has this stride
abbrev pub block_strides : List ℕ → ℤ → List ℤ
block_strides [] stride = []
block_strides (len ∷ lens) stride = (pos (size lens) *ℤ stride) ∷ block_strides lens stride

-- the strides of a block are written in front of so many others
pub record WritesBlock (after : ℕ) (strides : List ℤ) (out others : List ℕ) : Type 0 where
  pub news : List ℕ
  pub strides_are : all_signed news ≡ strides
  pub written : Writes after news out others

-- the first axis of each has more than one coordinate
pub record AreHeads (both : Layouts) : Type 0 where
  pub can_match : CanMatch both
  pub long : 1 < slice_index both.from 0
  pub new_long : 1 < slice_index both.to 0

-- the first axes of both, up to what is left, have as many indices, and those of the old shape are one axis of this stride
pub record IsBlock (both : Layouts) (stride : ℤ) (rest : Layouts) : Type 0 where
  pub lens : List ℕ
  pub front : both.to ≡ lens ++ rest.to
  pub fits : All (FitsSigned w64) (block_strides lens stride)
  pub goes_on : GoesOn both (λ strides. block_strides lens stride ++ strides) rest

-- examples
as_signed : layouts (2 ∷ []) (18446744073709551615 ∷ []) (1 ∷ 2 ∷ []) ≡ record { from = 2 ∷ []; strides = negsuc 0 ∷ []; to = 1 ∷ 2 ∷ [] }
as_signed = refl

two_in_front : with_from 2 (pos 3) (layouts (3 ∷ []) (1 ∷ []) (6 ∷ [])) ≡ layouts (2 ∷ 3 ∷ []) (3 ∷ 1 ∷ []) (6 ∷ [])
two_in_front = refl

another_in_front : with_to 2 (layouts (6 ∷ []) (1 ∷ []) (3 ∷ [])) ≡ layouts (6 ∷ []) (1 ∷ []) (2 ∷ 3 ∷ [])
another_in_front = refl

sizes_apart : fault_of (layouts (2 ∷ 3 ∷ []) (3 ∷ 1 ∷ []) (2 ∷ 2 ∷ [])) ≡ Some IncompatibleShape
sizes_apart = refl

through_the_middle : forced (layouts (6 ∷ 2 ∷ []) (2 ∷ 1 ∷ []) (4 ∷ 1 ∷ 3 ∷ [])) ≡ pos 3 ∷ pos 3 ∷ pos 1 ∷ []
through_the_middle = refl

middle : segment {A = ℕ} 1 3 (5 ∷ 6 ∷ 7 ∷ 8 ∷ []) ≡ 6 ∷ 7 ∷ []
middle = refl

each_second : block_strides (2 ∷ 1 ∷ 3 ∷ []) (pos 2) ≡ pos 6 ∷ pos 6 ∷ pos 2 ∷ []
each_second = refl
