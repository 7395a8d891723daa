-- Laws of layouts that are accepted by their own strides or by given ones.
use Rattle.std.proofs.Common.{◌≡◌, ℕ, ◌≤◌, false, List, None, arith}
use Rattle.std.proofs.lemmas.Grind.{common_steps}
use Rattle.nd_base.specs.declared.order.Order.{Order}
use Rattle.nd_base.specs.declared.order.Order.TheVariants.{RowMajor, ColumnMajor}
use Rattle.nd_base.proofs.Laws.Definitions.{HasDistinctOffsets, LiesInBounds, all_signed, is_empty, limit}
use Rattle.nd_base.proofs.Laws.Definitions.{nonzero_size, size, low_span, IsValidLayout}
use Rattle.nd_shape.specs.AcceptanceByStrides.{acceptance_of_standard, acceptance_by_strides}
use Rattle.nd_shape.specs.declared.acceptance.CanIndexCheckMode.{CanIndexCheckMode}
use Rattle.nd_shape.specs.declared.acceptance.CanIndexCheckMode.TheVariants.{OwnedMutable}
use Rattle.nd_shape.specs.declared.shape_builder.Strides.{Strides}
use Rattle.nd_shape.specs.declared.shape_builder.Strides.TheVariants.{C, F, Custom}
use Rattle.nd_shape.specs.ShapeBuilder.{standard_strides, strides_list}
use Rattle.nd_shape.specs.NoAlias.{SatisfiesNoAliasRule}
use Rattle.nd_shape.proofs.Laws.StandardStrides.{standard_valid, standard_low_span, standard_in_bounds, standard_distinct}
use Rattle.nd_shape.proofs.Laws.StandardStrides.{standard_satisfies_rule}
use Rattle.nd_shape.proofs.Laws.Acceptance.{accepted_valid, accepted_lies_in_bounds, accepted_distinct}

-- ---- shapes by their own strides
-- what is accepted has sizes within the limit, and no more indices than there are elements
pub standard_size : (len : ℕ) (shape : List ℕ) → acceptance_of_standard len shape ≡ None → nonzero_size shape ≤ limit
standard_size len shape h = grind (arith, common_steps)

pub standard_room : (len : ℕ) (shape : List ℕ) → acceptance_of_standard len shape ≡ None → size shape ≤ len
standard_room len shape h = grind (arith, common_steps)

module _ (order : Order) (len : ℕ) (shape : List ℕ) (h : acceptance_of_standard len shape ≡ None) where
  -- so each index lies within the data
  pub standard_accepted_in_bounds : LiesInBounds len 0 shape (all_signed (standard_strides order shape))
  standard_accepted_in_bounds = standard_in_bounds order len shape (standard_size len shape h) (standard_room len shape h)

  -- every sum on it fits
  pub standard_accepted_valid : IsValidLayout shape (all_signed (standard_strides order shape))
  standard_accepted_valid = standard_valid order shape (standard_size len shape h)

  -- and every two indices have offsets of their own
  pub standard_accepted_distinct : HasDistinctOffsets shape (all_signed (standard_strides order shape))
  standard_accepted_distinct = standard_distinct order shape (standard_size len shape h)

  -- by the no-alias rule, where there is an index
  pub standard_accepted_rule : is_empty shape ≡ false → SatisfiesNoAliasRule shape (all_signed (standard_strides order shape))
  standard_accepted_rule some = standard_satisfies_rule order shape (standard_size len shape h) some

-- ---- by their own strides or by given ones
from_low_span : (order : Order) (len : ℕ) (shape : List ℕ) → acceptance_of_standard len shape ≡ None
    → LiesInBounds len (low_span shape (all_signed (standard_strides order shape))) shape (all_signed (standard_strides order shape))
from_low_span order len shape h =
    rw (standard_low_span order shape (standard_size len shape h)) (standard_accepted_in_bounds order len shape h)

-- every sum on an accepted layout fits
pub by_strides_valid : {D : Type 0} (list : D → List ℕ) (elem_size len : ℕ) (mode : CanIndexCheckMode) (shape : List ℕ)
    (strides : Strides D) → acceptance_by_strides list elem_size len mode shape strides ≡ None
    → IsValidLayout shape (all_signed (strides_list list shape strides))
by_strides_valid list elem_size len mode shape C h = standard_valid RowMajor shape (standard_size len shape h)
by_strides_valid list elem_size len mode shape F h = standard_valid ColumnMajor shape (standard_size len shape h)
by_strides_valid list elem_size len mode shape (Custom strides) h = accepted_valid elem_size len mode shape (all_signed (list strides)) h

-- each of its indices lies within the data
pub by_strides_in_bounds : {D : Type 0} (list : D → List ℕ) (elem_size len : ℕ) (mode : CanIndexCheckMode) (shape : List ℕ)
    (strides : Strides D) → acceptance_by_strides list elem_size len mode shape strides ≡ None
    → LiesInBounds len (low_span shape (all_signed (strides_list list shape strides))) shape (all_signed (strides_list list shape strides))
by_strides_in_bounds list elem_size len mode shape C h = from_low_span RowMajor len shape h
by_strides_in_bounds list elem_size len mode shape F h = from_low_span ColumnMajor len shape h
by_strides_in_bounds list elem_size len mode shape (Custom strides) h =
    accepted_lies_in_bounds elem_size len mode shape (all_signed (list strides)) h

-- and of one accepted to be written, every two have offsets of their own
pub by_strides_distinct : {D : Type 0} (list : D → List ℕ) (elem_size len : ℕ) (shape : List ℕ) (strides : Strides D)
    → acceptance_by_strides list elem_size len OwnedMutable shape strides ≡ None
    → HasDistinctOffsets shape (all_signed (strides_list list shape strides))
by_strides_distinct list elem_size len shape C h = standard_distinct RowMajor shape (standard_size len shape h)
by_strides_distinct list elem_size len shape F h = standard_distinct ColumnMajor shape (standard_size len shape h)
by_strides_distinct list elem_size len shape (Custom strides) h = accepted_distinct elem_size len shape (all_signed (list strides)) h
