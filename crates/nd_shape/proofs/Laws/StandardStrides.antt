-- Laws of the strides that a shape has by itself, in either order, as they are read.
use Rattle.std.proofs.Common.{◌≡◌, ℕ, zero, suc, ◌-◌, ◌<◌, ◌≤◌, ◌∙◌, ℤ, pos, false, true, inl, inr, List, [], ◌∷◌, length}
use Rattle.std.proofs.Common.{map, replicate, ap, sym, refl, arith, mul-zero}
use Rattle.std.proofs.lemmas.Bool.{cases_Bool, cond-true}
use Rattle.std.proofs.lemmas.List.{length-map}
use Rattle.nd_base.specs.declared.order.Order.{Order}
use Rattle.nd_base.specs.declared.order.Order.TheVariants.{RowMajor, ColumnMajor}
use Rattle.nd_base.proofs.Laws.Definitions.{HasDistinctOffsets, LiesInBounds, IsValidLayout, as_read, is_index, offset_of}
use Rattle.nd_base.proofs.Laws.Definitions.{flat_index_in}
use Rattle.nd_base.proofs.Laws.Definitions.{all_signed, signed, is_empty, limit, nonzero_size, size, low_span, reach, span}
use Rattle.nd_base.proofs.Laws.NonzeroSize.{size_le_nonzero_size}
use Rattle.nd_base.proofs.Laws.FlatIndex.{flat_index_in-lt-size, same_from_flat_index_in}
use Rattle.nd_base.proofs.Laws.AsRead.{as_read-as_read, is_empty-as_read, map-as_read, nonzero_size-as_read, sum_over_axes-as_read}
use Rattle.nd_base.proofs.Laws.Signed.{all_signed_small}
use Rattle.nd_dim.specs.Strides.{default_strides}
use Rattle.nd_dim.proofs.Laws.Strides.{default_count, default_small, fortran_by_default, fortran_count}
use Rattle.nd_dim.proofs.Laws.Strides.{offset_of-default_strides, offset_of-fortran_strides}
use Rattle.nd_shape.specs.ShapeBuilder.{standard_strides}
use Rattle.nd_shape.specs.NoAlias.{SatisfiesNoAliasRule}
use Rattle.nd_shape.proofs.Laws.DefaultStrides.{default_strides_satisfy_rule, default_strides_span}
use Rattle.nd_shape.proofs.Laws.NoAlias.{rule_from_back}

-- ---- one stride for each axis, none past the limit
-- in an order they are the default ones of the axes as they are read
standard_as_read : (order : Order) (shape : List ℕ) → standard_strides order shape ≡ as_read order (default_strides (as_read order shape))
standard_as_read RowMajor shape = refl
standard_as_read ColumnMajor shape = fortran_by_default shape

-- read as they are, as signed numbers
standard_read : (order : Order) (shape : List ℕ)
    → as_read order (map pos (standard_strides order shape)) ≡ map pos (default_strides (as_read order shape))
standard_read order shape =
    sym (map-as_read order pos (standard_strides order shape))
    ∙ ap (map pos) (ap (as_read order) (standard_as_read order shape) ∙ as_read-as_read order (default_strides (as_read order shape)))

pub standard_count : (order : Order) (shape : List ℕ) → length (standard_strides order shape) ≡ length shape
standard_count RowMajor shape = default_count shape
standard_count ColumnMajor shape = fortran_count shape

signed_count : (order : Order) (shape : List ℕ) → length shape ≡ length (map pos (standard_strides order shape))
signed_count order shape = omega (arith, length-map (standard_strides order shape) pos, standard_count order shape)

pub standard_signed : (order : Order) (shape : List ℕ) → nonzero_size shape ≤ limit
    → all_signed (standard_strides order shape) ≡ map pos (standard_strides order shape)
standard_signed order shape top =
    let read = as_read order shape in
    let fits : nonzero_size read ≤ limit = omega (arith, nonzero_size-as_read order shape) in
    let strides = default_strides read in
    let small = all_signed_small strides (λ k h. default_small read k fits (omega (arith, default_count read))) in
    ap all_signed (standard_as_read order shape)
    ∙ map-as_read order signed strides
    ∙ ap (as_read order) small
    ∙ sym (map-as_read order pos strides)
    ∙ ap (map pos) (sym (standard_as_read order shape))

-- ---- how far they reach
-- never below the first index
low_none : (shape strides : List ℕ) → low_span shape (map pos strides) ≡ 0
low_none [] strides = refl
low_none (len ∷ shape) [] = refl
low_none (len ∷ shape) (stride ∷ strides) = omega (arith, low_none shape strides)

pub standard_low_span : (order : Order) (shape : List ℕ) → nonzero_size shape ≤ limit
    → low_span shape (all_signed (standard_strides order shape)) ≡ 0
standard_low_span order shape top = rw (standard_signed order shape top) (low_none shape (standard_strides order shape))

-- along zeros nowhere
span_of_zeros : (shape : List ℕ) (n : ℕ) → span shape (map pos (replicate n 0)) ≡ 0
span_of_zeros [] n = refl
span_of_zeros (len ∷ shape) zero = refl
span_of_zeros (len ∷ shape) (suc n) = omega (arith, mul-zero (len - 1), span_of_zeros shape n)

-- and not past the size
default_span : (shape : List ℕ) → span shape (map pos (default_strides shape)) ≤ nonzero_size shape
default_span shape = elim (cases_Bool (is_empty shape)) [
  | inl none ↦ rw (cond-true _ _ _ none) (omega (arith, span_of_zeros shape (length shape)))
  | inr some ↦ omega (arith, default_strides_span shape some, size_le_nonzero_size shape)
]

standard_span : (order : Order) (shape : List ℕ) → span shape (map pos (standard_strides order shape)) ≤ nonzero_size shape
standard_span order shape =
    let turned = sum_over_axes-as_read order reach shape (map pos (standard_strides order shape)) (signed_count order shape) in
    let reached = rw (standard_read order shape) at turned in
    omega (arith, reached, default_span (as_read order shape), nonzero_size-as_read order shape)

-- so that every sum fits
pub standard_valid : (order : Order) (shape : List ℕ) → nonzero_size shape ≤ limit
    → IsValidLayout shape (all_signed (standard_strides order shape))
standard_valid order shape top = record {
  same_count = omega (arith, length-map (standard_strides order shape) signed, standard_count order shape);
  size_fits = top;
  span_fits = rw (standard_signed order shape top) (omega (arith, standard_span order shape));
}

-- ---- where the indices lie
-- each at its flat index
pub offset_of-standard_strides : (order : Order) (shape index : List ℕ) → is_index shape index ≡ true
    → offset_of (map pos (standard_strides order shape)) index ≡ pos (flat_index_in order shape index)
offset_of-standard_strides RowMajor shape index h = offset_of-default_strides shape index h
offset_of-standard_strides ColumnMajor shape index h = offset_of-fortran_strides shape index h

-- so among as many elements as there are indices
pub standard_in_bounds : (order : Order) (len : ℕ) (shape : List ℕ) → nonzero_size shape ≤ limit → size shape ≤ len
    → LiesInBounds len 0 shape (all_signed (standard_strides order shape))
standard_in_bounds order len shape top room index h =
    let flat_index : flat_index_in order shape index < len = omega (arith, flat_index_in-lt-size order shape index h) in
    rw (standard_signed order shape top, offset_of-standard_strides order shape index h) (omega arith)

-- and each by itself
pub standard_distinct : (order : Order) (shape : List ℕ) → nonzero_size shape ≤ limit
    → HasDistinctOffsets shape (all_signed (standard_strides order shape))
standard_distinct order shape top = rw (standard_signed order shape top) (λ index other h g same.
    let one = offset_of-standard_strides order shape index h in
    let two = offset_of-standard_strides order shape other g in
    let flat_indices = sym one ∙ same ∙ two in
    same_from_flat_index_in order shape index other h g (cc))

-- ---- the no-alias rule of owned mode
-- it doesn't ask in which order the axes stand
satisfies_rule_as_read : (order : Order) (shape : List ℕ) (strides : List ℤ) → length shape ≡ length strides
    → SatisfiesNoAliasRule (as_read order shape) (as_read order strides) → SatisfiesNoAliasRule shape strides
satisfies_rule_as_read RowMajor shape strides count rule = rule
satisfies_rule_as_read ColumnMajor shape strides count rule = rule_from_back shape strides count rule

-- where there is an index, they satisfy it
pub standard_satisfies_rule : (order : Order) (shape : List ℕ) → nonzero_size shape ≤ limit → is_empty shape ≡ false
    → SatisfiesNoAliasRule shape (all_signed (standard_strides order shape))
standard_satisfies_rule order shape top some = rw (standard_signed order shape top)
    (satisfies_rule_as_read order shape (map pos (standard_strides order shape)) (signed_count order shape)
    (rw (standard_read order shape) (default_strides_satisfy_rule (as_read order shape) (is_empty-as_read order shape ∙ some))))
