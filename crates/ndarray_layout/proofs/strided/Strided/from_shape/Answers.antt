-- The first index lies as far on as the layout reaches down.
use Rattle.std.proofs.Common.{◌≡◌, ℕ, ◌≤◌, List, arith, subst, sym}
use Rattle.nd_base.proofs.Laws.Definitions.{all_signed, limit, nonzero_size, low_span, IsValidLayout}
use Rattle.nd_base.proofs.Laws.NonzeroSize.{size_le_nonzero_size}
use Rattle.ndarray_layout.specs.View.{IsView, view_of}
use Rattle.nd_shape.specs.NoAlias.{SatisfiesNoAliasRule}
use Rattle.ndarray_layout.proofs.AcceptedRule.{by_strides_satisfy}
use Rattle.ndarray_layout.proofs.Laws.View.{lowest_view}
use Rattle.ndarray_layout.proofs.strided.Strided.from_shape.Goals as goal

pub strides_for_dim-requires-clause-size_fits : goal.strides_for_dim-requires-clause-size_fits
strides_for_dim-requires-clause-size_fits g c =
    let shape = g.D.Lengths.list c.args.shape.dim in
    let fits : nonzero_size shape ≤ limit = c.in_ok-can_index_slice_with_strides.ensures.valid.size_fits in
    omega (arith, size_le_nonzero_size shape)

-- a layout along strides that are known to be valid ones
view_along : {start : ℕ} {shape strides known : List ℕ} → start ≡ low_span shape (all_signed strides) → strides ≡ known
    → IsValidLayout shape (all_signed known) → IsView (view_of start shape strides)
view_along low same valid = rw (low, same) (lowest_view valid)

pub invariant_of-result : goal.invariant_of-result
invariant_of-result g c =
    view_along c.offset_from_low_addr_ptr_to_logical_ptr-start.ensures c.in_ok-strides.ensures.list
    c.in_ok-can_index_slice_with_strides.ensures.valid

pub returns-clause-is_view : goal.returns-clause-is_view
returns-clause-is_view g c =
    view_along c.offset_from_low_addr_ptr_to_logical_ptr-start.ensures c.in_ok-strides.ensures.list
    c.in_ok-can_index_slice_with_strides.ensures.valid

pub returns-clause-rule : goal.returns-clause-rule
returns-clause-rule g c = λ why some.
    subst (λ strides. SatisfiesNoAliasRule (g.D.Lengths.list c.args.shape.dim) (all_signed strides)) (sym c.in_ok-strides.ensures.list)
    (by_strides_satisfy c.args.elem_size c.args.len g.D.Lengths.list (g.D.Lengths.list c.args.shape.dim) c.args.shape.strides
    (sym c.in_ok-can_index_slice_with_strides.ensures.fault) why some)
