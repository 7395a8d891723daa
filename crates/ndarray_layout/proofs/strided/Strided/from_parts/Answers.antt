-- The start is no lower than the layout reaches down, and the highest place fits.
use Rattle.std.proofs.Common.{◌≡◌, ℕ, ◌-◌, ℤ, true, false, None, Some, List, arith, rules, sym, ap, ◌∙◌}
use Rattle.nd_base.proofs.Laws.Definitions.{all_signed, high_span, is_empty, low_span, span}
use Rattle.nd_base.proofs.Laws.Span.{low_high_span}
use Rattle.nd_shape.specs.Acceptance.{may_share}
use Rattle.nd_shape.specs.declared.acceptance.CanIndexCheckMode.TheVariants.{OwnedMutable}
use Rattle.ndarray_layout.specs.AcceptanceFrom.{acceptance_from, leaves_data_from}
use Rattle.ndarray_layout.proofs.FromStart.{accepted, leaves_above, leaves_below, outside, shared, shares_owned, shares_read}
use Rattle.ndarray_layout.proofs.Laws.AcceptanceFrom.{placed_in_bounds, placed_is_view}
use Rattle.ndarray_layout.proofs.strided.Strided.from_parts.Given.{Over}
use Rattle.ndarray_layout.proofs.strided.Strided.from_parts.Goals as goal
use Rattle.ndarray_layout.proofs.strided.Strided.from_parts.Goals.{Joined-else-eq, then-start-low-via-then-start-low}
use Rattle.ndarray_layout.proofs.strided.Strided.from_parts.Goals.{then-start-low-via-else-start-low+then-reaches_past}
use Rattle.ndarray_layout.proofs.strided.Strided.from_parts.Goals.{else-eq-via-then-eq+else-dim_stride_overlap, else-eq-via-else-eq}

-- what is left of the span above the start
high_of : {whole low : ℕ} (shape : List ℕ) (strides : List ℤ) → whole ≡ span shape strides → low ≡ low_span shape strides
    → whole - low ≡ high_span shape strides
high_of shape strides whole low = omega (arith, low_high_span shape strides)

pub overflow_sub-span : goal.overflow_sub-span
overflow_sub-span g c =
    omega (arith, low_high_span (g.D.Lengths.list c.args.dim) (all_signed (g.D.Lengths.list c.args.strides)), c.in_ok-span.ensures.span)

pub returns-then-start-low-clause-fault : goal.returns-then-start-low-clause-fault
returns-then-start-low-clause-fault g c =
    let shape = g.D.Lengths.list c.args.dim in
    let strides = all_signed (g.D.Lengths.list c.args.strides) in
    let low = c.offset_from_low_addr_ptr_to_logical_ptr-low.ensures in
    let leaves : leaves_data_from c.args.start c.args.len shape strides ≡ true = elim c.then-start-low.branch [
      | then-start-low-via-then-start-low w ↦
          leaves_below c.args.start c.args.elem_size c.args.len c.args.mode shape strides (omega (arith, low, w.if-start-low.true))
      | then-start-low-via-else-start-low+then-reaches_past w ↦
          leaves_above c.args.start c.args.elem_size c.args.len c.args.mode shape strides (omega (arith, low, w.if-start-low.false))
          (high_of shape strides c.in_ok-span.ensures.span low)
          (c.contains-is_empty.ensures.value ∙ ap is_empty c.slice.ensures.list)
          w.reaches_past.ensures ∙ w.if-reaches_past.true
    ] in
    ap Some c.from_kind.ensures
    ∙ outside c.args.start c.args.elem_size c.args.len c.args.mode shape strides c.in_ok-span.ensures.fault leaves

pub returns-then-dim_stride_overlap-clause-fault : goal.returns-then-dim_stride_overlap-clause-fault
returns-then-dim_stride_overlap-clause-fault g c =
    let shape = g.D.Lengths.list c.args.dim in
    let strides = all_signed (g.D.Lengths.list c.args.strides) in
    let low = c.offset_from_low_addr_ptr_to_logical_ptr-low.ensures in
    let owned : c.args.mode ≡ OwnedMutable = search rules in
    let stays = leaves_above c.args.start c.args.elem_size c.args.len c.args.mode shape strides (omega (arith, low, c.if-start-low.false))
    (high_of shape strides c.in_ok-span.ensures.span low)
    (c.contains-is_empty.ensures.value ∙ ap is_empty c.slice.ensures.list)
    c.reaches_past.ensures ∙ c.if-reaches_past.false in
    ap Some c.from_kind-then-dim_stride_overlap.ensures
    ∙ shared c.args.start c.args.elem_size c.args.len c.args.mode shape strides c.in_ok-span.ensures.fault stays
    (shares_owned shape strides c.args.mode c.dim_stride_overlap.result owned c.dim_stride_overlap.ensures.rule
    ∙ c.if-dim_stride_overlap.true)

-- what passes the tests is accepted
passes : (g : Over) (c : Joined-else-eq g)
    → None ≡ acceptance_from c.args.start c.args.elem_size c.args.len c.args.mode (g.D.Lengths.list c.args.dim)
    (all_signed (g.D.Lengths.list c.args.strides))
passes g c =
    let shape = g.D.Lengths.list c.args.dim in
    let strides = all_signed (g.D.Lengths.list c.args.strides) in
    let low = c.offset_from_low_addr_ptr_to_logical_ptr-low.ensures in
    let stays = leaves_above c.args.start c.args.elem_size c.args.len c.args.mode shape strides (omega (arith, low, c.if-start-low.false))
    (high_of shape strides c.in_ok-span.ensures.span low)
    (c.contains-is_empty.ensures.value ∙ ap is_empty c.slice.ensures.list)
    c.reaches_past.ensures ∙ c.if-reaches_past.false in
    let apart : may_share c.args.mode shape strides ≡ false = elim c.else-eq.branch [
      | else-eq-via-then-eq+else-dim_stride_overlap w ↦
          let owned : c.args.mode ≡ OwnedMutable = search rules in
          shares_owned shape strides c.args.mode w.dim_stride_overlap.result owned w.dim_stride_overlap.ensures.rule
          ∙ w.if-dim_stride_overlap.false
      | else-eq-via-else-eq w ↦
          let other : c.args.mode ≡ OwnedMutable → ⊥ = search rules in
          shares_read shape strides c.args.mode other
    ] in
    accepted c.args.start c.args.elem_size c.args.len c.args.mode shape strides c.in_ok-span.ensures.fault stays apart

pub invariant_of-result : goal.invariant_of-result
invariant_of-result g c =
    placed_is_view c.args.start c.args.elem_size c.args.len c.args.mode (g.D.Lengths.list c.args.dim)
    (all_signed (g.D.Lengths.list c.args.strides)) (sym (passes g c))

pub returns-clause-fault : goal.returns-clause-fault
returns-clause-fault g c = passes g c

pub returns-clause-is_view : goal.returns-clause-is_view
returns-clause-is_view g c = invariant_of-result g c

pub returns-clause-in_bounds : goal.returns-clause-in_bounds
returns-clause-in_bounds g c =
    placed_in_bounds c.args.start c.args.elem_size c.args.len c.args.mode (g.D.Lengths.list c.args.dim)
    (all_signed (g.D.Lengths.list c.args.strides)) (sym (passes g c))
