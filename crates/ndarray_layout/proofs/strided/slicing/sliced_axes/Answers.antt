-- Faults come before lack of memory: where an allocation fails, the elements were found without fault.
use Rattle.std.proofs.Common.{rules, ◌≡◌, ℕ, ◌⊎◌, inl, inr, Option, Some, None, Bool, true, false, List, length, replicate, sym, ap, subst}
use Rattle.std.proofs.Common.{◌∙◌}
use Rattle.std.specs.Prelude.{◌↔◌, IsTrue}
use Rattle.std.proofs.lemmas.List.{length-replicate}
use Rattle.nd_base.specs.declared.error.ErrorKind.{ErrorKind}
use Rattle.nd_base.proofs.Laws.Definitions.{NeedsNoMemory, shape_fault, all_signed}
use Rattle.nd_slice.specs.declared.fit.Fit.{Fit}
use Rattle.nd_slice.specs.declared.elem.SliceInfoElem.{SliceInfoElem}
use Rattle.nd_slice.specs.SliceFault.{first_fault}
use Rattle.nd_slice.specs.AxisCounts.{HasCounts}
use Rattle.ndarray_layout.specs.SlicedView.{view_slice_fault}
use Rattle.ndarray_layout.proofs.Laws.SlicedView.{view_fault_of_counts}
use Rattle.ndarray_layout.proofs.strided.slicing.sliced_axes.Goals as goal

no_fault : {first : Option ErrorKind} {fixed named : Option ℕ} (n : ℕ) → fixed ≡ named → (first ≡ None) ⊎ NeedsNoMemory fixed n
    → (NeedsNoMemory named n → false ≡ true) → first ≡ None
no_fault n same (inl none) failed = none
no_fault n same (inr few) failed = absurd (cc (failed (subst (λ f. NeedsNoMemory f n) same few)))

counted : {result : Bool} {fixed named : Option ℕ} (shape : List ℕ) {elems : List SliceInfoElem} → fixed ≡ named
    → IsTrue result ↔ HasCounts (Some (length shape)) fixed elems → result ≡ true → HasCounts (Some (length shape)) named elems
counted shape {elems} same means is = subst (λ f. HasCounts (Some (length shape)) f elems) same (means.0 is)

-- where the counts fit, the fault is that of the first element
failed : {result : Bool} (fit : Fit) {fixed named : Option ℕ} (shape : List ℕ) {elems : List SliceInfoElem} → fixed ≡ named
    → IsTrue result ↔ HasCounts (Some (length shape)) fixed elems → result ≡ true
    → view_slice_fault fit named shape elems ≡ first_fault fit shape elems
failed fit shape same means is = view_fault_of_counts fit shape (counted shape same means is)

pub returns-in_err-check_before_memory-clause-fault : goal.returns-in_err-check_before_memory-clause-fault
returns-in_err-check_before_memory-clause-fault g c =
    let same : shape_fault c.from_residual.result ≡ Some c.in_err-check_before_memory.field-0.0 = search rules in
    same ∙ c.in_err-check_before_memory.ensures.fault ∙ sym (failed c.args.fit c.args.shape.now c.NDIM.ensures c.has_counts.ensures
    c.if-not-has_counts.false)

pub returns-in_err-dim-clause-fault : goal.returns-in_err-dim-clause-fault
returns-in_err-dim-clause-fault g c =
    let same : shape_fault c.from_residual-in_err-dim.result ≡ None = search rules in
    same ∙ sym ((failed c.args.fit c.args.shape.now c.NDIM.ensures c.has_counts.ensures c.if-not-has_counts.false)
    ∙ no_fault c.out_ndim_of-ndim.result c.NDIM-2.ensures c.in_ok-check_before_memory.ensures.passed c.in_err-dim.ensures.memory)

pub returns-in_err-new_strides-clause-fault : goal.returns-in_err-new_strides-clause-fault
returns-in_err-new_strides-clause-fault g c =
    let same : shape_fault c.from_residual-in_err-new_strides.result ≡ None = search rules in
    same ∙ sym ((failed c.args.fit c.args.shape.now c.NDIM.ensures c.has_counts.ensures c.if-not-has_counts.false)
    ∙ no_fault c.out_ndim_of-ndim.result c.NDIM-2.ensures c.in_ok-check_before_memory.ensures.passed c.in_err-new_strides.ensures.memory)

pub returns-in_err-offset-clause-fault : goal.returns-in_err-offset-clause-fault
returns-in_err-offset-clause-fault g c =
    let same : shape_fault c.from_residual-in_err-offset.result ≡ Some c.in_err-offset.field-0.0 = search rules in
    same ∙ c.in_err-offset.ensures.fault ∙ sym (failed c.args.fit c.args.shape.now c.NDIM.ensures c.has_counts.ensures
    c.if-not-has_counts.false)

pub write_axes-requires-clause-counts : goal.write_axes-requires-clause-counts
write_axes-requires-clause-counts g c = (counted c.args.shape.now c.NDIM.ensures c.has_counts.ensures c.if-not-has_counts.false).in_fits

room : {n count : ℕ} {list lengths : List ℕ} → list ≡ lengths → lengths ≡ replicate n 0 → n ≡ count → length list ≡ count
room {n} same zeros is = ap length (same ∙ zeros) ∙ length-replicate n 0 ∙ is

pub write_axes-requires-clause-shape_room : goal.write_axes-requires-clause-shape_room
write_axes-requires-clause-shape_room g c = room c.slice_mut.ensures.list c.in_ok-dim.ensures.list c.out_ndim_of-ndim.ensures

pub write_axes-requires-clause-strides_room : goal.write_axes-requires-clause-strides_room
write_axes-requires-clause-strides_room g c = room c.slice_mut-2.ensures.list c.in_ok-new_strides.ensures.list c.out_ndim_of-ndim.ensures

pub returns-clause-shape : goal.returns-clause-shape
returns-clause-shape g c = g.met.E.Lengths.list_of_with_list c.in_ok-dim.dim c.write_axes.new.new_shape (c.write_axes.auto.new_shape
    ∙ ap length c.slice_mut.ensures.list) ∙ c.in_ok-offset.ensures.shape

pub returns-clause-strides : goal.returns-clause-strides
returns-clause-strides g c = ap all_signed (g.met.E.Lengths.list_of_with_list c.in_ok-new_strides.new_strides c.write_axes.new.new_strides
    (c.write_axes.auto.new_strides ∙ ap length c.slice_mut-2.ensures.list)) ∙ c.in_ok-offset.ensures.strides
