use Rattle.std.proofs.Common.{rules, ◌≡◌, Some, FitsSigned, arith, sym, ◌∙◌}
use Rattle.std.specs.Int.{w64}
use Rattle.std.specs.Result.{result_err}
use Rattle.std.proofs.lemmas.Int.{to_z-of_z}
use Rattle.ndarray_layout.proofs.SliceSteps.{axis_there, room_there, at_elem, at_both, slice_arm, slice_at_fault}
use Rattle.ndarray_layout.proofs.SliceSteps.{index_arm, index_within, new_axis_step}
use Rattle.ndarray_layout.proofs.strided.slicing.write_axes.Goals as goal
use Rattle.ndarray_layout.proofs.strided.slicing.write_axes.Goals.{in-Slice+in_ok-len-in-Slice, in-Index+in_ok-coordinate-in-Index}
use Rattle.ndarray_layout.proofs.strided.slicing.write_axes.Goals.{in-NewAxis}

pub slice_axis-requires : goal.slice_axis-requires
slice_axis-requires c =
    let at = at_both _ c.requires.valid c.loop-elem-test.true c.in-Slice.is (omega arith) c.loop-elem.invariant in
    record { len_fits = omega (arith, at.len_fits); span_fits = at.reach_fits }

pub overflow_add-offset : goal.overflow_add-offset
overflow_add-offset c =
    let f : FitsSigned w64 c.in-Slice.start = search rules in
    let g : FitsSigned w64 c.in-Slice.step = search rules in
    let h : FitsSigned w64 c.in_ok-len-in-Slice.moved = search rules in
    let known = rw (to_z-of_z w64 c.in-Slice.start f, to_z-of_z w64 c.in-Slice.step g) at c.in_ok-len-in-Slice.ensures in
    let at = at_both _ c.requires.valid c.loop-elem-test.true c.in-Slice.is (omega arith) c.loop-elem.invariant in
    (slice_arm c.in_ok-len-in-Slice.stride c.requires.valid at known.count known.stride
    (to_z-of_z w64 c.in_ok-len-in-Slice.moved h ∙ known.offset) (sym known.fault)).fits

pub returns-in_err-len-in-Slice-clause-fault : goal.returns-in_err-len-in-Slice-clause-fault
returns-in_err-len-in-Slice-clause-fault c =
    let f : FitsSigned w64 c.in-Slice.start = search rules in
    let g : FitsSigned w64 c.in-Slice.step = search rules in
    let known = rw (to_z-of_z w64 c.in-Slice.start f, to_z-of_z w64 c.in-Slice.step g) at c.in_err-len-in-Slice.ensures in
    let at = at_both _ c.requires.valid c.loop-elem-test.true c.in-Slice.is (omega arith) c.loop-elem.invariant in
    let same : result_err c.from_residual.result ≡ Some c.in_err-len-in-Slice.field-0.0 = search rules in
    same ∙ slice_at_fault known.fault at.so_far

pub stride_offset-offset-requires : goal.stride_offset-offset-requires
stride_offset-offset-requires c =
    let f : FitsSigned w64 c.in-Index.index = search rules in
    let known = rw (to_z-of_z w64 c.in-Index.index f) at c.in_ok-coordinate-in-Index.ensures in
    let at = at_both _ c.requires.valid c.loop-elem-test.true c.in-Index.is (omega arith) c.loop-elem.invariant in
    let coordinate = index_within at (sym known.fault) in
    let index = c.in_ok-coordinate-in-Index.coordinate in
    record { small = omega (arith, coordinate.small index known.coordinate); fits = coordinate.offset_fits index known.coordinate }

pub overflow_add-offset-in-Index : goal.overflow_add-offset-in-Index
overflow_add-offset-in-Index c =
    let h : FitsSigned w64 c.stride_offset-offset.result = search rules in
    let f : FitsSigned w64 c.in-Index.index = search rules in
    let known = rw (to_z-of_z w64 c.in-Index.index f) at c.in_ok-coordinate-in-Index.ensures in
    let at = at_both _ c.requires.valid c.loop-elem-test.true c.in-Index.is (omega arith) c.loop-elem.invariant in
    let moved = rw known.coordinate at c.stride_offset-offset.ensures in
    (index_arm _ c.requires.valid at (to_z-of_z w64 c.stride_offset-offset.result h ∙ moved) (sym known.fault)).fits

pub loop-elem-preserved : goal.loop-elem-preserved
loop-elem-preserved c =
    elim c.match-elem.branch [
      | in-Slice+in_ok-len-in-Slice w ↦
          let f : FitsSigned w64 w.in-Slice.start = search rules in
          let g : FitsSigned w64 w.in-Slice.step = search rules in
          let h : FitsSigned w64 w.in_ok-len-in-Slice.moved = search rules in
          let known = rw (to_z-of_z w64 w.in-Slice.start f, to_z-of_z w64 w.in-Slice.step g) at w.in_ok-len-in-Slice.ensures in
          let at = at_both _ c.requires.valid c.loop-elem-test.true w.in-Slice.is (omega arith) c.loop-elem.invariant in
          rw (w.old_axis-is, w.new_axis-is, w.new_shape-is, w.new_strides-is, w.offset-is)
          (slice_arm w.in_ok-len-in-Slice.stride c.requires.valid at known.count known.stride
          (to_z-of_z w64 w.in_ok-len-in-Slice.moved h ∙ known.offset)
          (sym known.fault)).next
      | in-Index+in_ok-coordinate-in-Index w ↦
          let h : FitsSigned w64 w.stride_offset-offset.result = search rules in
          let f : FitsSigned w64 w.in-Index.index = search rules in
          let known = rw (to_z-of_z w64 w.in-Index.index f) at w.in_ok-coordinate-in-Index.ensures in
          let at = at_both _ c.requires.valid c.loop-elem-test.true w.in-Index.is (omega arith) c.loop-elem.invariant in
          let moved = rw known.coordinate at w.stride_offset-offset.ensures in
          rw (w.old_axis-is, w.new_axis-is, w.new_shape-is, w.new_strides-is, w.offset-is)
          (index_arm _ c.requires.valid at (to_z-of_z w64 w.stride_offset-offset.result h ∙ moved) (sym known.fault)).next
      | in-NewAxis w ↦
          let here = at_elem _ c.loop-elem-test.true w.in-NewAxis.is c.loop-elem.invariant in
          rw (w.old_axis-is, w.new_axis-is, w.new_shape-is, w.new_strides-is, w.offset-is) (record { so_far = new_axis_step here })
    ]

pub bounds-shape-old_axis : goal.bounds-shape-old_axis
bounds-shape-old_axis c = (axis_there _ c.requires.valid c.loop-elem-test.true c.in-Slice.is (omega arith) c.loop-elem.invariant).0

pub bounds-strides-old_axis : goal.bounds-strides-old_axis
bounds-strides-old_axis c = (axis_there _ c.requires.valid c.loop-elem-test.true c.in-Slice.is (omega arith) c.loop-elem.invariant).1

pub bounds-new_shape-new_axis : goal.bounds-new_shape-new_axis
bounds-new_shape-new_axis c = (room_there _ c.loop-elem-test.true c.in-Slice.is (omega arith) c.loop-elem.invariant).0

pub bounds-new_strides-new_axis : goal.bounds-new_strides-new_axis
bounds-new_strides-new_axis c = (room_there _ c.loop-elem-test.true c.in-Slice.is (omega arith) c.loop-elem.invariant).1

pub bounds-shape-old_axis-in-Index : goal.bounds-shape-old_axis-in-Index
bounds-shape-old_axis-in-Index c = (axis_there _ c.requires.valid c.loop-elem-test.true c.in-Index.is (omega arith) c.loop-elem.invariant).0

pub bounds-strides-old_axis-in-Index : goal.bounds-strides-old_axis-in-Index
bounds-strides-old_axis-in-Index c = (axis_there _ c.requires.valid c.loop-elem-test.true c.in-Index.is (omega arith)
    c.loop-elem.invariant).1

pub bounds-new_shape-new_axis-in-NewAxis : goal.bounds-new_shape-new_axis-in-NewAxis
bounds-new_shape-new_axis-in-NewAxis c = (room_there _ c.loop-elem-test.true c.in-NewAxis.is (omega arith) c.loop-elem.invariant).0

pub bounds-new_strides-new_axis-in-NewAxis : goal.bounds-new_strides-new_axis-in-NewAxis
bounds-new_strides-new_axis-in-NewAxis c = (room_there _ c.loop-elem-test.true c.in-NewAxis.is (omega arith) c.loop-elem.invariant).1
