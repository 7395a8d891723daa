-- The definitions that most proofs cite, passed on from one place. Declares nothing.
pub use Rattle.nd_base.proofs.Laws.Definitions.{all_signed, is_index, limit, magnitude, reach, signed}
pub use Rattle.nd_slice.specs.declared.fit.Fit.{Fit}
pub use Rattle.nd_slice.specs.declared.slice.Slice.{Slice}
pub use Rattle.nd_slice.specs.declared.elem.SliceInfoElem.{SliceInfoElem}
pub use Rattle.nd_slice.specs.SliceFault.{argument_fault, elem_fault, fault_of_each, first_fault, in_count, out_count}
pub use Rattle.nd_slice.specs.AxisElems.{axis_elems}
pub use Rattle.nd_slice.specs.Equation.{IsLeastMultiplier, IsLeastSolution, Solves, added_of, with_sign_of}
pub use Rattle.nd_slice.specs.Intersect.{Intersect, axis_picks, elem_picks}
pub use Rattle.nd_slice.specs.SlicedAxis.{first_offset, picked_stride}
pub use Rattle.nd_slice.specs.Picks.{between, directed, every, picks, range}
pub use Rattle.nd_slice.specs.SliceBounds.{end_meaning, is_bound, is_coordinate, meaning, nearest}
pub use Rattle.nd_slice.specs.SliceBounds.{slice_with, start_meaning}
pub use Rattle.nd_slice.specs.PicksIntersect.{PicksIntersect}
pub use Rattle.nd_slice.specs.Selected.{selected}
pub use Rattle.nd_slice.specs.Sequence.{InSequence, IntersectWithin, SequencesIntersect}
pub use Rattle.nd_slice.specs.AxisFault.{IndexFits, SliceFits, index_fault, is_within, slice_fault}
pub use Rattle.nd_slice.specs.SlicedLayout.{sliced_shape}
pub use Rattle.nd_slice.specs.RangesApart.{IsPast, elem_on, end_on, start_on}
pub use Rattle.nd_slice.specs.SlicesInOrder.{AreInOrder, position_of, slice_at}
pub use Rattle.nd_slice.specs.IntersectingPair.{AreApart, IntersectAt, IsIntersection, slices_fault}
