-- The definitions that most proofs cite, passed on from one place. Declares nothing.
pub use Rattle.nd_base.specs.Dim.{lengths, rewritten}
pub use Rattle.nd_base.specs.DistinctOffsets.{HasDistinctOffsets}
pub use Rattle.nd_base.specs.Indices.{below, indices, indices_column_major, indices_in, is_index}
pub use Rattle.nd_base.specs.Bounds.{IsInBounds, LiesInBounds}
pub use Rattle.nd_base.specs.Lengths.{IsCount}
pub use Rattle.nd_base.specs.Memory.{NeedsNoMemory}
pub use Rattle.nd_base.specs.Offset.{checked_offset, offset_of}
pub use Rattle.nd_base.specs.Place.{place, places}
pub use Rattle.nd_base.specs.FlatIndex.{index_of_flat, index_of_flat_in, flat_index, flat_index_in}
pub use Rattle.nd_base.specs.FarthestOffset.{farthest_offset}
pub use Rattle.nd_base.specs.AsRead.{as_read}
pub use Rattle.nd_base.specs.ShapeFault.{shape_fault}
pub use Rattle.nd_base.specs.Signed.{all_signed, magnitude, signed, unsigned}
pub use Rattle.nd_base.specs.Size.{is_empty, limit, nonzero_size, size}
pub use Rattle.nd_base.specs.Span.{high_span, low_span, reach, reach_down, reach_up, span, sum_over_axes}
pub use Rattle.nd_base.specs.ValidLayout.{IsValidLayout}
