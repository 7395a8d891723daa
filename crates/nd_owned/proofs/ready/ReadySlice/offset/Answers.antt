-- Where there is a row, an index by which the slice can be moved is one of the shape, so its offset fits.
use Rattle.std.proofs.Common.{◌≡◌, ◌<◌, true, length, pos_of_ne-zero, sym, ap, subst, ◌∙◌, arith}
use Rattle.std.proofs.lemmas.Bool.{both_ways}
use Rattle.ndarray_layout.specs.declared.Fit.TheVariants.{Strict}
use Rattle.ndarray_layout.specs.declared.Order.TheVariants.{RowMajor}
use Rattle.ndarray_layout.specs.Indices.{is_index}
use Rattle.ndarray_layout.specs.Signed.{all_signed}
use Rattle.ndarray_layout.specs.Size.{size}
use Rattle.ndarray_layout.specs.SlicedLayout.{sliced_shape}
use Rattle.ndarray_layout.specs.SlicedView.{slice_of}
use Rattle.ndarray_layout.specs.ValidLayout.{IsValidLayout}
use Rattle.ndarray_layout.proofs.Laws.Offset.{CanAddUp, index_can_add_up}
use Rattle.ndarray_layout.proofs.Laws.Rows.{no_more}
use Rattle.ndarray_layout.proofs.Laws.View.{length-view_places}
use Rattle.nd_owned.specs.Moved.{moves}
use Rattle.nd_owned.specs.private.OneOrMany.{items_of}
use Rattle.nd_owned.proofs.Moved.{moved_here}
use Rattle.nd_owned.proofs.MovedRows.{no_places_of_none}
use Rattle.nd_owned.proofs.ready.ReadySlice.offset.Goals as goal

pub index_offset-requires : goal.index_offset-requires
index_offset-requires g c =
    let view = c.self.inside.view in
    let elems = items_of c.self.inside.elems in
    let index = c.slice-3.result.now in
    let strides = c.slice-4.result.now in
    let rows = items_of c.self.inside.rows in
    let some : 0 < size (sliced_shape Strict elems view.shape) = omega (
      arith,
      pos_of_ne-zero (λ none. both_ways c.is_empty.result c.if-is_empty.false (c.is_empty.ensures.1 none)),
      no_more rows c.self.invariant.some,
      ap length c.self.invariant.places,
      length-view_places RowMajor (slice_of Strict elems view),
    ) in
    let here : is_index (moves elems view.shape) index ≡ true =
    subst (λ xs. is_index xs index ≡ true) (c.slice.ensures.list ∙ c.self.invariant.moves)
    (subst (λ ys. is_index c.slice.result.now ys ≡ true) (c.slice-2.ensures.list ∙ sym c.slice-3.ensures.list)
    (sym c.if-not-is_index.ensures)) in
    let valid : IsValidLayout view.shape (all_signed strides) =
    subst (IsValidLayout view.shape) (sym (ap all_signed c.slice-4.ensures.list ∙ c.strides.ensures.list))
    c.strides.ensures.is_view.valid in
    let can : CanAddUp strides index =
    index_can_add_up view.shape strides index valid
    (moved_here view elems index c.strides.ensures.is_view c.self.invariant.fits here some) in
    record { small = can.small; fits = can.fits }

pub returns-then-is_empty-clause-offset : goal.returns-then-is_empty-clause-offset
returns-then-is_empty-clause-offset g c = λ some.
    let view = c.self.inside.view in
    let elems = items_of c.self.inside.elems in
    absurd (omega (
      arith,
      some,
      ap (λ ready. size (sliced_shape Strict ready.elems ready.view.shape)) c.self.view_is,
      no_places_of_none (items_of c.self.inside.rows) (c.is_empty.ensures.0 c.if-is_empty.true),
      ap length c.self.invariant.places,
      length-view_places RowMajor (slice_of Strict elems view),
    ))
