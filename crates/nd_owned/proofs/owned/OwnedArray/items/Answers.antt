-- The items are those at the places of the slice; where it has none, no allocation fails.
use Rattle.std.proofs.Common.{◌≡◌, length, map, sym, ap, subst, ◌∙◌}
use Rattle.std.proofs.lemmas.Bool.{false≢true}
use Rattle.ndarray_layout.specs.declared.Fit.TheVariants.{Strict}
use Rattle.ndarray_layout.specs.declared.Order.TheVariants.{RowMajor}
use Rattle.ndarray_layout.specs.Size.{size}
use Rattle.ndarray_layout.specs.SlicedLayout.{sliced_shape}
use Rattle.ndarray_layout.specs.SlicedView.{slice_of}
use Rattle.ndarray_layout.specs.View.{view_places}
use Rattle.ndarray_layout.proofs.Laws.View.{length-view_places}
use Rattle.nd_lent.specs.Items.{item_at_place}
use Rattle.nd_owned.specs.private.PickedView.{view_of_picked}
use Rattle.nd_owned.proofs.EvenRows.{slice_rows_in_bounds}
use Rattle.nd_owned.proofs.owned.OwnedArray.items.Goals as goal

pub read-requires : goal.read-requires
read-requires g c = rw (c.as_slice-2.ensures.value)
    (c.in_ok-part.ensures.in_bounds (length c.self.inside.items.items) c.self.invariant.within)

pub returns-clause-items : goal.returns-clause-items
returns-clause-items g c =
    let items = c.self.inside.items.items in
    let known = rw (c.as_slice-2.ensures.value) at c.in_ok-read.ensures.items in
    rw (← c.self.view_is) (known ∙ ap (λ view. map (item_at_place items) (view_places RowMajor view)) c.in_ok-part.ensures.part)

pub returns-in_err-read-clause-memory : goal.returns-in_err-read-clause-memory
returns-in_err-read-clause-memory g c = λ none.
    let elems = g.S.SliceElems.list c.args.slices.now in
    let empty : size (view_of_picked c.in_ok-part.part).shape ≡ 0 =
    ap (λ view. size view.shape) c.in_ok-part.ensures.part
    ∙ subst (λ array. size (sliced_shape Strict elems array.view.shape) ≡ 0) (sym c.self.view_is) none.none in
    absurd (false≢true (c.in_err-read.ensures.memory empty))

pub read_rows-requires : goal.read_rows-requires
read_rows-requires g c =
    let known = rw (c.in-Some.is) at c.in_ok-rows.ensures in
    rw (c.as_slice.ensures.value)
    (slice_rows_in_bounds c.self.inside.view c.elems.result.now _ c.self.invariant.is_view c.self.invariant.within known.fits known.places)

pub returns-in_err-read_rows-clause-memory : goal.returns-in_err-read_rows-clause-memory
returns-in_err-read_rows-clause-memory g c = λ none.
    let elems = g.S.SliceElems.list c.args.slices.now in
    let view = c.self.inside.view in
    let known = rw (c.in-Some.is, c.elems.ensures) at c.in_ok-rows.ensures in
    let empty = ap length known.places ∙ length-view_places RowMajor (slice_of Strict elems view)
    ∙ subst (λ array. size (sliced_shape Strict elems array.view.shape) ≡ 0) (sym c.self.view_is) none.none in
    absurd (false≢true (c.in_err-read_rows.ensures.memory empty))
