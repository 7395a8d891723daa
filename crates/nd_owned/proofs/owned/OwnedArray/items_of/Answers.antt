-- The rows of the slice lie at the offset of the index, and have the places of the slice that it is then.
use Rattle.std.proofs.Common.{rules, FitsSigned, ◌≡◌, ℕ, List, Some, length, map, sym, ap, subst, ◌∙◌}
use Rattle.std.specs.Int.{w64}
use Rattle.std.proofs.lemmas.Bool.{false≢true}
use Rattle.std.proofs.lemmas.Int.{to_z-of_z}
use Rattle.ndarray_layout.specs.declared.Fit.TheVariants.{Strict}
use Rattle.ndarray_layout.specs.declared.Order.TheVariants.{RowMajor}
use Rattle.ndarray_layout.specs.Rows.{rows_places}
use Rattle.ndarray_layout.specs.Size.{size}
use Rattle.ndarray_layout.specs.SlicedLayout.{sliced_shape}
use Rattle.ndarray_layout.specs.SlicedView.{slice_of}
use Rattle.ndarray_layout.specs.View.{IsView, LiesWithin, view_places}
use Rattle.ndarray_layout.proofs.Laws.View.{length-view_places}
use Rattle.nd_lent.specs.Items.{item_at_place}
use Rattle.nd_owned.specs.Moved.{ready_at}
use Rattle.nd_owned.specs.private.OneOrMany.{items_of}
use Rattle.nd_owned.specs.private.MovedRows.{moved_rows}
use Rattle.nd_owned.proofs.Tiles.{AreMoved, as_many_there, can_move, in_bounds_there, places_there}
use Rattle.nd_owned.proofs.owned.OwnedArray.items_of.Goals as goal

pub read_moved-requires : goal.read_moved-requires
read_moved-requires g c =
    let ready = c.args.ready.now in
    let index : List ℕ = g.D.Lengths.list c.args.by.now in
    let f : FitsSigned w64 c.in_ok-offset.offset = search rules in
    let same = c.in_ok-offset.ensures.same in
    let are : AreMoved ready.view ready.elems (items_of c.rows.result.now) index c.in_ok-offset.offset = record {
      is_view = subst IsView (sym same) c.self.invariant.is_view;
      fits = c.rows.ensures.fits;
      places = c.rows.ensures.places;
      some = c.rows.ensures.some;
      here = c.in_ok-offset.ensures.index;
      far = c.in_ok-offset.ensures.offset;
    } in
    rw (to_z-of_z w64 c.in_ok-offset.offset f, c.as_slice.ensures.value) (record {
      starts = can_move are;
      in_bounds = in_bounds_there are (subst (LiesWithin (length c.self.inside.items.items)) (sym same) c.self.invariant.within);
      count = c.count.ensures ∙ sym (ap length c.rows.ensures.places) ∙ sym (as_many_there are);
    })

pub returns-clause-items : goal.returns-clause-items
returns-clause-items g c =
    let ready = c.args.ready.now in
    let index : List ℕ = g.D.Lengths.list c.args.by.now in
    let f : FitsSigned w64 c.in_ok-offset.offset = search rules in
    let same = c.in_ok-offset.ensures.same in
    let rows = items_of c.rows.result.now in
    let got = item_at_place c.as_slice.result.now in
    let are : AreMoved ready.view ready.elems rows index c.in_ok-offset.offset = record {
      is_view = subst IsView (sym same) c.self.invariant.is_view;
      fits = c.rows.ensures.fits;
      places = c.rows.ensures.places;
      some = c.rows.ensures.some;
      here = c.in_ok-offset.ensures.index;
      far = c.in_ok-offset.ensures.offset;
    } in
    let made : map Some c.in_ok-items.items.items
    ≡ map (item_at_place c.self.inside.items.items) (view_places RowMajor (slice_of Strict (ready_at ready index) c.self.inside.view)) =
    c.in_ok-items.ensures.items
    ∙ ap (λ n. map got (rows_places (moved_rows n rows))) (to_z-of_z w64 c.in_ok-offset.offset f)
    ∙ ap (map got) (places_there are)
    ∙ ap (λ items. map (item_at_place items) (view_places RowMajor (slice_of Strict (ready_at ready index) ready.view)))
    c.as_slice.ensures.value
    ∙ ap (λ view. map (item_at_place c.self.inside.items.items)
    (view_places RowMajor (slice_of Strict (ready_at ready index) view))) same in
    subst (λ array. map Some c.in_ok-items.items.items
    ≡ map (item_at_place array.items) (view_places RowMajor (slice_of Strict (ready_at ready index) array.view))) c.self.view_is made

pub returns-in_err-items-clause-memory : goal.returns-in_err-items-clause-memory
returns-in_err-items-clause-memory g c = λ fits none.
    let ready = c.args.ready.now in
    let same = c.in_ok-offset.ensures.same in
    absurd (false≢true (c.in_err-items.ensures.memory
    (c.count.ensures
    ∙ length-view_places RowMajor (slice_of Strict ready.elems ready.view)
    ∙ ap (λ view. size (sliced_shape Strict ready.elems view.shape)) (same ∙ ap (λ array. array.view) c.self.view_is)
    ∙ none)))
