-- The slice fits, since it could be made; its rows are those listed.
use Rattle.std.proofs.Common.{None, length, sym, ap, ◌∙◌, arith}
use Rattle.std.proofs.lemmas.Bool.{false≢true}
use Rattle.ndarray_layout.specs.declared.Fit.TheVariants.{Strict}
use Rattle.ndarray_layout.proofs.Laws.SliceFault.{elements_of_no_fault}
use Rattle.nd_owned.proofs.FewRows.{few_axes, needs_none}
use Rattle.ndarray_layout.specs.declared.Order.TheVariants.{RowMajor}
use Rattle.ndarray_layout.specs.View.{view_places}
use Rattle.ndarray_layout.proofs.Laws.View.{length-view_places}
use Rattle.nd_owned.specs.private.MovedRows.{AreReady}
use Rattle.nd_owned.specs.private.OneOrMany.{items_of}
use Rattle.nd_owned.proofs.ready.ReadySlice.new.Goals as goal

pub invariant_of-result : goal.invariant_of-result
invariant_of-result g c =
    let view = c.args.view.now in
    let elems = g.S.SliceElems.list c.args.slices.now in
    let part = c.in_ok-part.ensures.sliced in
    let places = c.in_ok-rows.ensures.places ∙ ap (view_places RowMajor) part in
    let made : AreReady view elems (g.D.Lengths.list c.in_ok-moves.moves) (items_of c.in_ok-rows.rows) c.len-count.result = record {
      fits = sym c.in_ok-part.ensures.fault;
      moves = rw (← c.elems.ensures) c.in_ok-moves.ensures.moves;
      places = places;
      some = c.in_ok-rows.ensures.some;
      count = c.len-count.ensures.size ∙ sym (length-view_places RowMajor c.in_ok-part.part) ∙ sym (ap length c.in_ok-rows.ensures.places);
    } in
    rw (c.in_ok-view.ensures.view, c.in_ok-elems.ensures.items, c.elems-2.ensures) made

pub returns-in_err-part-clause-memory : goal.returns-in_err-part-clause-memory
returns-in_err-part-clause-memory g c = λ fits few.
    let axes = few_axes (g.S.SliceElems.list c.args.slices.now) c.args.view.now.shape few in
    absurd (false≢true (c.in_err-part.ensures.memory fits (needs_none None _ axes.1)))

pub returns-in_err-rows-clause-memory : goal.returns-in_err-rows-clause-memory
returns-in_err-rows-clause-memory g c = λ fits few.
    let axes = few_axes (g.S.SliceElems.list c.args.slices.now) c.args.view.now.shape few in
    absurd (false≢true (c.in_err-rows.ensures.memory (omega (arith, axes.2, ap (λ view. length view.shape) c.in_ok-part.ensures.sliced))))

pub returns-in_err-moves-clause-memory : goal.returns-in_err-moves-clause-memory
returns-in_err-moves-clause-memory g c = λ fits few.
    let elems = g.S.SliceElems.list c.args.slices.now in
    let counts = (elements_of_no_fault Strict c.args.view.now.shape elems fits).0 in
    let axes = few_axes elems c.args.view.now.shape few in
    absurd (false≢true (c.in_err-moves.ensures.memory (needs_none g.D.FixedCount.NDIM _ (omega (arith, axes.0, counts)))))

pub returns-in_err-view-clause-memory : goal.returns-in_err-view-clause-memory
returns-in_err-view-clause-memory g c = λ fits few.
    let elems = g.S.SliceElems.list c.args.slices.now in
    let counts = (elements_of_no_fault Strict c.args.view.now.shape elems fits).0 in
    let axes = few_axes elems c.args.view.now.shape few in
    absurd (false≢true (c.in_err-view.ensures.memory (needs_none g.D.FixedCount.NDIM _ (omega (arith, axes.0, counts)))))
