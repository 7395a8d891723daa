-- One more slice has its part, or none where it picks nothing; only an allocation can fail.
use Rattle.std.proofs.Common.{◌≡◌, None, length, map, sym, ap, ◌∙◌}
use Rattle.std.specs.List.{flat_map}
use Rattle.std.proofs.lemmas.Bool.{eq-eqb, eqb-true, false≢true}
use Rattle.ndarray_layout.specs.declared.Fit.TheVariants.{Strict}
use Rattle.ndarray_layout.specs.declared.Order.TheVariants.{RowMajor}
use Rattle.ndarray_layout.specs.SliceFault.{argument_fault}
use Rattle.ndarray_layout.specs.Size.{size}
use Rattle.ndarray_layout.specs.SlicedView.{slice_of}
use Rattle.ndarray_layout.specs.View.{LiesWithin, view_places}
use Rattle.ndarray_layout.proofs.Laws.View.{length-view_places}
use Rattle.nd_owned.specs.declared.picked_view.PickedView.{PickedView}
use Rattle.nd_owned.specs.private.PickedView.{picked_places, view_of_picked}
use Rattle.nd_owned.specs.MultiSet.{write_of, write_places}
use Rattle.nd_owned.proofs.Faults.{all_pushed, ended, have_counts}
use Rattle.nd_lent.proofs.Laws.Faults.{handed_on}
use Rattle.nd_lent.proofs.Laws.Lists.{next, of_this}
use Rattle.nd_owned.proofs.Placed.{parts_ended, parts_pushed, parts_skipped}
use Rattle.nd_owned.proofs.Slices.{each_count, each_fits}
use Rattle.nd_owned.proofs.multi_set.picked_views.Goals as goal

pub loop-slice-preserved-then-is_empty : goal.loop-slice-preserved-then-is_empty
loop-slice-preserved-then-is_empty g c =
    let i = c.loop-slice.slice-index in
    let item = c.loop-slice-item.result in
    let view = c.args.view.now in
    let writes = map write_of c.args.writes.now in
    let first = next write_of c.args.writes.now i c.loop-slice-test.true c.loop-slice-item.is in
    let none : length item.1.items ≡ 0 = sym item.1.ok.0 ∙ eqb-true item.1.len 0 (sym c.is_empty.ensures ∙ c.if-is_empty.true) in
    let as_many = of_this (λ write. length (write_places view write) ≡ length write.items) write_of c.args.writes.now i
    c.loop-slice-test.true c.loop-slice-item.is
    (each_count view writes (have_counts view.shape writes c.requires).counts) in
    record {
      places = parts_skipped (write_places view) (flat_map (λ one. picked_places one.view) c.loop-slice.parts.items) first
          (as_many ∙ none) c.loop-slice.invariant.places;
      items = parts_skipped (λ write. write.items)
          (flat_map (λ one. one.items.now) c.loop-slice.parts.items) first none c.loop-slice.invariant.items;
      counts = c.loop-slice.invariant.counts;
      in_bounds = c.loop-slice.invariant.in_bounds;
    }

pub returns-in_err-part-clause-fault : goal.returns-in_err-part-clause-fault
returns-in_err-part-clause-fault g c =
    let view = c.args.view.now in
    let writes = map write_of c.args.writes.now in
    let fits = of_this (λ write. argument_fault Strict view.shape write.slice ≡ None) write_of c.args.writes.now c.loop-slice.slice-index
    c.loop-slice-test.true
    c.loop-slice-item.is (each_fits view.shape writes (have_counts view.shape writes c.requires).fit) in
    handed_on PickedView c.from_residual.result c.in_err-part.field-0.0 c.from_residual.ensures.1 (c.in_err-part.ensures.fault ∙ fits)

pub returns-in_err-part-clause-memory : goal.returns-in_err-part-clause-memory
returns-in_err-part-clause-memory g c = λ none.
    let item = c.loop-slice-item.result in
    let empty : length item.1.items ≡ 0 =
    of_this (λ write. length write.items ≡ 0) write_of c.args.writes.now c.loop-slice.slice-index c.loop-slice-test.true
    c.loop-slice-item.is none in
    absurd (false≢true (sym c.if-is_empty.false ∙ c.is_empty.ensures ∙ eq-eqb item.1.len 0 (item.1.ok.0 ∙ empty)))

pub returns-in_err-push-clause-memory : goal.returns-in_err-push-clause-memory
returns-in_err-push-clause-memory g c = λ none.
    let item = c.loop-slice-item.result in
    let empty : length item.1.items ≡ 0 =
    of_this (λ write. length write.items ≡ 0) write_of c.args.writes.now c.loop-slice.slice-index c.loop-slice-test.true
    c.loop-slice-item.is none in
    absurd (false≢true (sym c.if-is_empty.false ∙ c.is_empty.ensures ∙ eq-eqb item.1.len 0 (item.1.ok.0 ∙ empty)))

pub loop-slice-preserved : goal.loop-slice-preserved
loop-slice-preserved g c =
    let i = c.loop-slice.slice-index in
    let item = c.loop-slice-item.result in
    let view = c.args.view.now in
    let writes = map write_of c.args.writes.now in
    let old = c.loop-slice.parts.items in
    let pushed = c.in_ok-push.ensures.items in
    let part = c.in_ok-part.ensures.part in
    let first = next write_of c.args.writes.now i c.loop-slice-test.true c.loop-slice-item.is in
    let as_many = of_this (λ write. length (write_places view write) ≡ length write.items) write_of c.args.writes.now i
    c.loop-slice-test.true c.loop-slice-item.is
    (each_count view writes (have_counts view.shape writes c.requires).counts) in
    record {
      places = parts_pushed (λ one. picked_places one.view) (write_places view) old pushed first (ap (view_places RowMajor) part)
          c.loop-slice.invariant.places;
      items = parts_pushed (λ one. one.items.now) (λ write. write.items) old pushed first c.as_slice-items.ensures.value
          c.loop-slice.invariant.items;
      counts = all_pushed (λ one. size (view_of_picked one.view).shape ≡ length one.items.now) old _ pushed c.loop-slice.invariant.counts
          (ap (λ view. size view.shape) part ∙ sym (length-view_places RowMajor (slice_of Strict item.0.items view)) ∙ as_many
          ∙ sym (ap length c.as_slice-items.ensures.value));
      in_bounds = λ len within. all_pushed (λ one. LiesWithin len (view_of_picked one.view)) old _ pushed
          (c.loop-slice.invariant.in_bounds len within) (c.in_ok-part.ensures.in_bounds len within);
    }

pub returns-clause-places : goal.returns-clause-places
returns-clause-places g c =
    parts_ended (write_places c.args.view.now) (flat_map (λ one. picked_places one.view) c.loop-slice.parts.items)
    (ended write_of c.args.writes.now c.loop-slice.slice-index c.loop-slice-test.false)
    c.loop-slice.invariant.places

pub returns-clause-items : goal.returns-clause-items
returns-clause-items g c =
    parts_ended (λ write. write.items) (flat_map (λ one. one.items.now) c.loop-slice.parts.items)
    (ended write_of c.args.writes.now c.loop-slice.slice-index c.loop-slice-test.false)
    c.loop-slice.invariant.items
