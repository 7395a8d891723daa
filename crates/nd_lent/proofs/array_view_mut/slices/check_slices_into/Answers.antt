-- The first slice with an error ends the check with it.
use Rattle.std.proofs.Common.{rules, ◌≡◌, ◌+◌, Some, map, drop, sym, ap, ◌∙◌}
use Rattle.std.specs.Option.{option_or}
use Rattle.std.specs.Result.{result_err}
use Rattle.ndarray_layout.specs.declared.Fit.TheVariants.{Strict}
use Rattle.nd_lent.specs.Slices.{view_slices_fault}
use Rattle.nd_access.proofs.Laws.Lists.{ended, next}
use Rattle.nd_lent.proofs.array_view_mut.slices.check_slices_into.Goals as goal

pub returns-in_err-check_slice_into : goal.returns-in_err-check_slice_into
returns-in_err-check_slice_into g c =
    let list = g.S.SliceElems.list in
    let i = c.loop-slice.slice-index in
    let all = view_slices_fault Strict c.args.fixed c.args.shape.now in
    let after = all (drop (i + 1) (map list c.args.slices.now)) in
    let kind = c.in_err-check_slice_into.field-0.0 in
    let same : result_err c.from_residual.result ≡ Some kind = search rules in
    same
    ∙ sym (c.loop-slice.invariant
    ∙ ap all (next list c.args.slices.now i c.loop-slice-test.true c.slice-item.is)
    ∙ ap (λ first. option_or first after) (sym c.in_err-check_slice_into.ensures))

pub loop-slice-preserved : goal.loop-slice-preserved
loop-slice-preserved g c =
    let list = g.S.SliceElems.list in
    let i = c.loop-slice.slice-index in
    let all = view_slices_fault Strict c.args.fixed c.args.shape.now in
    let after = all (drop (i + 1) (map list c.args.slices.now)) in
    c.loop-slice.invariant
    ∙ ap all (next list c.args.slices.now i c.loop-slice-test.true c.slice-item.is)
    ∙ ap (λ first. option_or first after) (sym c.in_ok-check_slice_into.ensures)

pub returns : goal.returns
returns g c =
    sym (c.loop-slice.invariant
    ∙ ap (view_slices_fault Strict c.args.fixed c.args.shape.now)
    (ended g.S.SliceElems.list c.args.slices.now c.loop-slice.slice-index c.loop-slice-test.false))
