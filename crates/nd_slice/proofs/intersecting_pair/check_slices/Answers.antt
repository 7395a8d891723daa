-- The first slice that doesn't fit ends the check with its fault.
use Rattle.std.proofs.Common.{rules, ◌≡◌, ◌+◌, Some, map, drop, sym, ap, ◌∙◌}
use Rattle.std.specs.Option.{option_or}
use Rattle.std.specs.Result.{result_err}
use Rattle.nd_slice.proofs.Definitions.{argument_fault, slices_fault}
use Rattle.nd_slice.proofs.Slices.{ended, next}
use Rattle.nd_slice.proofs.intersecting_pair.check_slices.Goals as goal

pub returns-in_err-check_elems : goal.returns-in_err-check_elems
returns-in_err-check_elems g c =
    let list = g.S.SliceElems.list in
    let fault = argument_fault c.args.fit c.args.shape.now in
    let i = c.loop-slice.slice-index in
    let after = slices_fault c.args.fit c.args.shape.now (drop (i + 1) (map list c.args.slices.now)) in
    let kind = c.in_err-check_elems.field-0.0 in
    let same : result_err c.from_residual.result ≡ Some kind = search rules in
    same
    ∙ sym (c.loop-slice.invariant
    ∙ ap (slices_fault c.args.fit c.args.shape.now) (next list c.args.slices.now i c.loop-slice-test.true c.slice-item.is)
    ∙ ap (λ first. option_or first after) (ap fault (sym c.elems.ensures) ∙ sym c.in_err-check_elems.ensures))

pub loop-slice-preserved : goal.loop-slice-preserved
loop-slice-preserved g c =
    let list = g.S.SliceElems.list in
    let fault = argument_fault c.args.fit c.args.shape.now in
    let i = c.loop-slice.slice-index in
    let after = slices_fault c.args.fit c.args.shape.now (drop (i + 1) (map list c.args.slices.now)) in
    c.loop-slice.invariant
    ∙ ap (slices_fault c.args.fit c.args.shape.now) (next list c.args.slices.now i c.loop-slice-test.true c.slice-item.is)
    ∙ ap (λ first. option_or first after) (ap fault (sym c.elems.ensures) ∙ sym c.in_ok-check_elems.ensures)

pub returns : goal.returns
returns g c =
    sym (c.loop-slice.invariant
    ∙ ap (slices_fault c.args.fit c.args.shape.now)
    (ended g.S.SliceElems.list c.args.slices.now c.loop-slice.slice-index c.loop-slice-test.false))
