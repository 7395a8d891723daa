use Rattle.std.proofs.Common.{rules, ◌≡◌, ◌<◌, ◌^◌, refl, sym, ◌∙◌}
use Rattle.std.proofs.lemmas.Bool.{both_ways}
use Rattle.std.proofs.lemmas.List.Elements.{All-same}
use Rattle.nd_slice.proofs.Laws.SliceFault.{elements_of_no_fault}
use Rattle.nd_slice.proofs.Laws.AxisElems.{lens_of_axis_elems}
use Rattle.nd_slice.proofs.Laws.Intersect.{intersect_by_axis}
use Rattle.nd_slice.proofs.intersect_lemmas.Intersecting.{lens_of, go_on, stop, at_end}
use Rattle.nd_slice.proofs.Definitions.{axis_elems}
use Rattle.nd_slice.proofs.intersect.elems_share_all.Goals as goal

pub loop-len-init : goal.loop-len-init
loop-len-init c =
    let fit = c.args.fit in
    let shape = c.args.shape.now in
    let parts = elements_of_no_fault fit shape c.args.first.now c.requires.first_fits in
    let others = elements_of_no_fault fit shape c.args.second.now c.requires.second_fits in
    let lens = lens_of_axis_elems shape c.args.first.now parts.0 in
    let other_lens = lens_of_axis_elems shape c.args.second.now others.0 in
    let one : c.into_iter-len-iterator.result ≡ axis_elems shape c.args.first.now = search rules in
    rw (one, c.new-others.ensures) (record {
      small = All-same (λ n. n < 2 ^ 63) (lens_of (axis_elems shape c.args.first.now)) shape lens c.requires.lens_fit;
      lens = lens ∙ sym other_lens;
      fits = parts.1;
      other_fits = others.1;
      same = (λ all. all, λ all. all);
    })

pub returns-then-not-elems_share : goal.returns-then-not-elems_share
returns-then-not-elems_share c =
    let by_axis = intersect_by_axis c.args.fit c.args.shape.now c.args.first.now c.args.second.now c.requires.first_fits in (
      λ is. absurd (cc),
      λ intersect. absurd (stop c.loop-len.invariant c.in-Some.ensures.steps c.in-Some-next.ensures.steps
          (λ both. both_ways c.elems_share.result c.if-not-elems_share.true (c.elems_share.ensures.1 both)) (by_axis.0 intersect)),
    )

pub loop-len-preserved : goal.loop-len-preserved
loop-len-preserved c =
    go_on c.loop-len.invariant c.in-Some.ensures.steps c.in-Some-next.ensures.steps (c.elems_share.ensures.0 c.if-not-elems_share.false)

pub returns : goal.returns
returns c =
    let by_axis = intersect_by_axis c.args.fit c.args.shape.now c.args.first.now c.args.second.now c.requires.first_fits in
    (λ is. by_axis.1 (at_end c.loop-len.invariant c.in-None.ensures.steps.0), λ intersect. refl)
