-- One more slice begins a row, or lies past those of the row; where all do, no two share an index.
use Rattle.std.proofs.Common.{◌≡◌, ◌≤◌, map, ap, subst, ◌∙◌, arith}
use Rattle.std.proofs.lemmas.List.{length-map}
use Rattle.nd_slice.proofs.Definitions.{end_on, slice_at, start_on}
use Rattle.nd_slice.proofs.Slices.{all_apart}
use Rattle.nd_slice.proofs.SlicesInRows.{OneMore, new_row, same_row}
use Rattle.nd_slice.proofs.slices_in_rows.lie_in_rows.Goals as goal
use Rattle.nd_slice.proofs.slices_in_rows.lie_in_rows.Goals.{then-below-top, else-below-top+then-above-top+then-left-start}

pub loop-turn-preserved : goal.loop-turn-preserved
loop-turn-preserved g c =
    let fit = c.args.fit in
    let shape = c.args.shape.now in
    let slices = map g.S.SliceElems.list c.args.slices.now in
    let backwards = g.R.Direction.backwards in
    let so_far = c.loop-turn in
    let at = slice_at slices backwards so_far.turn in
    let top : c.in-Some.top ≡ start_on fit shape 0 at =
    c.in-Some.ensures.start ∙ ap (start_on fit shape 0) c.elems_at-slice.ensures.slice in
    let bottom : c.in-Some.bottom ≡ end_on fit shape 0 at =
    c.in-Some.ensures.end ∙ ap (end_on fit shape 0) c.elems_at-slice.ensures.slice in
    let start : c.in-Some-range_on.start ≡ start_on fit shape 1 at =
    c.in-Some-range_on.ensures.start ∙ ap (start_on fit shape 1) c.elems_at-slice.ensures.slice in
    let end : c.in-Some-range_on.end ≡ end_on fit shape 1 at =
    c.in-Some-range_on.ensures.end ∙ ap (end_on fit shape 1) c.elems_at-slice.ensures.slice in
    let more : OneMore fit shape slices backwards so_far.turn = record {
      none = c.requires.fit;
      two = c.in-Some-range_on.ensures.there;
      under = omega (arith, c.loop-turn-test.true, length-map c.args.slices.now g.S.SliceElems.list);
    } in
    elim c.if-below-top.branch [
      | then-below-top w ↦ rw (w.above-is, w.left-is, c.max-below.ensures, bottom, end)
          (new_row fit shape slices backwards so_far.turn so_far.above so_far.below so_far.left more
          (subst (λ t. so_far.below ≤ t) top w.if-below-top.true) so_far.invariant)
      | else-below-top+then-above-top+then-left-start w ↦
          rw (w.above-is, w.left-is, w.max-left.ensures, c.max-below.ensures, bottom, end)
          (same_row fit shape slices backwards so_far.turn so_far.above so_far.below so_far.left more
          (subst (λ t. so_far.above ≤ t) top w.if-above-top.true) (subst (λ s. so_far.left ≤ s) start w.if-left-start.true)
          so_far.invariant)
    ]

pub returns : goal.returns
returns g c = λ is.
    all_apart c.args.fit c.args.shape.now (map g.S.SliceElems.list c.args.slices.now) g.R.Direction.backwards
    (λ turn later order below. c.loop-turn.invariant.apart later
    (omega (arith, below, c.loop-turn-test.false, length-map c.args.slices.now g.S.SliceElems.list)) turn order)
