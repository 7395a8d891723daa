use Rattle.std.proofs.Common.{◌≡◌, ◌<◌, ◌≤◌, ◌-◌, ◌*◌, pos, length, arith, sym, ap, refl, ◌∙◌, get_or, mul-le-mul_right}
use Rattle.std.proofs.lemmas.Bool.{both_ways}
use Rattle.std.proofs.lemmas.List.{length-map, get_or-map, get_or-set_same}
use Rattle.nd_base.specs.Signed.{all_signed, magnitude, signed}
use Rattle.nd_base.specs.Span.{reach}
use Rattle.nd_base.proofs.Laws.NonzeroSize.{length_le_nonzero_size}
use Rattle.nd_shape.proofs.MergedStride.{short_taken, into_short, steps_on, steps_on_from_fit, two_lengths_le, two_reaches_le}
use Rattle.nd_shape.proofs.merge.merge_fitting.Goals as goal
use Rattle.nd_shape.proofs.merge.merge_fitting.Goals.{then-take_len-gt1+then-into_len-le1}
use Rattle.nd_shape.proofs.merge.merge_fitting.Goals.{then-take_len-gt1+else-into_len-le1+else-not-goes_on, else-take_len-gt1}

pub goes_on-requires-clause-small : goal.goes_on-requires-clause-small
goes_on-requires-clause-small c =
    omega (arith, c.requires.valid.size_fits, length_le_nonzero_size c.args.shape.now c.args.into)

pub goes_on-requires-clause-fits : goal.goes_on-requires-clause-fits
goes_on-requires-clause-fits c =
    let shape = c.args.shape.now in
    let strides = c.args.strides.now in
    let count = c.requires.valid.same_count in
    let taken : get_or (all_signed strides) c.args.take (pos 0) ≡ signed (get_or strides c.args.take 0) =
    get_or-map signed strides c.args.take 0 (pos 0) (omega (arith, c.requires.take, count, length-map strides signed)) in
    let kept : get_or (all_signed strides) c.args.into (pos 0) ≡ signed (get_or strides c.args.into 0) =
    get_or-map signed strides c.args.into 0 (pos 0) (omega (arith, c.requires.into, count, length-map strides signed)) in
    let far : 1 * magnitude (signed (get_or strides c.args.take 0))
    ≤ (get_or shape c.args.take 0 - 1) * magnitude (signed (get_or strides c.args.take 0)) =
    mul-le-mul_right (magnitude (signed (get_or strides c.args.take 0))) (omega arith) in
    omega (
      arith,
      far,
      ap (reach (get_or shape c.args.take 0)) taken,
      ap (reach (get_or shape c.args.into 0)) kept,
      two_reaches_le shape (all_signed strides) c.args.take c.args.into (c.requires.take, c.requires.into) count c.requires.apart,
      c.requires.valid.span_fits,
    )

pub returns-then-not-goes_on-clause-fits : goal.returns-then-not-goes_on-clause-fits
returns-then-not-goes_on-clause-fits c =
    let take_len = get_or c.args.shape.now c.args.take 0 in
    let into_len = get_or c.args.shape.now c.args.into 0 in
    let take_stride = signed (get_or c.args.strides.now c.args.take 0) in
    let into_stride = signed (get_or c.args.strides.now c.args.into 0) in
    let taken : 1 < take_len = omega (arith, c.if-take_len-gt1.true) in
    let into : 1 < into_len = omega (arith, c.if-into_len-le1.false) in (
      λ some. absurd (cc),
      λ fits.
          absurd (both_ways c.goes_on.result c.if-not-goes_on.true
          (c.goes_on.ensures.1 (steps_on_from_fit take_len take_stride into_len into_stride taken into fits))),
    )

pub overflow_mul-merged_len : goal.overflow_mul-merged_len
overflow_mul-merged_len c =
    omega (
      arith,
      c.requires.valid.size_fits,
      two_lengths_le c.args.shape.now c.args.into c.args.take c.requires.into c.requires.take (λ e. c.requires.apart (sym e)),
    )

pub returns-clause-serves : goal.returns-clause-serves
returns-clause-serves c =
    let take_len = get_or c.args.shape.now c.args.take 0 in
    let into_len = get_or c.args.shape.now c.args.into 0 in
    let strides = c.args.strides.now in
    let take_stride = signed (get_or strides c.args.take 0) in
    let into_stride = signed (get_or strides c.args.into 0) in
    let lies : c.args.into < length strides = omega (arith, c.requires.valid.same_count, length-map strides signed, c.requires.into) in
    elim c.if-take_len-gt1.branch [
      | then-take_len-gt1+then-into_len-le1 w ↦
          let written = ap (λ l. get_or l c.args.into 0) w.strides-is
          ∙ get_or-set_same strides c.args.into (get_or strides c.args.take 0) 0 lies in
          rw written (into_short take_len take_stride into_len into_stride (omega (arith, w.if-into_len-le1.true)))
      | then-take_len-gt1+else-into_len-le1+else-not-goes_on w ↦
          rw w.strides-is (steps_on take_len take_stride into_len into_stride (w.goes_on.ensures.0 w.if-not-goes_on.false))
      | else-take_len-gt1 w ↦
          rw w.strides-is (short_taken take_len take_stride into_len into_stride (omega (arith, w.if-take_len-gt1.false)))
    ]

pub returns-clause-fits : goal.returns-clause-fits
returns-clause-fits c =
    (λ some. (signed (get_or c.if-take_len-gt1.strides c.args.into 0), returns-clause-serves c), λ fits. refl)
