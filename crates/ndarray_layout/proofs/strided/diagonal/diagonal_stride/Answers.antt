-- Each axis has two coordinates, so its stride reaches no further than the axis does, and the sum of all fits.
use Rattle.std.proofs.Common.{rules, ◌≡◌, ℕ, suc, ◌+◌, ◌-◌, ◌*◌, ◌<◌, ◌≤◌, ℤ, pos, negsuc, neg_ℤ, ◌+ℤ◌, ◌≤ℤ◌, FitsSigned, to_z, of_z, w64}
use Rattle.std.proofs.Common.{get_or, length, ◌∙◌, arith}
use Rattle.std.proofs.Math.Nat.{mul-le-mul_right}
use Rattle.std.proofs.lemmas.Int.{ints, to_z-of_z}
use Rattle.std.proofs.lemmas.List.{get_or-map, length-map}
use Rattle.std.proofs.lemmas.List.Sums.{fold_more}
use Rattle.nd_base.proofs.Laws.Definitions.{all_signed, limit, reach, signed}
use Rattle.nd_base.proofs.Laws.Span.{sum_from, sum_from_step}
use Rattle.ndarray_layout.proofs.Laws.DiagonalView.{diagonal_len_below}
use Rattle.ndarray_layout.proofs.strided.diagonal.diagonal_stride.Goals as goal
use Rattle.ndarray_layout.proofs.strided.diagonal.diagonal_stride.Goals.{After-signed-sum, In-loop-stride}

-- a stride is no further than the axis reaches
stride_bounds : (len : ℕ) (stride : ℤ) → 2 ≤ len → (neg_ℤ (pos (reach len stride)) ≤ℤ stride) × (stride ≤ℤ pos (reach len stride))
stride_bounds len (pos s) h =
    let one : 1 ≤ len - 1 = omega arith in
    let far : 1 * s ≤ (len - 1) * s = mul-le-mul_right s one in
    (omega (arith, ints), omega (arith, ints))
stride_bounds len (negsuc s) h =
    let one : 1 ≤ len - 1 = omega arith in
    let far : 1 * suc s ≤ (len - 1) * suc s = mul-le-mul_right (suc s) one in
    (omega (arith, ints), omega (arith, ints))

-- one stride more, where the reaches of the axes still to come fit beside it
record IsAdded (sum stride : ℤ) (rest : ℕ) : Type 0 where
  pub fits : FitsSigned w64 (sum +ℤ stride)
  pub low : pos rest ≤ℤ ((sum +ℤ stride) +ℤ pos limit)
  pub high : ((sum +ℤ stride) +ℤ pos rest) ≤ℤ pos limit

added : (sum stride : ℤ) (len rest : ℕ) → 2 ≤ len → pos (reach len stride + rest) ≤ℤ (sum +ℤ pos limit)
    → (sum +ℤ pos (reach len stride + rest)) ≤ℤ pos limit → IsAdded sum stride rest
added sum stride len rest more low high =
    let bounds = stride_bounds len stride more in
    record {
      fits = omega (arith, ints, bounds, low, high);
      low = omega (arith, ints, bounds, low);
      high = omega (arith, ints, bounds, high);
    }

-- there is an axis for this stride
axis_there : (c : In-loop-stride) → c.loop-stride.stride-index < length c.args.shape.now
axis_there c = omega (arith, c.loop-stride-test.true, c.requires.valid.same_count, length-map c.args.strides.now signed)

next : (c : In-loop-stride)
    → IsAdded (to_z w64 c.loop-stride.sum-bits) (signed (get_or c.args.strides.now c.loop-stride.stride-index 0))
    (sum_from reach c.args.shape.now c.args.strides.now (c.loop-stride.stride-index + 1))
next c =
    let i = c.loop-stride.stride-index in
    let shape = c.args.shape.now in
    let more : 2 ≤ get_or shape i 0 = omega (arith, c.requires.least, c.if-len-lt2.false, diagonal_len_below shape i (axis_there c)) in
    let split = sum_from_step reach shape c.args.strides.now i (axis_there c) c.loop-stride-test.true in
    added (to_z w64 c.loop-stride.sum-bits) (signed (get_or c.args.strides.now i 0)) (get_or shape i 0)
    (sum_from reach shape c.args.strides.now (i + 1)) more (rw split at c.loop-stride.invariant.low)
    (rw split at c.loop-stride.invariant.high)

-- what `signed` returned is the stride
read : (c : After-signed-sum) → to_z w64 (of_z w64 c.signed-sum.result) ≡ signed (get_or c.args.strides.now c.loop-stride.stride-index 0)
read c =
    let f : FitsSigned w64 c.signed-sum.result = search rules in
    to_z-of_z w64 c.signed-sum.result f ∙ c.signed-sum.ensures.same_bits

pub overflow_add-sum : goal.overflow_add-sum
overflow_add-sum c = rw (read c) ((next (goal.at.overflow_add-sum c).In-loop-stride).fits)

pub loop-stride-preserved : goal.loop-stride-preserved
loop-stride-preserved c =
    let i = c.loop-stride.stride-index in
    let strides = c.args.strides.now in
    let sum = next (goal.at.loop-stride-preserved c).In-loop-stride in
    let more = fold_more ◌+ℤ◌ (pos 0) (all_signed strides) i (pos 0) (omega (arith, c.loop-stride-test.true, length-map strides signed)) in
    let own = get_or-map signed strides i 0 (pos 0) c.loop-stride-test.true in
    rw (read c, to_z-of_z w64 _ sum.fits) (record {
      sum = omega (arith, ints, more, own, c.loop-stride.invariant.sum);
      low = sum.low;
      high = sum.high;
    })
