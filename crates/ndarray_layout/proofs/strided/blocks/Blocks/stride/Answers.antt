-- Two chunks fit the axis, so the step from one to the next reaches no further than the axis does.
use Rattle.std.proofs.Common.{◌*◌, ◌-◌, ◌≤◌, pos, w64, arith}
use Rattle.std.specs.Prelude.{◌/◌}
use Rattle.std.proofs.Math.Nat.{div-mul-le_self, mul-le-mul_right}
use Rattle.std.proofs.lemmas.Int.{fits_signed_mul}
use Rattle.nd_base.proofs.Laws.Definitions.{magnitude, signed}
use Rattle.ndarray_layout.proofs.strided.blocks.Blocks.stride.Goals as goal

pub stride_offset-requires-clause-fits : goal.stride_offset-requires-clause-fits
stride_offset-requires-clause-fits c =
    let len = c.args.len in
    let size = c.args.size in
    let most = div-mul-le_self len size in
    let two : 2 * size ≤ (len / size) * size = mul-le-mul_right size (omega arith) in
    let step : size ≤ len - 1 = omega arith in
    fits_signed_mul w64 (pos size) (signed c.args.stride) (len - 1) (magnitude (signed c.args.stride)) step (omega arith) (omega arith)
