-- Up to a stride that is no multiple each was one, and in the end all are.
use Rattle.std.proofs.Common.{pos, sym, ap, ◌∙◌, arith}
use Rattle.ndarray_layout.specs.Signed.{signed}
use Rattle.example_callers.proofs.ByteStrides.{all_divided, quotient_at}
use Rattle.example_callers.proofs.foreign.divide.Goals as goal

pub returns-in_default-clause-remainder : goal.returns-in_default-clause-remainder
returns-in_default-clause-remainder c = λ is given same.
    let i = c.loop-stride.stride-index in
    let found = quotient_at (pos c.args.elem_size) c.args.strides.now given i same (omega arith) in
    c.in_default.ensures.none found.0 (found.1 ∙ ap signed (sym (c.loop-stride.invariant.after i (omega arith))))

pub returns-clause-divided : goal.returns-clause-divided
returns-clause-divided c = λ is.
    all_divided (pos c.args.elem_size) c.args.strides.now c.loop-stride.strides (omega arith)
    (λ k below. c.loop-stride.invariant.below k (omega arith))
