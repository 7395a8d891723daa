-- A multiple leaves no rest.
use Rattle.std.proofs.Common.{◌≡◌, pos, w64, of_z, to_z, ap, ◌∙◌, rules, arith}
use Rattle.std.proofs.lemmas.Int.{to_z-of_z, to_z_pos}
use Rattle.ndarray_layout.specs.Signed.{signed}
use Rattle.example_callers.proofs.ByteStrides.{no_rest}
use Rattle.example_callers.proofs.foreign.in_elements.Goals as goal

pub returns-then-byte_stride-elem_size-ne0-clause-none : goal.returns-then-byte_stride-elem_size-ne0-clause-none
returns-then-byte_stride-elem_size-ne0-clause-none c = λ stride whole.
    let small = to_z_pos w64 c.args.elem_size (omega arith) in
    let read : to_z w64 (of_z w64 c.signed-byte_stride.result) ≡ signed c.args.byte_stride =
    to_z-of_z w64 c.signed-byte_stride.result (search rules) ∙ c.signed-byte_stride.ensures.same_bits in
    let rest = ap (of_z w64) (no_rest stride (signed c.args.byte_stride) (pos c.args.elem_size) whole) in
    c.if-byte_stride-elem_size-ne0.true (cc)
