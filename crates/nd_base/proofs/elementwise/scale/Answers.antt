-- Each turn multiplies one more item.
use Rattle.std.proofs.Common.{◌*◌, arith}
use Rattle.std.proofs.lemmas.List.{get_or_default}
use Rattle.std.proofs.lemmas.List.Edits.{map_over_more}
use Rattle.nd_base.proofs.elementwise.scale.Goals as goal

pub loop-len-preserved : goal.loop-len-preserved
loop-len-preserved c =
    map_over_more (λ len. len * c.args.factor) c.args.lens.now c.loop-len.lens
    c.loop-len.len-index _ (omega arith) c.loop-len.invariant
    (get_or_default c.loop-len.lens c.loop-len.len-index 0 _ (omega arith))
