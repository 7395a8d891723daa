-- The items below the index are multiplied, the others as they were.
use Rattle.std.proofs.Common.{◌≡◌, ◌*◌, ◌++◌, map, take, drop}
use Rattle.nd_base.proofs.elementwise.scale.Given as goal

abbrev pub invariant-loop-len : goal.invariant-loop-len
invariant-loop-len l =
    l.lens ≡ map (λ len. len * l.factor) (take l.len-index l.initial.lens)
    ++ drop l.len-index l.initial.lens
