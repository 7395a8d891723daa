-- The axes that are left decide whether the arguments intersect.
use Rattle.nd_slice.proofs.Definitions.{axis_picks}
use Rattle.nd_slice.proofs.intersect_lemmas.Intersecting.{IsDecided}
use Rattle.nd_slice.proofs.intersect.elems_share_all.Given as goal

abbrev pub invariant-loop-len : goal.invariant-loop-len
invariant-loop-len l = IsDecided l.fit (axis_picks l.fit l.shape l.first) (axis_picks l.fit l.shape l.second) l.len-iterator l.others
