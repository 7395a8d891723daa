use Rattle.std.proofs.Common.{rules, FitsSigned}
use Rattle.std.specs.Int.{w64}
use Rattle.std.proofs.lemmas.Int.{to_z-of_z}
use Rattle.ndarray_layout.proofs.Laws.View.{offset_place_within}
use Rattle.ndarray_layout.proofs.strided.Strided.place.Goals as goal

pub offset_place-requires-clause-there : goal.offset_place-requires-clause-there
offset_place-requires-clause-there g c =
    let f : FitsSigned w64 c.in_ok-offset.offset = search rules in
    rw (to_z-of_z w64 c.in_ok-offset.offset f) (offset_place_within (g.I.NdIndex.index_list c.args.index.now) c.self.invariant
    c.in_ok-offset.ensures)

pub returns : goal.returns
returns g c = search rules depth 3
