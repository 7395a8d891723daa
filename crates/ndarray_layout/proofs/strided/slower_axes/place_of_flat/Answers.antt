use Rattle.std.proofs.Common.{rules, FitsSigned, arith}
use Rattle.std.specs.Int.{w64}
use Rattle.std.proofs.lemmas.Int.{ints, to_z-of_z}
use Rattle.ndarray_layout.proofs.NextRow.{flat_within}
use Rattle.ndarray_layout.proofs.strided.slower_axes.place_of_flat.Goals as goal

pub offset_place-requires-clause-there : goal.offset_place-requires-clause-there
offset_place-requires-clause-there c =
    let f : FitsSigned w64 c.offset_of_flat.result = search rules in
    let here = flat_within c.args.order c.requires.is_view c.args.number c.requires.below in
    let is = to_z-of_z w64 c.offset_of_flat.result f in
    (omega (arith, ints, is, c.offset_of_flat.ensures, here.0), omega (arith, ints, is, c.offset_of_flat.ensures, here.1))
