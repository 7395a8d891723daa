use Rattle.std.proofs.Common.{◌<◌, [], subst, arith}
use Rattle.std.specs.List.{All}
use Rattle.std.proofs.lemmas.List.Elements.{All-head}
use Rattle.ndarray_layout.proofs.RowSteps.{length-first}
use Rattle.ndarray_layout.proofs.strided.places_of_rows.PlacesOf.new.Goals as goal

pub of_row-stretch-requires-clause-few : goal.of_row-stretch-requires-clause-few
of_row-stretch-requires-clause-few g c =
    omega (arith, length-first {row = c.in-Some.row} {others = []} (record { is = c.in-Some.ensures }), c.requires.few)

pub of_row-stretch-requires-clause-some : goal.of_row-stretch-requires-clause-some
of_row-stretch-requires-clause-some g c =
    All-head (λ row. 0 < row.len) c.in-Some.row [] (subst (All (λ row. 0 < row.len)) c.in-Some.ensures c.requires.some)
