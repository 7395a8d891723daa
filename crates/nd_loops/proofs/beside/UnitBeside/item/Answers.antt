-- Nothing stands beside each item.
use Rattle.std.proofs.Common.{None, Some, pos, arith}
use Rattle.std.proofs.lemmas.List.{get_or-map, length-map}
use Rattle.nd_access.specs.LentRow.{places_of}
use Rattle.nd_loops.proofs.beside.UnitBeside.item.Goals as goal

pub returns : goal.returns
returns c =
    let places = places_of c.args._one.now.row in
    get_or-map (λ place. Some (tt {0})) places c.args._coordinate (pos 0) None
    (omega (arith, c.requires, length-map places (λ place. Some (tt {0}))))
