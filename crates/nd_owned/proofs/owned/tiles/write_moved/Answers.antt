-- The slice has the rows of the list.
use Rattle.std.proofs.Common.{rules, FitsSigned, sym, ap, ◌∙◌}
use Rattle.std.specs.Int.{w64}
use Rattle.std.proofs.lemmas.Int.{to_z-of_z}
use Rattle.nd_owned.specs.private.OneOrMany.{items_of}
use Rattle.nd_owned.proofs.owned.tiles.write_moved.Goals as goal

pub write_moved_rows-requires-clause-in_bounds : goal.write_moved_rows-requires-clause-in_bounds
write_moved_rows-requires-clause-in_bounds g c =
    let f : FitsSigned w64 c.args.offset = search rules in
    rw (to_z-of_z w64 c.args.offset f, c.from_ref.ensures.value ∙ sym (ap items_of c.in-One.is)) c.requires.in_bounds

pub write_moved_rows-requires-in-Many-clause-in_bounds : goal.write_moved_rows-requires-in-Many-clause-in_bounds
write_moved_rows-requires-in-Many-clause-in_bounds g c =
    let f : FitsSigned w64 c.args.offset = search rules in
    rw (to_z-of_z w64 c.args.offset f, c.as_slice.ensures.value ∙ sym (ap items_of c.in-Many.is)) c.requires.in_bounds

pub returns-in-Many : goal.returns-in-Many
returns-in-Many g c =
    let f : FitsSigned w64 c.args.offset = search rules in
    rw (to_z-of_z w64 c.args.offset f, c.as_slice.ensures.value ∙ sym (ap items_of c.in-Many.is)) at c.write_moved_rows-in-Many.ensures
