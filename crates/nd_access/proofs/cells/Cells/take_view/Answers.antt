-- The part has the marks at its own places.
use Rattle.std.proofs.Common.{rules, sym, subst}
use Rattle.nd_access.specs.Part.{IsPart}
use Rattle.nd_access.proofs.Laws.Marks.{own_part, part_is_within}
use Rattle.nd_access.proofs.cells.Cells.take_view.Goals as goal

pub take_part-requires : goal.take_part-requires
take_part-requires g c κs within =
    (search rules, (search rules, part_is_within c.args.self.now.marks c.args.view.now c.requires.marked))

pub returns-clause-part : goal.returns-clause-part
returns-clause-part g c =
    subst (λ own. IsPart own c.args.view.now) (sym c.take_part.ensures.all.2) (own_part c.args.self.now.marks c.requires)
