-- The part has the marks at its own places, and the rest has as many as before.
use lib.Dec.{T}
use Rattle.std.proofs.Common.{rules, ◌∙◌, sym, ap, subst, length, Bool, List}
use Rattle.nd_access.specs.Part.{IsPart, marks_of}
use Rattle.nd_access.proofs.Laws.Marks.{own_part, part_is_within}
use Rattle.nd_access.proofs.Laws.lending.Where.{without-length}
use Rattle.nd_access.proofs.cells.Cells.lend_view.Goals as goal

pub lend_part-requires : goal.lend_part-requires
lend_part-requires g c κs within =
    (search rules, (search rules, part_is_within c.args.self.now.marks c.args.view.now c.requires.marked))

pub returns-clause-part : goal.returns-clause-part
returns-clause-part g c =
    subst (λ own. IsPart own c.args.view.now) (sym c.lend_part.ensures.all.3) (own_part c.args.self.now.marks c.requires)

pub returns-clause-counted : goal.returns-clause-counted
returns-clause-counted g c =
    let marks = c.args.self.now.marks in
    let within = part_is_within marks c.args.view.now c.requires.marked in
    ap (λ (left : List Bool). length left) c.lend_part.ensures.all.4
    ∙ without-length (marks_of (length marks) c.args.view.now) marks (subst (λ (y : Bool). T y) (sym within) tt)
