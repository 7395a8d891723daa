-- The part descends from the picture, and has the shape of the one that is pasted.
use Rattle.nd_lent.proofs.Laws.OwnedViews.{owned_descendant}
use Rattle.nd_lent.proofs.Laws.PartItems.{part_written_as}
use Rattle.example_callers.proofs.pastes.paste.Goals as goal

pub assign_view-requires : goal.assign_view-requires
assign_view-requires c = owned_descendant _ c.in-Some.ensures.kept c.requires

pub returns-in-Some-clause-pasted : goal.returns-in-Some-clause-pasted
returns-in-Some-clause-pasted c = λ done.
    part_written_as c.in-Some.ensures.kept (c.assign_view.ensures.assigned done) (c.assign_view.ensures.fits.0 done) c.requires.distinct
