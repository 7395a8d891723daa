-- Both halves descend from the picture, and share no place.
use Rattle.nd_lent.proofs.Laws.HalvesWritten.{halves_are_apart}
use Rattle.nd_lent.proofs.Laws.OwnedViews.{owned_descendant}
use Rattle.example_callers.proofs.wholes.set_halves.Goals as goal

pub set_two-requires-clause-first : goal.set_two-requires-clause-first
set_two-requires-clause-first c = owned_descendant _ c.in_ok-first.ensures.first_kept c.requires

pub set_two-requires-clause-second : goal.set_two-requires-clause-second
set_two-requires-clause-second c = owned_descendant _ c.in_ok-first.ensures.second_kept c.requires

pub set_two-requires-clause-apart : goal.set_two-requires-clause-apart
set_two-requires-clause-apart c =
    let made = c.in_ok-first.ensures in
    halves_are_apart 1 c.args.at c.requires made.fault made.first made.second
