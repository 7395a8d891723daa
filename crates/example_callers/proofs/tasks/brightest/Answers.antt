-- An index has the greatest pixel, and none has a greater one.
use Rattle.nd_lent.proofs.Laws.FirstItems.{index_of_first, none_above_greatest}
use Rattle.example_callers.proofs.tasks.brightest.Goals as goal

pub returns-clause-is_one : goal.returns-clause-is_one
returns-clause-is_one g c = index_of_first _ c.args.picture.now c.max.result c.max.ensures.greatest

pub returns-clause-none_brighter : goal.returns-clause-none_brighter
returns-clause-none_brighter g c = none_above_greatest c.args.picture.now c.max.result c.max.ensures.greatest
