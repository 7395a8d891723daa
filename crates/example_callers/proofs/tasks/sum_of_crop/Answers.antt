-- The items of the crop are those at the places of its view.
use Rattle.std.proofs.Common.{◌≡◌, IfSome, subst}
use Rattle.std.specs.List.{sum_by}
use Rattle.std.specs.Option.{option_map_or}
use Rattle.nd_lent.proofs.Laws.StepItems.{items_of_step}
use Rattle.example_callers.proofs.tasks.sum_of_crop.Goals as goal

pub returns : goal.returns
returns c = subst (λ items. IfSome c.sum.result (λ total. total ≡ sum_by (λ pixel. option_map_or (λ n. n) pixel 0) items))
    (items_of_step c.args.picture.now c.in_ok-crop.field-0 c.in_ok-crop.ensures.array) c.sum.ensures.sum
