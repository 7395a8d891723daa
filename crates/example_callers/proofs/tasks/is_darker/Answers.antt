-- Where all calls return true, each pixel that comes is darker, and so is that of each index.
use Rattle.std.proofs.Common.{rules, ◌<◌, Option, Some, IfSome, length, map, refl, subst, arith, ℕ}
use Rattle.std.specs.Bool.{MatchBool}
use Rattle.std.specs.List.{AllWithin, HoldsAt}
use Rattle.std.proofs.lemmas.Iterator.{cases_from_all}
use Rattle.std.proofs.lemmas.Iterator.Consumers.{YieldsList-from_first}
use Rattle.ndarray_layout.specs.declared.Order.TheVariants.{RowMajor}
use Rattle.ndarray_layout.specs.View.{view_places}
use Rattle.nd_owned.specs.Owned.{item_at_place}
use Rattle.nd_lent.proofs.Laws.IndexItems.{of_each_index}
use Rattle.example_callers.proofs.tasks.is_darker.Goals as goal

pub returns : goal.returns
returns g c =
    let picture = c.args.picture.now in
    let items = map (item_at_place picture.items) (view_places RowMajor picture.view) in
    let Dark : Option ℕ → Type 0 = λ item. IfSome item (λ pixel. pixel < c.args.bound) in
    let cases = cases_from_all _ _ c.all.result Dark (λ item. Unit {0}) c.all.ensures.ran.1
    (YieldsList-from_first (λ item. Some item.now) (λ left. left) items refl)
    (λ x q called. (search (rules, called), search (rules, called))) (λ x q called. tt) in
    record {
      darker = λ yes index here.
          let dark : AllWithin Dark items 0 (length items) =
          subst (λ b. MatchBool b (AllWithin Dark items 0 (length items))
          ((k : ℕ) × (k < length items) × HoldsAt (λ item. Unit {0}) items k)) yes cases in
          of_each_index Dark picture index (λ k d below. dark k d (omega arith) below) here;
    }
