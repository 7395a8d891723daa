-- The closure picks the greater one of two.
use Rattle.std.proofs.Common.{rules, ◌≡◌, ◌<◌, ◌↔◌, length, map, IsSome, subst, ◌∙◌}
use Rattle.std.proofs.lemmas.List.{length-map}
use Rattle.ndarray_layout.specs.declared.Order.TheVariants.{RowMajor}
use Rattle.ndarray_layout.specs.Size.{size}
use Rattle.ndarray_layout.specs.View.{view_places}
use Rattle.ndarray_layout.proofs.Laws.View.{length-view_places}
use Rattle.nd_access.specs.Items.{item_at_place}
use Rattle.nd_lent.proofs.Equals.{picked_last}
use Rattle.nd_lent.proofs.Extremes.{picked, picks_greater}
use Rattle.nd_lent.proofs.array_view.ArrayView.max.Goals as goal

pub returns-clause-found : goal.returns-clause-found
returns-clause-found g c =
    let view = c.args.self.now.view in
    let items = map (item_at_place c.args.self.now.items) (view_places RowMajor view) in
    let best = picked _ (picks_greater g.met.T.Ord.total) items (λ item f best. search rules)
    (λ item f h best next called. search (rules, called))
    c.fold.ensures.ran in
    let count : length items ≡ size view.shape =
    length-map (view_places RowMajor view) (item_at_place c.args.self.now.items) ∙ length-view_places RowMajor view in
    subst (λ n. IsSome c.fold.result ↔ (0 < n)) count best.found

pub returns-clause-greatest : goal.returns-clause-greatest
returns-clause-greatest g c =
    (picked _ (picks_greater g.met.T.Ord.total) (map (item_at_place c.args.self.now.items) (view_places RowMajor c.args.self.now.view))
    (λ item f best. search rules)
    (λ item f h best next called. search (rules, called)) c.fold.ensures.ran).first

pub returns-clause-last : goal.returns-clause-last
returns-clause-last g c =
    picked_last _ g.met.T.Ord.total (map (item_at_place c.args.self.now.items) (view_places RowMajor c.args.self.now.view))
    (λ item f best. search rules) c.fold.ensures.ran (λ item f h best next called. search (rules, called))
