-- What is left of the items up to the end of the range, without those before its start.
use Rattle.std.proofs.Common.{rules, ◌≡◌, ℕ, ◌+◌, ◌-◌, ◌≤◌, ◌∙◌, List, ap, arith, take, drop}
use Rattle.std.proofs.lemmas.List.{drop-take}
use Rattle.nd_owned.proofs.owned.taking.items_between.Goals as goal

from_start_to_end : {X : Type 0} (items : List X) (start end : ℕ) → start ≤ end
    → drop start (take end items) ≡ take (end - start) (drop start items)
from_start_to_end items start end ordered =
    let to : end ≡ start + (end - start) = omega arith in
    ap (λ n. drop start (take n items)) to ∙ drop-take start (end - start) items

pub returns : goal.returns
returns g c =
    let start = c.args.places.start in
    let left : drop start c.truncate.new.self.items ≡ take (c.args.places.end - start) (drop start c.args.items.items) =
    ap (drop start) c.truncate.ensures.items ∙ from_start_to_end c.args.items.items start c.args.places.end c.requires.from in
    ◌∙◌ {A = List g.row.T.Denot} (search rules)
    (◌∙◌ {A = List g.row.T.Denot} c.drop.ensures.items (◌∙◌ {A = List g.row.T.Denot} c.drain.ensures.kept left))
