-- All picks lie from the least one to the greatest.
use Rattle.std.proofs.Common.{ℕ, ◌+◌, ◌<◌, ◌≤◌, arith, sym}
use Rattle.std.proofs.lemmas.List.Elements.{All-contains, All-weaker}
use Rattle.nd_slice.proofs.Definitions.{between}
use Rattle.nd_slice.proofs.Laws.RangesApart.{end_is, least_is}
use Rattle.nd_slice.proofs.picks.AxisPicks.range.Goals as goal

pub returns-clause-start : goal.returns-clause-start
returns-clause-start c =
    let self = c.args.self in
    let low = c.ends-least.result.0 in
    let picks = between self.step self.start self.end in
    let ends = c.ends-least.ensures in
    sym (least_is self.start low picks ends.least
    (All-weaker (λ pick. (low ≤ pick) × (pick ≤ c.ends-least.result.1)) (λ pick. low ≤ pick) (λ pick both. both.0) picks ends.between))

pub returns-clause-end : goal.returns-clause-end
returns-clause-end c =
    let self = c.args.self in
    let low = c.ends-least.result.0 in
    let high = c.ends-least.result.1 in
    let picks = between self.step self.start self.end in
    let ends = c.ends-least.ensures in
    let within = λ (pick : ℕ). (low ≤ pick) × (pick ≤ high) in
    sym (end_is low high picks (All-contains within picks high ends.between ends.greatest).0 ends.greatest
    (All-weaker within (λ pick. pick < high + 1) (λ pick both. omega (arith, both.1)) picks ends.between))
