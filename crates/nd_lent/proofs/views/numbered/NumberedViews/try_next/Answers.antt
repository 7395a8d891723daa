-- The view of the next number comes first, and the others are left.
use Rattle.std.proofs.Common.{◌-◌, ◌<◌, length, arith}
use Rattle.std.proofs.lemmas.Bool.{false≢true}
use Rattle.ndarray_layout.specs.Memory.{NeedsNoMemory}
use Rattle.nd_lent.proofs.MadeByNumber.{first_left, holds_first}
use Rattle.nd_lent.proofs.views.numbered.NumberedViews.try_next.Goals as goal

pub returns-in_err-view-clause-memory : goal.returns-in_err-view-clause-memory
returns-in_err-view-clause-memory g c =
    let self = c.self.inside in
    let at = g.V.ByNumber.at self.views in
    let count = g.V.ByNumber.count self.views in
    let some : self.begun < self.end = omega arith in
    λ all. absurd (false≢true (c.in_err-view.ensures.memory
    (holds_first at count self.begun self.end c.self.invariant.0 c.self.invariant.1 c.self.view_is
    (λ view. NeedsNoMemory g.V.Dim.FixedCount.NDIM (length view.shape)) some all)))

pub returns-clause-first : goal.returns-clause-first
returns-clause-first g c =
    let self = c.self.inside in
    let at = g.V.ByNumber.at self.views in
    let count = g.V.ByNumber.count self.views in
    first_left at count self.begun self.end c.self.invariant.0 c.self.invariant.1 c.self.view_is (omega arith) c.in_ok-view.ensures.view
