-- The view of the last number comes last, and those before it are left.
use Rattle.std.proofs.Common.{◌-◌, ◌<◌, length, arith}
use Rattle.std.proofs.lemmas.Bool.{false≢true}
use Rattle.ndarray_layout.specs.Memory.{NeedsNoMemory}
use Rattle.nd_lent.proofs.MadeByNumber.{last_left, holds_last}
use Rattle.nd_lent.proofs.views.numbered.NumberedViews.try_next_back.Goals as goal

pub returns-in_err-view-clause-memory : goal.returns-in_err-view-clause-memory
returns-in_err-view-clause-memory g c =
    let self = c.self.inside in
    let at = g.V.ByNumber.at self.views in
    let count = g.V.ByNumber.count self.views in
    let some : self.begun < self.end = omega arith in
    λ all. absurd (false≢true (c.in_err-view.ensures.memory
    (holds_last at count self.begun self.end c.self.invariant.0 c.self.invariant.1 c.self.view_is
    (λ view. NeedsNoMemory g.V.Dim.FixedCount.NDIM (length view.shape)) some all)))

pub returns-clause-last : goal.returns-clause-last
returns-clause-last g c =
    let self = c.self.inside in
    let at = g.V.ByNumber.at self.views in
    let count = g.V.ByNumber.count self.views in
    last_left at count self.begun self.end c.self.invariant.0 c.self.invariant.1 c.self.view_is (omega arith) c.in_ok-view.ensures.view
