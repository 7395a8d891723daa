-- Each window is read.
use Rattle.std.proofs.Common.{sym}
use Rattle.nd_lent.proofs.BlocksOf.{windows_read}
use Rattle.nd_lent.proofs.array_view.ArrayView.into_windows.Goals as goal

pub invariant_of-result : goal.invariant_of-result
invariant_of-result g c =
    windows_read (g.D.Lengths.list c.args.window.now) c.self.invariant (sym c.in_ok-views.ensures.fault) c.in_ok-views.ensures.views
