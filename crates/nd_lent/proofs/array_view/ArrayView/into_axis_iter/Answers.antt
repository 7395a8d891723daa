-- Each array is read.
use Rattle.nd_lent.proofs.AlongAxis.{along_read}
use Rattle.nd_lent.proofs.array_view.ArrayView.into_axis_iter.Goals as goal

pub invariant_of-result : goal.invariant_of-result
invariant_of-result g c =
    let read = c.self.invariant in
    along_read c.args.axis.0 read.has.is_view c.in_ok-views.ensures.there read c.in_ok-views.ensures.views
