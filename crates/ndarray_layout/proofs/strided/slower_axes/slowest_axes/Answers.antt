use Rattle.std.proofs.Common.{◌≡◌, sym}
use Rattle.ndarray_layout.specs.NumberedRows.{slowest_view}
use Rattle.ndarray_layout.specs.View.{view_of}
use Rattle.ndarray_layout.proofs.NumberedRows.{slowest_view-of}
use Rattle.ndarray_layout.proofs.strided.slower_axes.slowest_axes.Goals as goal

pub returns-clause-starts : goal.returns-clause-starts
returns-clause-starts g c =
    let is : slowest_view c.args.order c.args.slower c.args.view.now
    ≡ view_of c.view.inside.start c.slowest_of.result.now c.slowest_of-2.result.now =
    rw (← c.view.view_is, c.slowest_of.ensures, c.slowest_of-2.ensures, c.slice.ensures.list, c.slice-2.ensures.list)
    (slowest_view-of c.args.order c.args.slower c.view.inside.start _ _) in
    sym is
