-- Each is a view.
use Rattle.std.proofs.Common.{None, map, ap, sym, subst, ◌∙◌}
use Rattle.std.specs.List.{All}
use Rattle.nd_base.specs.declared.order.Order.TheVariants.{RowMajor}
use Rattle.ndarray_layout.specs.BlocksView.{block_at}
use Rattle.ndarray_layout.specs.View.{IsView, view_places}
use Rattle.ndarray_layout.proofs.Laws.BlockStarts.{HasBlocks-windows, blocks_are_views}
use Rattle.ndarray_layout.proofs.strided.Strided.into_windows.Goals as goal

pub invariant_of-result : goal.invariant_of-result
invariant_of-result g c =
    let window = g.D.Lengths.list c.args.window.now in
    let same = c.into_places.ensures.items ∙ ap (view_places RowMajor) c.in_ok-starts.ensures.starts in
    let is_view = c.in_ok-starts.ensures.is_view in
    let made = blocks_are_views (HasBlocks-windows None window is_view (sym c.in_ok-starts.ensures.fault)) in
    subst (All IsView) (sym (ap (λ block. map (block_at block c.args.self) c.into_places.result) c.in_ok-block.ensures.list
    ∙ ap (map (block_at window c.args.self)) same)) made
