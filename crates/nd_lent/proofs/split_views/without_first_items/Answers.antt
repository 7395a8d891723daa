-- The view is accepted over the items that are left.
use Rattle.std.proofs.Common.{rules, ◌≡◌, ◌+◌, ◌-◌, ◌≤◌, None, ◌∙◌, ap, arith}
use Rattle.std.specs.Result.{result_err}
use Rattle.ndarray_layout.specs.Span.{low_span}
use Rattle.nd_lent.proofs.SplitItems.{accepted_moved, if_ok}
use Rattle.nd_lent.proofs.split_views.without_first_items.Goals as goal

pub returns-clause-none : goal.returns-clause-none
returns-clause-none g c =
    let view = c.args.view in
    let place : c.start.result ≡ view.start = c.start.ensures.place in
    let low : c.args.by + low_span view.shape view.strides ≤ view.start = c.requires.low in
    let accepted = accepted_moved c.args.by c.args.len {start = c.start.result - c.args.by} c.start.ensures.is_view c.requires.some
    c.requires.within
    (omega (arith, place, low)) (omega (arith, place, low)) in
    let none : result_err c.moved_to.result ≡ None = c.moved_to.ensures.fault ∙ accepted in
    search (rules, none)

pub returns-clause-moved : goal.returns-clause-moved
returns-clause-moved g c =
    let view = c.args.view in
    let place : c.start.result ≡ view.start = c.start.ensures.place in
    let low : c.args.by + low_span view.shape view.strides ≤ view.start = c.requires.low in
    if_ok c.moved_to.result (λ new same.
    let start : new.start ≡ c.start.result - c.args.by = ap (λ v. v.start) same in
    record { shape = ap (λ v. v.shape) same; strides = ap (λ v. v.strides) same; start = omega (arith, start, place, low) })
    c.moved_to.ensures.view
