-- The items of one row more have passed, or one of them is the first that is looked for.
use Rattle.std.proofs.Common.{◌≡◌, ◌++◌, false, true, ap, subst, sym}
use Rattle.std.specs.Iterator.{CallableWhile}
use Rattle.std.specs.Prelude.{not}
use Rattle.nd_access.specs.LentRow.{row_items, rows_items}
use Rattle.nd_access.specs.Lending.{lends}
use Rattle.nd_loops.specs.Searched.{HasSearched}
use Rattle.nd_access.proofs.Laws.Folding.{callable_after, callable_in_part}
use Rattle.nd_loops.proofs.Laws.Searching.{found_first, none_searched, passes, then_searched}
use Rattle.nd_lent.proofs.array_view.ArrayView.search.Given.{Over}
use Rattle.nd_lent.proofs.array_view.ArrayView.search.Goals as goal
use Rattle.nd_lent.proofs.array_view.ArrayView.search.Goals.{In-Some}

-- the items of the row, and then those of the others
items : (g : Over) (c : In-Some g) → rows_items c.loop-row.row-iterator ≡ row_items c.in-Some.row ++ rows_items c.next.new.self
items g c = ap rows_items c.in-Some.ensures.steps

callable : (g : Over) (c : In-Some g)
    → CallableWhile lends g.F.FnMut (not c.args.wanted) (row_items c.in-Some.row ++ rows_items c.next.new.self) c.loop-row.f
callable g c =
    subst (λ items. CallableWhile lends g.F.FnMut (not c.args.wanted) items c.loop-row.f) (items g c) c.loop-row.invariant.callable

pub search_row-found-requires : goal.search_row-found-requires
search_row-found-requires g c =
    callable_in_part (row_items c.in-Some.row) (rows_items c.next.new.self)
    (callable g (goal.at.search_row-found-requires g c).In-Some)

pub returns-then-found : goal.returns-then-found
returns-then-found g c =
    let at = (goal.at.returns-then-found g c).In-Some in
    let last = c.search_row-found.result.1 in
    let here = subst (λ found. HasSearched g.F.FnMut c.args.wanted c.loop-row.f (row_items c.in-Some.row) found last) c.if-found.true
    c.search_row-found.ensures in (
      last,
      c.loop-row.invariant.searched true last
          (subst (λ items. HasSearched g.F.FnMut c.args.wanted c.loop-row.f items true last) (sym (items g at))
          (found_first (rows_items c.next.new.self) here)),
    )

pub loop-row-preserved : goal.loop-row-preserved
loop-row-preserved g c =
    let at = (goal.at.loop-row-preserved g c).In-Some in
    let mid = c.search_row-found.result.1 in
    let here = subst (λ found. HasSearched g.F.FnMut c.args.wanted c.loop-row.f (row_items c.in-Some.row) found mid) c.if-found.false
    c.search_row-found.ensures in
    record {
      searched = λ found last others. c.loop-row.invariant.searched found last
          (subst (λ items. HasSearched g.F.FnMut c.args.wanted c.loop-row.f items found last) (sym (items g at))
          (then_searched here others));
      callable = callable_after (passes here) (callable g at);
    }

pub returns : goal.returns
returns g c =
    let f = c.loop-row.f in (
      f,
      c.loop-row.invariant.searched false f
          (subst (λ items. HasSearched g.F.FnMut c.args.wanted f items false f) (sym (ap rows_items c.in-None.ensures.steps.0))
          none_searched),
    )
