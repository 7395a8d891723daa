use Rattle.std.proofs.Common.{◌<◌, ◌≤◌, sym, ap, subst, ◌∙◌}
use Rattle.std.specs.List.{All}
use Rattle.ndarray_layout.specs.Rows.{rows_places}
use Rattle.ndarray_layout.specs.RowsLeft.{axis_view}
use Rattle.ndarray_layout.proofs.LongestRow.{as_long}
use Rattle.ndarray_layout.proofs.Laws.Rows.{rows_places-view_rows, some_in_each_row}
use Rattle.ndarray_layout.proofs.strided.rows.Rows.of_places.Goals as goal

pub along_axis-requires : goal.along_axis-requires
along_axis-requires c = c.joined_axis.ensures.places.is_view c.args.start c.requires

pub returns-clause-places : goal.returns-clause-places
returns-clause-places c =
    let axis = c.joined_axis.ensures.places in
    ap rows_places c.along_axis.ensures
    ∙ rows_places-view_rows c.args.order (axis.is_view c.args.start c.requires)
    ∙ axis.places c.args.start c.requires

pub returns-clause-some : goal.returns-clause-some
returns-clause-some c = subst (All (λ row. 0 < row.len)) (sym c.along_axis.ensures)
    (some_in_each_row c.args.order (axis_view c.args.order c.args.start c.joined_axis.result))

pub returns-clause-longest : goal.returns-clause-longest
returns-clause-longest c = λ other begins. subst (All (λ row. other.len ≤ row.len)) (sym c.along_axis.ensures)
    (as_long c.args.order c.joined_axis.result c.args.start other.len (c.joined_axis.ensures.longest c.args.start other c.requires begins))
