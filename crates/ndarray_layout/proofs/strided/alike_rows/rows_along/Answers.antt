-- The rows along joined axes have the places of the view.
use Rattle.std.proofs.Common.{◌<◌, ◌≤◌, cond, map, nat_eq, sym, ap, subst, ◌∙◌, arith}
use Rattle.std.specs.List.{All}
use Rattle.std.specs.Prelude.{replicate}
use Rattle.std.proofs.lemmas.List.{length-map}
use Rattle.nd_base.proofs.Laws.Definitions.{signed, size}
use Rattle.ndarray_layout.specs.JoinedInAll.{row_lens}
use Rattle.ndarray_layout.specs.Rows.{rows_places}
use Rattle.ndarray_layout.specs.RowsLeft.{axis_view}
use Rattle.ndarray_layout.specs.private.Fastest.{HasPlaces}
use Rattle.ndarray_layout.proofs.AlikeRows.{lens_of_rows}
use Rattle.ndarray_layout.proofs.JoinedInAll.{HasPlaces-joined_axes}
use Rattle.ndarray_layout.proofs.LongestRow.{as_long}
use Rattle.ndarray_layout.proofs.Laws.Rows.{rows_places-view_rows, some_in_each_row}
use Rattle.ndarray_layout.proofs.strided.alike_rows.rows_along.Goals as goal
use Rattle.ndarray_layout.proofs.strided.alike_rows.rows_along.Goals.{After-as_one_axis-axis}

places : (c : After-as_one_axis-axis) → HasPlaces c.args.order c.args.lens.now c.args.strides.now c.as_one_axis-axis.result
places c = HasPlaces-joined_axes c.as_one_axis-axis.result c.requires.few
    (omega (arith, c.requires.is_view.valid.same_count, length-map c.args.strides.now signed)) c.as_one_axis-axis.ensures c.requires.joined

pub as_one_axis-axis-requires-clause-counts : goal.as_one_axis-axis-requires-clause-counts
as_one_axis-axis-requires-clause-counts c =
    omega (arith, c.requires.is_view.valid.same_count, length-map c.args.strides.now signed)

pub along_axis-requires : goal.along_axis-requires
along_axis-requires c = (places (goal.at.along_axis-requires c).After-as_one_axis-axis).is_view c.args.start c.requires.is_view

pub returns-clause-places : goal.returns-clause-places
returns-clause-places c =
    let axis = places (goal.at.returns-clause-places c).After-as_one_axis-axis in
    ap rows_places c.along_axis.ensures
    ∙ rows_places-view_rows c.args.order (axis.is_view c.args.start c.requires.is_view)
    ∙ axis.places c.args.start c.requires.is_view

pub returns-clause-lens : goal.returns-clause-lens
returns-clause-lens c =
    let has = places (goal.at.returns-clause-lens c).After-as_one_axis-axis in
    let axis = c.as_one_axis-axis.result in
    ap (map (λ row. row.len)) c.along_axis.ensures
    ∙ lens_of_rows c.args.order c.args.start axis (has.is_view c.args.start c.requires.is_view)
    ∙ ap (λ lens. replicate (cond (nat_eq axis.len 0) 0 (size lens)) axis.len) c.as_one_axis-axis.ensures.slower_lens
    ∙ ap (row_lens c.args.order c.args.lens.now c.args.joined.0) c.as_one_axis-axis.ensures.same_len

pub returns-clause-some : goal.returns-clause-some
returns-clause-some c = subst (All (λ row. 0 < row.len)) (sym c.along_axis.ensures)
    (some_in_each_row c.args.order (axis_view c.args.order c.args.start c.as_one_axis-axis.result))

pub returns-clause-longest : goal.returns-clause-longest
returns-clause-longest c = λ len few. subst (All (λ row. len ≤ row.len)) (sym c.along_axis.ensures)
    (as_long c.args.order c.as_one_axis-axis.result c.args.start len (omega (arith, few, c.as_one_axis-axis.ensures.same_len)))
