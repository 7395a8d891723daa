-- At first all rows along the joined axis are left.
use Rattle.std.proofs.Common.{rules, ◌≡◌, ◌<◌, ◌≤◌, FitsSigned, List, cond, nat_eq, length, of_z, to_z, sym, ap, subst, ◌∙◌}
use Rattle.std.specs.List.{All}
use Rattle.std.specs.Int.{w64}
use Rattle.std.specs.Iterator.{YieldsFirst}
use Rattle.std.proofs.iter.runs.Sources.{as_is, from_front}
use Rattle.std.proofs.lemmas.Int.{to_z-of_z}
use Rattle.nd_base.proofs.Laws.Definitions.{signed, size}
use Rattle.ndarray_layout.specs.declared.strided.rows.Row.{Row}
use Rattle.ndarray_layout.specs.NumberedRows.{rows_between}
use Rattle.ndarray_layout.specs.Rows.{BeginsAsRow, rows_places, view_rows}
use Rattle.ndarray_layout.specs.RowsLeft.{axis_view}
use Rattle.ndarray_layout.specs.View.{IsView, view_of, view_places}
use Rattle.ndarray_layout.proofs.LongestRow.{as_long}
use Rattle.ndarray_layout.proofs.NumberedRows.{few_axes, few_of_view, is_slower_view, rows_of_view}
use Rattle.ndarray_layout.proofs.Laws.Rows.{rows_places-view_rows, some_in_each_row}
use Rattle.ndarray_layout.proofs.strided.Strided.into_joined_rows.Goals as goal

pub new-requires : goal.new-requires
new-requires g c =
    let start = c.self.inside.start in
    let axis = c.joined_axis-axis.result in
    let here : view_of start c.slice.result.now c.slice-2.result.now ≡ c.args.self =
    rw (c.slice.ensures.list, c.slice-2.ensures.list) c.self.view_is in
    let whole : IsView (view_of start c.slice.result.now c.slice-2.result.now) =
    rw (c.slice.ensures.list, c.slice-2.ensures.list) c.self.invariant in
    let has = c.joined_axis-axis.ensures.places in
    few_axes c.args.order start _ _ axis here whole (has.is_view start whole) has.slower_lens has.slower_strides

pub along-requires-clause-is_view : goal.along-requires-clause-is_view
along-requires-clause-is_view g c =
    let start = c.self.inside.start in
    let axis = c.joined_axis-axis.result in
    let here : view_of start c.slice.result.now c.slice-2.result.now ≡ c.args.self =
    rw (c.slice.ensures.list, c.slice-2.ensures.list) c.self.view_is in
    let whole : IsView (view_of start c.slice.result.now c.slice-2.result.now) =
    rw (c.slice.ensures.list, c.slice-2.ensures.list) c.self.invariant in
    let has = c.joined_axis-axis.ensures.places in
    rw c.new.ensures (is_slower_view c.args.order start _ _ axis here whole (has.is_view start whole) has.slower_lens has.slower_strides)

pub along-requires-clause-fits : goal.along-requires-clause-fits
along-requires-clause-fits g c =
    let start = c.self.inside.start in
    let axis = c.joined_axis-axis.result in
    let here : view_of start c.slice.result.now c.slice-2.result.now ≡ c.args.self =
    rw (c.slice.ensures.list, c.slice-2.ensures.list) c.self.view_is in
    let whole : IsView (view_of start c.slice.result.now c.slice-2.result.now) =
    rw (c.slice.ensures.list, c.slice-2.ensures.list) c.self.invariant in
    let has = c.joined_axis-axis.ensures.places in
    rw c.new.ensures (few_of_view c.args.order start _ _ axis here whole (has.is_view start whole) has.slower_lens has.slower_strides)

pub returns-clause-places : goal.returns-clause-places
returns-clause-places g c =
    let start = c.self.inside.start in
    let axis = c.joined_axis-axis.result in
    let here : view_of start c.slice.result.now c.slice-2.result.now ≡ c.args.self =
    rw (c.slice.ensures.list, c.slice-2.ensures.list) c.self.view_is in
    let whole : IsView (view_of start c.slice.result.now c.slice-2.result.now) =
    rw (c.slice.ensures.list, c.slice-2.ensures.list) c.self.invariant in
    let has = c.joined_axis-axis.ensures.places in
    let v = has.is_view start whole in
    let f : FitsSigned w64 c.signed-stride.result = search rules in
    let steps : to_z w64 (of_z w64 c.signed-stride.result) ≡ signed axis.stride =
    to_z-of_z w64 c.signed-stride.result f ∙ c.signed-stride.ensures.same_bits in
    let row : Row = record { start = 0; stride = to_z w64 (of_z w64 c.signed-stride.result); len = axis.len } in
    let of_axis : rows_between c.new.result.0 c.new.result.1 row 0 (cond (nat_eq axis.len 0) 0 (size c.new.result.1.shape))
    ≡ view_rows c.args.order (axis_view c.args.order start axis) =
    rw c.new.ensures (rows_of_view c.args.order start _ _ axis here whole v has.slower_lens has.slower_strides steps) in
    let all = c.along.ensures ∙ of_axis in
    ap rows_places all
    ∙ rows_places-view_rows c.args.order v
    ∙ has.places start whole
    ∙ ap (view_places c.args.order) here

pub returns-clause-some : goal.returns-clause-some
returns-clause-some g c =
    let start = c.self.inside.start in
    let axis = c.joined_axis-axis.result in
    let here : view_of start c.slice.result.now c.slice-2.result.now ≡ c.args.self =
    rw (c.slice.ensures.list, c.slice-2.ensures.list) c.self.view_is in
    let whole : IsView (view_of start c.slice.result.now c.slice-2.result.now) =
    rw (c.slice.ensures.list, c.slice-2.ensures.list) c.self.invariant in
    let has = c.joined_axis-axis.ensures.places in
    let v = has.is_view start whole in
    let f : FitsSigned w64 c.signed-stride.result = search rules in
    let steps : to_z w64 (of_z w64 c.signed-stride.result) ≡ signed axis.stride =
    to_z-of_z w64 c.signed-stride.result f ∙ c.signed-stride.ensures.same_bits in
    let row : Row = record { start = 0; stride = to_z w64 (of_z w64 c.signed-stride.result); len = axis.len } in
    let of_axis : rows_between c.new.result.0 c.new.result.1 row 0 (cond (nat_eq axis.len 0) 0 (size c.new.result.1.shape))
    ≡ view_rows c.args.order (axis_view c.args.order start axis) =
    rw c.new.ensures (rows_of_view c.args.order start _ _ axis here whole v has.slower_lens has.slower_strides steps) in
    let all = c.along.ensures ∙ of_axis in
    subst (All (λ row. 0 < row.len)) (sym all) (some_in_each_row c.args.order (axis_view c.args.order start axis))

pub returns-clause-longest : goal.returns-clause-longest
returns-clause-longest g c =
    let start = c.self.inside.start in
    let axis = c.joined_axis-axis.result in
    let here : view_of start c.slice.result.now c.slice-2.result.now ≡ c.args.self =
    rw (c.slice.ensures.list, c.slice-2.ensures.list) c.self.view_is in
    let whole : IsView (view_of start c.slice.result.now c.slice-2.result.now) =
    rw (c.slice.ensures.list, c.slice-2.ensures.list) c.self.invariant in
    let has = c.joined_axis-axis.ensures.places in
    let v = has.is_view start whole in
    let f : FitsSigned w64 c.signed-stride.result = search rules in
    let steps : to_z w64 (of_z w64 c.signed-stride.result) ≡ signed axis.stride =
    to_z-of_z w64 c.signed-stride.result f ∙ c.signed-stride.ensures.same_bits in
    let row : Row = record { start = 0; stride = to_z w64 (of_z w64 c.signed-stride.result); len = axis.len } in
    let of_axis : rows_between c.new.result.0 c.new.result.1 row 0 (cond (nat_eq axis.len 0) 0 (size c.new.result.1.shape))
    ≡ view_rows c.args.order (axis_view c.args.order start axis) =
    rw c.new.ensures (rows_of_view c.args.order start _ _ axis here whole v has.slower_lens has.slower_strides steps) in
    let all = c.along.ensures ∙ of_axis in
    λ other begins.
    let first = subst (λ view. BeginsAsRow (view_places c.args.order view) other) (sym here) begins in
    subst (All (λ row. other.len ≤ row.len)) (sym all) (as_long c.args.order axis start other.len
    (c.joined_axis-axis.ensures.longest start other whole first))

pub returns-clause-in_order : goal.returns-clause-in_order
returns-clause-in_order g c =
    let left = λ (rows : List Row). rows in
    λ p s. as_is p (left p.from) (from_front (YieldsFirst left) (λ x. x) left (λ s t h. ap length h.0) (λ s x t h. h) p s)
