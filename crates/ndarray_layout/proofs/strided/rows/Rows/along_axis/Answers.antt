-- The slower axes are a view of their own, and the rows along the axis from each of its places are those of the view.
use Rattle.std.proofs.Common.{rules, ◌≡◌, FitsSigned, of_z, to_z, ◌∙◌}
use Rattle.std.specs.Int.{w64}
use Rattle.std.proofs.lemmas.Int.{to_z-of_z}
use Rattle.nd_base.proofs.Laws.Definitions.{signed}
use Rattle.ndarray_layout.proofs.NumberedRows.{few_of_axis, rows_of_axis}
use Rattle.ndarray_layout.proofs.RowsLeft.{IsView-slower}
use Rattle.ndarray_layout.proofs.strided.rows.Rows.along_axis.Goals as goal

pub along-requires-clause-is_view : goal.along-requires-clause-is_view
along-requires-clause-is_view c = IsView-slower c.args.order c.args.start c.args.axis c.requires

pub along-requires-clause-fits : goal.along-requires-clause-fits
along-requires-clause-fits c = few_of_axis c.args.order c.args.start c.args.axis c.requires

pub returns : goal.returns
returns c =
    let axis = c.args.axis in
    let f : FitsSigned w64 c.signed.result = search rules in
    let steps : to_z w64 (of_z w64 c.signed.result) ≡ signed axis.stride = to_z-of_z w64 c.signed.result f ∙ c.signed.ensures.same_bits in
    c.along.ensures ∙ rows_of_axis c.args.order c.args.start axis c.requires steps
