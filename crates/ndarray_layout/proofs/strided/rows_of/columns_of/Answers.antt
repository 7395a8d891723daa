-- One axis, or none, is a column.
use Rattle.std.proofs.Common.{◌≡◌, ◌*◌, FitsSigned, rules, to_z, of_z, refl, ◌∙◌, ap, arith}
use Rattle.std.proofs.lemmas.Int.{to_z-of_z}
use Rattle.std.proofs.lemmas.List.{nil_from_length}
use Rattle.std.specs.Int.{w64}
use Rattle.nd_base.proofs.Laws.Definitions.{all_signed, low_span, signed, size}
use Rattle.ndarray_layout.proofs.RowColumns.{HasPlaces-rows, count_of_columns, has_columns}
use Rattle.ndarray_layout.proofs.Laws.View.{lowest_view}
use Rattle.ndarray_layout.proofs.strided.rows_of.columns_of.Goals as goal

pub returns-clause-columns : goal.returns-clause-columns
returns-clause-columns c =
    let axis = c.fastest_axis-axis.result in
    let f : FitsSigned w64 c.signed.result = search rules in
    let step : to_z w64 (of_z w64 c.signed.result) ≡ signed axis.stride = to_z-of_z w64 c.signed.result f ∙ c.signed.ensures.same_bits in
    let has = HasPlaces-rows c.fastest_axis-axis.ensures in
    λ start here. has_columns c.args.order start c.args.lens.now c.args.strides.now axis here has refl step

pub returns-clause-count : goal.returns-clause-count
returns-clause-count c =
    let axis = c.fastest_axis-axis.result in
    let low = low_span c.args.lens.now (all_signed c.args.strides.now) in
    let has = HasPlaces-rows c.fastest_axis-axis.ensures in
    let none = nil_from_length axis.lens.now (omega (arith, c.fastest_axis-axis.ensures.one_less, c.if-lens-gt1.false)) in
    let all = count_of_columns c.args.order low c.args.lens.now c.args.strides.now axis (lowest_view c.requires) has in
    omega (arith, all, ap (λ lens. axis.len * size lens) none)
