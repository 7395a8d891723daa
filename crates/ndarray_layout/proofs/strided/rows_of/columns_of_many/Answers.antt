use Rattle.std.proofs.Common.{◌≡◌, FitsSigned, rules, to_z, of_z, refl, ◌∙◌, arith}
use Rattle.std.proofs.lemmas.Int.{to_z-of_z}
use Rattle.std.specs.Int.{w64}
use Rattle.nd_base.proofs.Laws.Definitions.{signed}
use Rattle.nd_base.proofs.Laws.NonzeroSize.{size_le_nonzero_size}
use Rattle.ndarray_layout.proofs.RowColumns.{has_columns}
use Rattle.ndarray_layout.proofs.strided.rows_of.columns_of_many.Goals as goal

pub product-requires : goal.product-requires
product-requires c = omega (arith, size_le_nonzero_size c.args.lens.now, c.requires.size_fits)

pub returns-clause-columns : goal.returns-clause-columns
returns-clause-columns c =
    let axis = c.joined_axis-axis.result in
    let f : FitsSigned w64 c.signed.result = search rules in
    let step : to_z w64 (of_z w64 c.signed.result) ≡ signed axis.stride = to_z-of_z w64 c.signed.result f ∙ c.signed.ensures.same_bits in
    λ start here. has_columns c.args.order start c.args.lens.now c.args.strides.now axis here c.joined_axis-axis.ensures.places refl step
