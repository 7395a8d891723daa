-- Nothing stands beside each place, and there are as many places as indices.
use Rattle.std.proofs.Common.{sym, ◌∙◌}
use Rattle.ndarray_layout.specs.declared.Order.TheVariants.{RowMajor}
use Rattle.ndarray_layout.specs.Indices.{indices_in}
use Rattle.ndarray_layout.proofs.Laws.Indices.{length-indices_in}
use Rattle.nd_loops.proofs.RowsBeside.{count_alone, values_alone}
use Rattle.nd_loops.proofs.beside.UnitBeside.into_rows.Goals as goal

pub returns-clause-count : goal.returns-clause-count
returns-clause-count c = λ rows as_long. count_alone rows

pub returns-clause-values : goal.returns-clause-values
returns-clause-values c = λ rows as_long many.
    values_alone rows (indices_in RowMajor c.args._lens.now) (many ∙ sym (length-indices_in RowMajor c.args._lens.now))
