-- Each index lies at its flat index, by the law `place_at_flat_index`.
use Rattle.ndarray_layout.specs.declared.Order.TheVariants.{RowMajor}
use Rattle.ndarray_layout.proofs.Laws.RowMajor.{place_at_flat_index}
use Rattle.example_callers.proofs.rows.in_shape.Goals as goal

pub returns-clause-place : goal.returns-clause-place
returns-clause-place c = λ index here. place_at_flat_index RowMajor _ index c.in_ok-view.ensures.is_view c.in_ok-view.ensures.view here
