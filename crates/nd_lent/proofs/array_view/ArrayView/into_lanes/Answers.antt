-- The rows are those of the array with the axis last.
use Rattle.std.proofs.Common.{ap, map, ◌∙◌}
use Rattle.ndarray_layout.specs.declared.Order.TheVariants.{RowMajor}
use Rattle.ndarray_layout.specs.Rows.{view_rows}
use Rattle.ndarray_layout.specs.View.{view_places}
use Rattle.nd_access.specs.Items.{item_at_place}
use Rattle.nd_access.specs.LentRow.{row_of}
use Rattle.nd_lent.proofs.Steps.{read_step}
use Rattle.nd_lent.proofs.array_view.ArrayView.into_lanes.Goals as goal

pub of_reader-requires : goal.of_reader-requires
of_reader-requires g c = read_step c.in_ok-view.ensures.kept c.self.invariant

pub returns-clause-rows : goal.returns-clause-rows
returns-clause-rows g c =
    rw (← c.self.view_is)
    (c.of_reader.ensures.rows
    ∙ ap (λ view. map (row_of c.self.inside.reader.items) (view_rows RowMajor view)) c.in_ok-view.ensures.view)

pub returns-clause-items : goal.returns-clause-items
returns-clause-items g c =
    rw (← c.self.view_is)
    (c.of_reader.ensures.items
    ∙ ap (λ view. map (item_at_place c.self.inside.reader.items) (view_places RowMajor view)) c.in_ok-view.ensures.view)
