-- The view is that of the layout, sliced.
use Rattle.std.proofs.Common.{refl, ap, ◌∙◌}
use Rattle.nd_access.specs.declared.cells.Reader.{Reader}
use Rattle.nd_lent.proofs.Steps.{step_to}
use Rattle.nd_lent.proofs.array_view.ArrayView.slice_with.Goals as goal

pub returns-clause-array : goal.returns-clause-array
returns-clause-array g c =
    rw (← c.self.view_is)
    (step_to c.self.inside.reader.items refl
    (c.of_reader.ensures.items ∙ ap (λ (r : Reader g.row.T.Denot). r.items) c.copied.ensures.same) c.of_reader.ensures.view
    c.in_ok-view.ensures.sliced c.in_ok-view.ensures.kept)
