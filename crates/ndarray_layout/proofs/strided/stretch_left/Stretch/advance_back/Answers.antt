use Rattle.std.proofs.Common.{◌-◌, length, take, ap, ◌∙◌}
use Rattle.ndarray_layout.proofs.Stretches.{places_cut}
use Rattle.ndarray_layout.proofs.strided.stretch_left.Stretch.advance_back.Goals as goal

pub returns : goal.returns
returns c =
    places_cut c.self.invariant c.args.count c.min.ensures ∙ ap (λ xs. take (length xs - c.args.count) xs) c.self.view_is
