-- Each of both is valid.
use Rattle.std.proofs.lemmas.List.Elements.{All-append}
use Rattle.ndarray_layout.specs.Signed.{all_signed}
use Rattle.ndarray_layout.specs.ValidLayout.{IsValidLayout}
use Rattle.nd_loops.proofs.beside.Tuple2Beside.count.Goals as goal

pub returns-clause-valid : goal.returns-clause-valid
returns-clause-valid g c = λ lens same.
    All-append (λ strides. IsValidLayout lens (all_signed strides)) (g.A.Beside.layouts c.args.self.now.0)
    (g.B.Beside.layouts c.args.self.now.1) (c.count.ensures.valid lens same.0) (c.count-2.ensures.valid lens same.1)
