-- What is left comes from its front on, in order.
use Rattle.std.proofs.Common.{List, length, ap}
use Rattle.std.specs.Iterator.{YieldsFirst}
use Rattle.std.proofs.iter.runs.Sources.{as_is, from_front}
use Rattle.ndarray_layout.specs.declared.strided.rows.Row.{Row}
use Rattle.ndarray_layout.proofs.strided.Strided.joined_rows.Goals as goal

pub returns-clause-in_order : goal.returns-clause-in_order
returns-clause-in_order g c =
    let left = λ (rows : List Row). rows in
    λ p s. as_is p (left p.from) (from_front (YieldsFirst left) (λ x. x) left (λ s t h. ap length h.0) (λ s x t h. h) p s)
