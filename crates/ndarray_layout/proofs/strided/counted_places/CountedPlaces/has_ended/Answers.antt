-- Where a row has begun, places of it are left.
use Rattle.std.proofs.Common.{◌-◌, length, eqb-true, ap, arith}
use Rattle.ndarray_layout.proofs.BothEnds.{length-parts}
use Rattle.ndarray_layout.proofs.strided.counted_places.CountedPlaces.has_ended.Goals as goal

pub returns-else-self-eq1 : goal.returns-else-self-eq1
returns-else-self-eq1 g c =
    let p = c.self.inside in (
      λ is. absurd (omega (arith, c.if-self-eq1.false, eqb-true p.left 1 is)),
      λ none. absurd (omega (
        arith,
        none,
        c.if-self-eq1.false,
        c.self.invariant.0,
        ap length c.self.view_is,
        length-parts p.place p.stride (p.left - 1) p.rows p.back,
      )),
    )
