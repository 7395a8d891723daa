use Rattle.std.proofs.Common.{◌-◌, length, ap, arith}
use Rattle.ndarray_layout.proofs.BothEnds.{length-parts}
use Rattle.ndarray_layout.proofs.strided.counted_places.CountedPlaces.len.Goals as goal

pub overflow_add-result : goal.overflow_add-result
overflow_add-result g c =
    let places = c.self.inside in
    let rows = places.rows in
    omega (
      arith,
      c.self.invariant.1.fits,
      length-parts places.place places.stride (places.left - 1) rows places.back,
      c.count_of_places.ensures,
    )

pub overflow_add-result-2 : goal.overflow_add-result-2
overflow_add-result-2 g c =
    let places = c.self.inside in
    let rows = places.rows in
    omega (
      arith,
      c.self.invariant.1.fits,
      length-parts places.place places.stride (places.left - 1) rows places.back,
      c.count_of_places.ensures,
    )

pub returns : goal.returns
returns g c =
    let places = c.self.inside in
    let rows = places.rows in
    omega (
      arith,
      ap length c.self.view_is,
      length-parts places.place places.stride (places.left - 1) rows places.back,
      c.count_of_places.ensures,
    )
