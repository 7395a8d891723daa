use Rattle.std.proofs.Common.{length, refl, ap, arith}
use Rattle.std.proofs.lemmas.List.{nil_from_length}
use Rattle.ndarray_layout.proofs.RowsLeft.{HasRows-ends, HasRows-point}
use Rattle.ndarray_layout.proofs.strided.rows.fastest_axis.Goals as goal

pub returns-in-Some : goal.returns-in-Some
returns-in-Some c = HasRows-ends c.in-Some.axis c.in-Some.ensures.0 c.in-Some.ensures.1

pub returns-in-None : goal.returns-in-None
returns-in-None c =
    let none = nil_from_length c.args.strides.now (omega (arith, c.requires, ap length c.in-None.ensures)) in
    HasRows-point c.args.order c.args.lens.now c.args.strides.now _ (refl, refl, c.in-None.ensures, none) c.in-None.ensures c.requires
