use Rattle.std.proofs.Common.{◌+◌, ◌*◌, ◌/◌, ◌%◌, arith}
use Rattle.nd_slice.proofs.intersect_lemmas.Steps.{step, part_within, ended}
use Rattle.nd_slice.proofs.intersect.euclid.common_divisor.Goals as goal

pub overflow_add-after_second : goal.overflow_add-after_second
overflow_add-after_second c =
    let at = c.loop-rest in
    let next = step at.invariant (omega arith) in
    omega (
      arith,
      part_within (at.second + at.gcd / at.rest * at.next_second) (at.next_second * (at.gcd % at.rest)) next.some
          next.second_area,
    )

pub overflow_add-after_first : goal.overflow_add-after_first
overflow_add-after_first c =
    let at = c.loop-rest in
    let next = step at.invariant (omega arith) in
    omega (arith, part_within (at.first + at.gcd / at.rest * at.next_first) (at.next_first * (at.gcd % at.rest)) next.some next.first_area)

pub loop-rest-preserved : goal.loop-rest-preserved
loop-rest-preserved c = step c.loop-rest.invariant (omega arith)

pub returns : goal.returns
returns c =
    let end = ended c.loop-rest.invariant (omega arith) in
    record { gcd = end.divisor; apart = end.apart; first_within = end.first_within; second_within = end.second_within }
