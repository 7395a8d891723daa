use Rattle.std.proofs.Common.{◌<◌, false}
use Rattle.std.proofs.lemmas.Nat.{le-div}
use Rattle.nd_slice.proofs.intersect_lemmas.Multiples.{divisor_some, inverse_back}
use Rattle.nd_slice.proofs.intersect_lemmas.Steps.{AreApart}
use Rattle.nd_slice.proofs.intersect.multiplier.inverse.Goals as goal
use Rattle.nd_slice.proofs.intersect.multiplier.inverse.Goals.{After-common_divisor-found}

some_of : (c : After-common_divisor-found) → 0 < c.common_divisor-found.result.gcd
some_of c = divisor_some c.args.factor c.args.modulus c.common_divisor-found.result.gcd c.requires.factor_some
    c.common_divisor-found.ensures.gcd

pub nonzero_div-result : goal.nonzero_div-result
nonzero_div-result c = some_of ((goal.at.nonzero_div-result c).After-common_divisor-found)

pub overflow_sub-result : goal.overflow_sub-result
overflow_sub-result c =
    let some = some_of ((goal.at.overflow_sub-result c).After-common_divisor-found) in
    le-div c.common_divisor-found.result.first c.args.modulus c.common_divisor-found.result.gcd some
    c.common_divisor-found.ensures.first_within

pub returns-else-found-clause-inverse : goal.returns-else-found-clause-inverse
returns-else-found-clause-inverse c =
    let found = c.common_divisor-found.result in
    let known = c.common_divisor-found.ensures in
    let some = some_of ((goal.at.returns-else-found-clause-inverse c).After-common_divisor-found) in
    let apart : AreApart c.args.factor c.args.modulus found.gcd found.first found.second false = rw c.if-found.false at known.apart in
    inverse_back found.first found.second found.gcd some known.gcd apart known.first_within known.second_within
