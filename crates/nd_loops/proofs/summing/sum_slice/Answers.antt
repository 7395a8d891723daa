-- In the end no item is left.
use Rattle.std.proofs.Common.{◌≡◌, [], length, ap, sym, ◌∙◌, arith, eqb-true}
use Rattle.std.specs.List.{sum_by}
use Rattle.std.proofs.lemmas.List.{nil_from_length}
use Rattle.nd_loops.proofs.Laws.Sums.{keeps}
use Rattle.nd_loops.proofs.summing.sum_slice.Goals as goal

pub returns : goal.returns
returns g c =
    let left = c.loop-left.left.now in
    let none : left ≡ [] = nil_from_length left (eqb-true (length left) 0 (sym c.is_empty.ensures ∙ c.loop-left-test.false)) in
    let is : c.loop-left.total ≡ sum_by g.T.Unsigned.number c.args.items.now =
    omega (arith, c.loop-left.invariant.sum, ap (sum_by g.T.Unsigned.number) none) in
    keeps (sum_by g.T.Unsigned.number c.args.items.now) (is, omega (arith, c.loop-left.invariant.fits, is))
