use Rattle.std.proofs.Common.{rules, ◌≡◌, arith, sym, ◌∙◌, length, ◌*ℤ◌, FitsSigned, to_z, of_z, w64}
use Rattle.std.proofs.lemmas.Int.{to_z-of_z}
use Rattle.nd_slice.proofs.Definitions.{between, signed}
use Rattle.nd_slice.proofs.Slicing.{stride_fits}
use Rattle.nd_slice.proofs.Laws.Offsets.{picked_many}
use Rattle.nd_slice.proofs.picks.AxisPicks.stride.Goals as goal
use Rattle.nd_slice.proofs.picks.AxisPicks.stride.Goals.{After-signed}

module _ (c : After-signed) where
  stride_is : to_z w64 (of_z w64 c.signed.result) ≡ signed c.args.stride
  stride_is = to_z-of_z w64 c.signed.result (search rules) ∙ c.signed.ensures.same_bits

  step_is : to_z w64 (of_z w64 c.args.self.step) ≡ c.args.self.step
  step_is = to_z-of_z w64 c.args.self.step (search rules)

  fits : FitsSigned w64 (signed c.args.stride *ℤ c.args.self.step)
  fits = stride_fits c.args.self.step c.args.self.start c.args.self.end c.args.self.end (signed c.args.stride)
      c.args.self.moves (omega arith) c.requires (omega (arith, c.count.ensures))

pub overflow_mul-signed : goal.overflow_mul-signed
overflow_mul-signed c =
    let at = (goal.at.overflow_mul-signed c).After-signed in
    rw (stride_is at, step_is at) (fits at)

pub returns-else-count-le1 : goal.returns-else-count-le1
returns-else-count-le1 c =
    let at = (goal.at.returns-else-count-le1 c).After-signed in
    let product = rw (stride_is at, step_is at) at c.unsigned.ensures.back in
    let many = picked_many (length (between c.args.self.step c.args.self.start c.args.self.end)) (signed c.args.stride) c.args.self.step
    (omega (arith, c.count.ensures)) in
    product ∙ to_z-of_z w64 (signed c.args.stride *ℤ c.args.self.step) (fits at) ∙ sym many
