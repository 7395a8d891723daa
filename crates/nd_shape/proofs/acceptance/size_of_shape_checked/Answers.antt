use Rattle.std.proofs.Common.{◌≡◌, sym, ◌∙◌, ap, arith}
use Rattle.std.proofs.lemmas.Grind.{common_steps}
use Rattle.nd_base.proofs.Laws.Size.{size_of_empty}
use Rattle.nd_base.specs.Size.{nonzero_size, size}
use Rattle.nd_base.proofs.Laws.NonzeroSize.{nonzero_size_of_nonempty}
use Rattle.nd_shape.proofs.acceptance.size_of_shape_checked.Goals as goal
use Rattle.nd_shape.proofs.acceptance.size_of_shape_checked.Goals.{then-contains, else-contains}

pub returns-clause-ok : goal.returns-clause-ok
returns-clause-ok g c =
    let shape = c.slice-shape.result.now in
    let given = ap size c.slice-shape.ensures.list in
    elim c.if-contains.branch [
      | then-contains w ↦
          let none = sym c.contains.ensures.value ∙ w.if-contains.true in
          w.result-is ∙ sym (size_of_empty shape none) ∙ given
      | else-contains w ↦
          let some = sym c.contains.ensures.value ∙ w.if-contains.false in
          let product : c.in_ok-size.size ≡ nonzero_size shape = grind (arith, common_steps, c.in_ok-size.ensures) in
          w.result-is ∙ product ∙ nonzero_size_of_nonempty shape some ∙ given
    ]
