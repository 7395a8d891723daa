-- At first all indices are left.
use Rattle.std.proofs.Common.{◌≡◌, ◌<◌, ◌≤◌, false, replicate, length, refl, arith, ap, ◌∙◌}
use Rattle.std.proofs.lemmas.Bool.{both_ways}
use Rattle.nd_base.proofs.Laws.Definitions.{lengths, size}
use Rattle.nd_base.specs.declared.lengths.TheConstants.{INLINE_AXES}
use Rattle.nd_base.proofs.Laws.Size.{size_of_empty}
use Rattle.nd_shape.specs.IndicesLeft.{indices_left}
use Rattle.nd_shape.proofs.IndicesIteration.{starts}
use Rattle.nd_shape.proofs.Laws.IndicesLeft.{indices_left-whole}
use Rattle.nd_shape.proofs.indexes.cursor.Cursor.new.Given.{Over}
use Rattle.nd_shape.proofs.indexes.cursor.Cursor.new.Goals as goal
use Rattle.nd_shape.proofs.indexes.cursor.Cursor.new.Goals.{In_ok-index, then-left-eq0, else-left-eq0}

-- where an index is left, the one that is kept has as many zeros as there are axes
zeros : (g : Over) (c : In_ok-index g) → 0 < c.product-left.result → lengths c.in_ok-index.index ≡ replicate (length (lengths c.args.dim)) 0
zeros g c some = elim c.if-left-eq0.branch [
  | then-left-eq0 w ↦ absurd (omega (arith, w.if-left-eq0.true, some))
  | else-left-eq0 w ↦ c.in_ok-index.ensures.list ∙ ap (λ n. replicate n 0) (w.axes-is ∙ w.ndim-axes.ensures.count)
]

pub invariant_of-result : goal.invariant_of-result
invariant_of-result g c =
    let whole = c.product-left.ensures ∙ ap size c.slice.ensures.list in
    starts g.O.IterOrder.order (lengths c.args.dim) (lengths c.in_ok-index.index) c.product-left.result (zeros g c) whole

pub returns-in_err-index-clause-no_index : goal.returns-in_err-index-clause-no_index
returns-in_err-index-clause-no_index g c none =
    let empty = c.product-left.ensures ∙ ap size c.slice.ensures.list ∙ size_of_empty (lengths c.args.dim) none in
    let few : c.if-left-eq0.axes ≤ INLINE_AXES = elim c.if-left-eq0.branch [
      | then-left-eq0 w ↦ omega (arith, w.axes-is)
      | else-left-eq0 w ↦ absurd (omega (arith, w.if-left-eq0.false, empty))
    ] in
    absurd (both_ways false refl (c.in_err-index.ensures.memory few))

pub returns-clause-items : goal.returns-clause-items
returns-clause-items g c =
    ap (indices_left g.O.IterOrder.order (lengths c.args.dim)) (c.product-left.ensures ∙ ap size c.slice.ensures.list)
    ∙ indices_left-whole g.O.IterOrder.order (lengths c.args.dim)
