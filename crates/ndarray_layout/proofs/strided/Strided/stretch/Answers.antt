-- The layout lies in the order if and only if the places follow one another, and then they are so many.
use Rattle.std.proofs.Common.{◌≡◌, ◌≤◌, ℕ, eqb, refl, ap, sym, ◌∙◌, arith}
use Rattle.std.proofs.lemmas.Bool.{cond-true, cond-false, eq-eqb, false≢true, ne_eqb}
use Rattle.nd_base.proofs.Laws.Definitions.{limit, size}
use Rattle.nd_base.proofs.Laws.NonzeroSize.{size_le_nonzero_size}
use Rattle.ndarray_layout.specs.Stretch.{stretch_start}
use Rattle.ndarray_layout.specs.View.{view_of}
use Rattle.ndarray_layout.proofs.Laws.Stretch.{IsStretch-exactly, stretch_in_bounds}
use Rattle.ndarray_layout.proofs.Laws.View.{size_fits}
use Rattle.ndarray_layout.proofs.strided.Strided.stretch.Goals as goal
use Rattle.ndarray_layout.proofs.strided.Strided.stretch.Goals.{then-size-eq0, else-size-eq0}

pub returns-then-not-lies_in_order-clause-found : goal.returns-then-not-lies_in_order-clause-found
returns-then-not-lies_in_order-clause-found g c =
    let view = view_of c.self.inside.start (g.D.Lengths.list c.self.inside.dim) (g.D.Lengths.list c.self.inside.strides) in
    rw (← c.self.view_is) (
      λ no. absurd (false≢true no),
      λ stretch. c.if-not-lies_in_order.ensures.1 ((IsStretch-exactly c.args.order view).0 stretch),
    )

pub product-size-requires : goal.product-size-requires
product-size-requires g c = rw c.slice.ensures.list (size_fits c.self.invariant)

pub overflow_add-result : goal.overflow_add-result
overflow_add-result g c =
    let shape = g.D.Lengths.list c.self.inside.dim in
    let few : c.product-size.result ≤ limit =
    rw (c.product-size.ensures, c.slice.ensures.list) (omega (arith, size_le_nonzero_size shape, c.self.invariant.valid.size_fits)) in
    let low : c.if-size-eq0.start ≤ limit = elim c.if-size-eq0.branch [
      | then-size-eq0 w ↦ omega (arith, w.start-is)
      | else-size-eq0 w ↦ omega (arith, w.start-is, c.self.invariant.high)
    ] in
    omega arith

pub returns-clause-found : goal.returns-clause-found
returns-clause-found g c =
    let view = view_of c.self.inside.start (g.D.Lengths.list c.self.inside.dim) (g.D.Lengths.list c.self.inside.strides) in
    rw (← c.self.view_is) (
      λ yes. (IsStretch-exactly c.args.order view).1 (c.if-not-lies_in_order.ensures.0 refl),
      λ stretch. refl,
    )

pub returns-clause-in_bounds : goal.returns-clause-in_bounds
returns-clause-in_bounds g c =
    let view = view_of c.self.inside.start (g.D.Lengths.list c.self.inside.dim) (g.D.Lengths.list c.self.inside.strides) in
    let stretch = (IsStretch-exactly c.args.order view).1 (c.if-not-lies_in_order.ensures.0 refl) in
    let count : c.product-size.result ≡ size view.shape = c.product-size.ensures ∙ ap size c.slice.ensures.list in
    let begins : c.if-size-eq0.start ≡ stretch_start view = elim c.if-size-eq0.branch [
      | then-size-eq0 w ↦
          let none = w.if-size-eq0.true in
          w.start-is ∙ sym (cond-true {A = ℕ} (eqb (size view.shape) 0) 0 view.start (eq-eqb (size view.shape) 0 (omega arith)))
      | else-size-eq0 w ↦
          let some = w.if-size-eq0.false in
          w.start-is ∙ sym (cond-false {A = ℕ} (eqb (size view.shape) 0) 0 view.start
          (ne_eqb (size view.shape) 0 (λ e. some (omega arith))))
    ] in
    rw (← c.self.view_is) (λ len within. omega (arith, stretch_in_bounds c.args.order view len stretch within, begins, count))
