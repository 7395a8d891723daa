-- Of both layouts no axis joins any more, so no longer rows begin both.
use Rattle.std.proofs.Common.{◌≡◌, ℕ, [], ◌∷◌, get_or, refl, sym, ap, ◌∙◌, arith}
use Rattle.ndarray_layout.specs.View.{View}
use Rattle.ndarray_layout.proofs.JoinedInAll.{BeginsLayout, BeginsLayout-of_view, longest_of_all, of_two}
use Rattle.ndarray_layout.proofs.strided.Strided.joined_rows_with.Goals as goal

pub returns-clause-longest : goal.returns-clause-longest
returns-clause-longest g c =
    let order = c.args.order in
    let lens = c.slice-lens.result in
    let joined = c.joined_in_each-joined in
    let strides = λ (number : ℕ). get_or (c.slice.result.now ∷ c.slice-2.result.now ∷ []) number [] in
    let list : lens.now ≡ g.D.Lengths.list c.other.inside.dim = c.slice-lens.ensures.list ∙ ap (λ (v : View). v.shape) c.self.view_is
    ∙ c.requires.shape ∙ sym (ap (λ (v : View). v.shape) c.other.view_is) in
    λ one another begins also same.
    let first = BeginsLayout-of_view order c.self.inside.start lens.now c.slice.result.now one
    (rw (c.slice-lens.ensures.list, c.slice.ensures.list) c.self.view_is)
    (rw (c.slice-lens.ensures.list, c.slice.ensures.list) c.self.invariant) begins refl in
    let second = BeginsLayout-of_view order c.other.inside.start lens.now c.slice-2.result.now another
    (rw (list, c.slice-2.ensures.list) c.other.view_is) (rw (list, c.slice-2.ensures.list) c.other.invariant) also (sym same) in
    c.rows_along.ensures.longest one.len (longest_of_all order lens strides joined.new.joined (omega (arith, joined.ensures.written))
    joined.ensures.joined joined.ensures.longest
    (λ number here. of_two (λ k. BeginsLayout order lens.now (strides k) one.len) first second number
    (omega (arith, here, joined.ensures.written))))
