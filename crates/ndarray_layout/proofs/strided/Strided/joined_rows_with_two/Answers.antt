-- Of all three layouts no axis joins any more, so no longer rows begin them.
use Rattle.std.proofs.Common.{◌≡◌, ℕ, [], ◌∷◌, get_or, refl, sym, ap, ◌∙◌, arith}
use Rattle.ndarray_layout.specs.View.{View}
use Rattle.ndarray_layout.proofs.JoinedInAll.{BeginsLayout, BeginsLayout-of_view, longest_of_all, of_three}
use Rattle.ndarray_layout.proofs.strided.Strided.joined_rows_with_two.Goals as goal

pub returns-clause-longest : goal.returns-clause-longest
returns-clause-longest g c =
    let order = c.args.order in
    let lens = c.slice-lens.result in
    let joined = c.joined_in_each-joined in
    let strides = λ (number : ℕ). get_or (c.slice.result.now ∷ c.slice-2.result.now ∷ c.slice-3.result.now ∷ []) number [] in
    let shape = c.slice-lens.ensures.list ∙ ap (λ (v : View). v.shape) c.self.view_is in
    let list : lens.now ≡ g.D.Lengths.list c.other.inside.dim =
    shape ∙ c.requires.shape ∙ sym (ap (λ (v : View). v.shape) c.other.view_is) in
    let also : lens.now ≡ g.D.Lengths.list c.third.inside.dim =
    shape ∙ c.requires.also ∙ sym (ap (λ (v : View). v.shape) c.third.view_is) in
    λ one another last begins begins_other begins_third same as_last.
    let first = BeginsLayout-of_view order c.self.inside.start lens.now c.slice.result.now one
    (rw (c.slice-lens.ensures.list, c.slice.ensures.list) c.self.view_is)
    (rw (c.slice-lens.ensures.list, c.slice.ensures.list) c.self.invariant) begins refl in
    let second = BeginsLayout-of_view order c.other.inside.start lens.now c.slice-2.result.now another
    (rw (list, c.slice-2.ensures.list) c.other.view_is) (rw (list, c.slice-2.ensures.list) c.other.invariant) begins_other (sym same) in
    let third = BeginsLayout-of_view order c.third.inside.start lens.now c.slice-3.result.now last
    (rw (also, c.slice-3.ensures.list) c.third.view_is) (rw (also, c.slice-3.ensures.list) c.third.invariant) begins_third (sym as_last) in
    c.rows_along.ensures.longest one.len (longest_of_all order lens strides joined.new.joined (omega (arith, joined.ensures.written))
    joined.ensures.joined joined.ensures.longest
    (λ number here. of_three (λ k. BeginsLayout order lens.now (strides k) one.len) first second third number
    (omega (arith, here, joined.ensures.written))))
