use Rattle.std.proofs.Common.{◌≡◌, ◌<◌, ℕ, List, length, get_or, sym, ◌∙◌, arith, one-mul, zero-mul}
use Rattle.std.proofs.lemmas.List.{ext_get_or}
use Rattle.nd_base.proofs.Laws.Size.{size_take_le}
use Rattle.nd_dim.specs.Strides.{size_until, fortran_strides}
use Rattle.nd_dim.proofs.Laws.Strides.{fortran_at, fortran_count, zero_at}
use Rattle.nd_dim.proofs.strides.write_strides.Goals as goal

-- strides that are each as those of the shape
strides_by : (lens strides : List ℕ) → length strides ≡ length lens
    → ((k : ℕ) → k < length lens → get_or strides k 0 ≡ get_or (fortran_strides lens) k 0) → strides ≡ fortran_strides lens
strides_by lens strides count each =
    ext_get_or 0 strides (fortran_strides lens) (count ∙ sym (fortran_count lens)) (λ k h. each k (omega arith))

pub write_products-requires-else-has_zero-clause-fits : goal.write_products-requires-else-has_zero-clause-fits
write_products-requires-else-has_zero-clause-fits g c =
    let lens = g.S.Sequence.items c.args.lens.now in
    let some = sym c.has_zero.ensures ∙ c.if-has_zero.false in
    λ k h. omega (arith, size_take_le lens k some, one-mul (size_until lens k), c.requires.size_fits)

pub returns-then-has_zero-clause-strides : goal.returns-then-has_zero-clause-strides
returns-then-has_zero-clause-strides g c =
    let lens = g.S.Sequence.items c.args.lens.now in
    let none = sym c.has_zero.ensures ∙ c.if-has_zero.true in
    strides_by lens (g.O.Sequence.items c.write_products.new.out) c.write_products.ensures.same_count (λ k h.
    c.write_products.ensures.written k h ∙ zero-mul (size_until lens k) ∙ sym (zero_at lens k none h).1)

pub returns-else-has_zero-clause-strides : goal.returns-else-has_zero-clause-strides
returns-else-has_zero-clause-strides g c =
    let lens = g.S.Sequence.items c.args.lens.now in
    let some = sym c.has_zero.ensures ∙ c.if-has_zero.false in
    strides_by lens (g.O.Sequence.items c.write_products-else-has_zero.new.out) c.write_products-else-has_zero.ensures.same_count (λ k h.
    c.write_products-else-has_zero.ensures.written k h ∙ one-mul (size_until lens k) ∙ sym (fortran_at lens k some h))
