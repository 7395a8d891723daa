use Rattle.std.proofs.Common.{◌≡◌, ◌<◌, ◌+◌, ◌*◌, ℕ, List, length, get_or, set, take, arith, sym, ap, ap₂, ◌∙◌, length-set, mul_assoc}
use Rattle.std.proofs.lemmas.List.Edits.{fill_by_more}
use Rattle.nd_base.specs.Size.{size}
use Rattle.nd_dim.specs.Strides.{size_until}
use Rattle.nd_base.proofs.Laws.Size.{size_take_more}
use Rattle.nd_dim.proofs.strides.write_products.Goals as goal

-- the next product, as the code has it
next : (lens : List ℕ) (k first : ℕ) {product len : ℕ} → k < length lens → product ≡ first * size_until lens k → get_or lens k 0 ≡ len
    → product * len ≡ first * size_until lens (k + 1)
next lens k first below e f =
    ap₂ (λ a b. a * b) e (sym f)
    ∙ mul_assoc first (size (take k lens)) (get_or lens k 0)
    ∙ ap (λ s. first * s) (sym (size_take_more lens k below))

pub overflow_mul-product : goal.overflow_mul-product
overflow_mul-product g c =
    let lens = g.S.Sequence.items c.args.lens.now in
    let k = c.loop-k.k in
    let more = next lens k c.args.first (omega arith) c.loop-k.invariant.product (sym c.item-product.ensures) in
    omega (arith, c.requires.fits (k + 1) (omega arith))

pub loop-k-preserved : goal.loop-k-preserved
loop-k-preserved g c =
    let lens = g.S.Sequence.items c.args.lens.now in
    let k = c.loop-k.k in
    let out = g.O.Sequence.items c.loop-k.out in
    let known = c.loop-k.invariant in
    let made = c.set.ensures.items in
    record {
      product = next lens k c.args.first (omega arith) known.product (sym c.item-product.ensures);
      room = ap length made ∙ length-set {A = ℕ} out k c.loop-k.product ∙ known.room;
      written = λ j below. ap (λ xs. get_or xs j 0) (made ∙ ap (set out k) known.product)
          ∙ fill_by_more (λ n. c.args.first * size_until lens n) out k 0 (omega arith) known.written j below;
      target = g.met.O.SequenceMut.same_target_on c.args.out.now c.loop-k.out c.set.new.self known.target c.set.ensures.target;
    }
