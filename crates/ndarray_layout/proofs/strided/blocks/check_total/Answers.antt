-- The product so far is a factor of the whole, whose other factors are not 0.
use Rattle.std.proofs.Common.{rules, ◌≡◌, ◌≢◌, ℕ, ◌+◌, ◌*◌, ◌<◌, ◌≤◌, cond, Some, None, List, [], ◌∷◌, arith, drop, get_or, length, refl}
use Rattle.std.proofs.Common.{sym, ap, ◌∙◌, drop_of_length-le, le-mul_of_pos_right, mul_assoc, mul-one, pos_of_ne-zero}
use Rattle.std.proofs.Math.Nat.{mul-pos}
use Rattle.std.proofs.lemmas.Bool.{le-ltb, lt-ltb, ltb-false, ltb-true, ne_eqb}
use Rattle.std.specs.Prelude.{nat_lt}
use Rattle.std.specs.Result.{result_err}
use Rattle.nd_base.specs.declared.error.ErrorKind.TheVariants.{Overflow}
use Rattle.nd_base.specs.Size.{limit, nonzero_size, size}
use Rattle.nd_base.proofs.Laws.NonzeroSize.{nonzero_size_from_other, nonzero_size_from_zero, nonzero_size_of_nonempty, nonzero_size_pos}
use Rattle.ndarray_layout.specs.private.Blocks.{block_counts}
use Rattle.ndarray_layout.proofs.BlocksWritten.{get_or-block_counts, length-block_counts, no_overflow_reported, overflow_reported}
use Rattle.ndarray_layout.proofs.strided.blocks.check_total.Goals as goal
use Rattle.ndarray_layout.proofs.strided.blocks.check_total.Goals.{After-count-count, else-count-ne0, then-count-ne0+in_ok-product}

abbrev counts : After-count-count → List ℕ
counts c = block_counts c.args.blocks c.args.shape.now c.args.block.now

there : (c : After-count-count) → c.loop-axis.axis < length (counts c)
there c = omega (arith, c.loop-axis-test.true, length-block_counts c.args.blocks c.args.shape.now c.args.block.now (sym c.requires.counts))

read : (c : After-count-count) → c.count-count.result ≡ get_or (counts c) c.loop-axis.axis 0
read c = c.count-count.ensures ∙ sym (get_or-block_counts c.args.blocks c.args.shape.now c.args.block.now c.loop-axis.axis
    (sym c.requires.counts) c.loop-axis-test.true)

-- a shape of two axes with an index has the product of both lengths as its size
pair : (total count : ℕ) {list : List ℕ} → list ≡ total ∷ count ∷ [] → 0 < total → count ≢ 0 → nonzero_size list ≡ total * count
pair total count {list} is some more =
    ap nonzero_size is
    ∙ nonzero_size_of_nonempty (total ∷ count ∷ []) (rw (ne_eqb total 0 (λ e. absurd (omega arith)), ne_eqb count 0 more) refl)
    ∙ omega arith

pub returns-in_err-product : goal.returns-in_err-product
returns-in_err-product c =
    let at = (goal.at.returns-in_err-product c).After-count-count in
    let list = counts at in
    let i = c.loop-axis.axis in
    let total = c.loop-axis.total in
    let some : get_or list i 0 ≢ 0 = λ e. c.if-count-ne0.true (read at ∙ e) in
    let from = nonzero_size_from_other list i (there at) some in
    let whole : (total * get_or list i 0) * nonzero_size (drop (i + 1) list) ≡ nonzero_size list * c.args.size =
    rw (mul_assoc, ← from) c.loop-axis.invariant.product in
    let part : total * get_or list i 0 ≤ (total * get_or list i 0) * nonzero_size (drop (i + 1) list) =
    le-mul_of_pos_right _ (nonzero_size_pos (drop (i + 1) list)) in
    let two = pair total c.count-count.result c.new_ix2.ensures c.loop-axis.invariant.some c.if-count-ne0.true in
    let reported : Some c.in_err-product.field-0.0 ≡ cond (nat_lt limit (total * c.count-count.result)) (Some Overflow) None =
    rw two at c.in_err-product.ensures.fault in
    let large = overflow_reported (nat_lt limit (total * c.count-count.result)) reported in
    let past : limit < total * get_or list i 0 = rw (read at) at (ltb-true limit (total * c.count-count.result) large) in
    let given : result_err c.from_residual.result ≡ Some c.in_err-product.field-0.0 = search rules in
    given ∙ reported ∙ ap (λ b. cond b (Some Overflow) None) (large ∙ sym (lt-ltb limit (nonzero_size list * c.args.size) (omega arith)))

pub loop-axis-preserved : goal.loop-axis-preserved
loop-axis-preserved c =
    let at = (goal.at.loop-axis-preserved c).After-count-count in
    let list = counts at in
    let i = c.loop-axis.axis in
    elim c.if-count-ne0.branch [
      | then-count-ne0+in_ok-product w ↦
          let more = w.if-count-ne0.true in
          let total = c.loop-axis.total in
          let from = nonzero_size_from_other list i (there at) (λ e. more (read at ∙ e)) in
          let two = pair total c.count-count.result w.new_ix2.ensures c.loop-axis.invariant.some more in
          let small : total * c.count-count.result ≤ limit =
          ltb-false limit _ (no_overflow_reported (nat_lt limit (total * c.count-count.result))
          (rw two at w.in_ok-product.ensures.fault)) in
          let is : w.in_ok-product.product ≡ total * c.count-count.result =
          w.in_ok-product.ensures.ok ∙ ap size w.new_ix2.ensures ∙ omega arith in
          record {
            some = omega (arith, w.total-is, is, mul-pos c.loop-axis.invariant.some (pos_of_ne-zero more));
            fits = omega (arith, w.total-is, is, small);
            product = rw (w.total-is, is, read at, mul_assoc, ← from) c.loop-axis.invariant.product;
          }
      | else-count-ne0 w ↦
          let from = nonzero_size_from_zero list i (there at) (sym (read at) ∙ w.if-count-ne0.false) in
          record {
            some = omega (arith, w.total-is);
            fits = omega (arith, w.total-is);
            product = rw (w.total-is, ← from) c.loop-axis.invariant.product;
          }
    ]

pub returns : goal.returns
returns c =
    let list = block_counts c.args.blocks c.args.shape.now c.args.block.now in
    let count = length-block_counts c.args.blocks c.args.shape.now c.args.block.now (sym c.requires.counts) in
    let past : length list ≤ c.loop-axis.axis = omega (arith, count, c.loop-axis-test.false) in
    let end = drop_of_length-le list past in
    let whole = sym (mul-one c.loop-axis.total) ∙ (rw end at c.loop-axis.invariant.product) in
    let small = le-ltb limit (nonzero_size list * c.args.size) (omega (arith, whole, c.loop-axis.invariant.fits)) in
    ap (λ b. cond b (Some Overflow) None) (sym small)
