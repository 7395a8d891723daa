-- The product of all is that of the counts times that of the block.
use Rattle.std.proofs.Common.{◌≡◌, ◌*◌, ◌≤◌, ℕ, leb, Option, Some, None, is_some, sym, ap, ◌∙◌, arith}
use Rattle.std.proofs.Common.{le-mul_of_pos_right, mul_comm, one-mul}
use Rattle.std.proofs.lemmas.Bool.{false_from_ne_true, le-leb, leb-true}
use Rattle.std.specs.Prelude.{SomeIff}
use Rattle.ndarray_layout.specs.Size.{limit, nonzero_size}
use Rattle.ndarray_layout.proofs.Laws.NonzeroSize.{nonzero_size_pos}
use Rattle.ndarray_layout_c.specs.BlockReasons.{taken_counts}
use Rattle.ndarray_layout_c.proofs.BlockCounts.{product_of_both}
use Rattle.ndarray_layout_c.proofs.block_reasons.has_size.Goals as goal

-- there is a number where it is within the limit
told : (found : Option ℕ) (n : ℕ) → SomeIff found (n ≤ limit) n → is_some found ≡ leb n limit
told None n some = sym (false_from_ne_true (leb n limit) (λ within. some (leb-true n limit within)))
told (Some m) n some = sym (le-leb n limit some.0)

pub times_counts-requires-clause-some : goal.times_counts-requires-clause-some
times_counts-requires-clause-some c = omega (arith, c.in-Some.ensures, nonzero_size_pos c.args.block.now)

pub returns-in-Some : goal.returns-in-Some
returns-in-Some c =
    let block = c.args.block.now in
    let counts = taken_counts c.args.blocks c.args.shape.now block in
    let whole = ap (λ n. n * nonzero_size counts) (c.in-Some.ensures.1 ∙ one-mul (nonzero_size block))
    ∙ mul_comm (nonzero_size block) (nonzero_size counts) ∙ sym (product_of_both counts block) in
    c.is_some.ensures ∙ told c.times_counts.result (c.in-Some.size * nonzero_size counts) c.times_counts.ensures
    ∙ ap (λ n. leb n limit) whole

pub returns-in-None : goal.returns-in-None
returns-in-None c =
    let block = c.args.block.now in
    let counts = taken_counts c.args.blocks c.args.shape.now block in
    let part = le-mul_of_pos_right (nonzero_size block) (nonzero_size_pos counts) in
    sym (false_from_ne_true _ (λ within.
    c.in-None.ensures (omega (arith, part, product_of_both counts block, leb-true _ _ within))))
