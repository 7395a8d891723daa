-- The product of all lengths that are not 0 is that of the counts times that of the block.
use Rattle.std.proofs.Common.{rules, ◌≡◌, ◌+◌, ◌*◌, ◌<◌, ◌≤◌, true, false, cond, Some, None, List, ℕ, length, refl, sym, ap, ◌∙◌, arith}
use Rattle.std.proofs.Common.{le-mul_of_pos_right}
use Rattle.std.proofs.lemmas.Bool.{lt-ltb, ltb-false, ltb-true}
use Rattle.std.specs.Prelude.{◌&&◌, ◌==◌, nat_lt}
use Rattle.std.specs.Result.{result_err}
use Rattle.nd_base.specs.declared.error.ErrorKind.TheVariants.{Overflow}
use Rattle.nd_base.proofs.Laws.Definitions.{is_empty, limit, nonzero_size}
use Rattle.nd_base.proofs.Laws.NonzeroSize.{nonzero_size_of_nonempty, nonzero_size_pos, size_le_nonzero_size}
use Rattle.ndarray_layout.specs.private.Blocks.{block_counts}
use Rattle.ndarray_layout.proofs.BlocksWritten.{no_overflow_reported, overflow_fault, overflow_reported}
use Rattle.ndarray_layout.proofs.Laws.BlocksView.{allows}
use Rattle.ndarray_layout.proofs.strided.blocks.check_blocks.Given.{Over}
use Rattle.ndarray_layout.proofs.strided.blocks.check_blocks.Goals as goal
use Rattle.ndarray_layout.proofs.strided.blocks.check_blocks.Goals.{Else-contains, In_ok-size}

-- the lengths of the block, and the counts of blocks
abbrev lens : (g : Over) → Else-contains g → List ℕ
lens g c = g.D.Lengths.list c.args.block.now

abbrev counts : (g : Over) → Else-contains g → List ℕ
counts g c = block_counts c.args.blocks c.args.shape.now (lens g c)

-- the tests before
same : (g : Over) (c : Else-contains g)
    → (length (lens g c) == length c.args.shape.now && allows c.args.fixed (length c.args.shape.now + length c.args.shape.now)) ≡ true
same g c = rw (c.slice-lens.ensures.list) at (sym c.has_block_counts.ensures ∙ c.if-not-has_block_counts.false)

some : (g : Over) (c : Else-contains g) → is_empty (lens g c) ≡ false
some g c = rw (c.slice-lens.ensures.list) at (sym c.contains.ensures.value ∙ c.if-contains.false)

-- the product of the lengths of the block
fits : (g : Over) (c : In_ok-size g) → nonzero_size (g.D.Lengths.list c.args.block.now) ≤ limit
fits g c = ltb-false limit _ (no_overflow_reported (nat_lt limit (nonzero_size (g.D.Lengths.list c.args.block.now)))
    c.in_ok-size.ensures.fault)

pub returns-in_err-size : goal.returns-in_err-size
returns-in_err-size g c =
    let at = (goal.at.returns-in_err-size g c).Else-contains in
    let block = lens g at in
    let reported : Some c.in_err-size.field-0.0 ≡ cond (nat_lt limit (nonzero_size block)) (Some Overflow) None =
    c.in_err-size.ensures.fault in
    let large : nat_lt limit (nonzero_size block) ≡ true = overflow_reported (nat_lt limit (nonzero_size block)) reported in
    let past : limit < nonzero_size (counts g at) * nonzero_size block =
    omega (arith, ltb-true limit (nonzero_size block) large, le-mul_of_pos_right (nonzero_size block) (nonzero_size_pos (counts g at))) in
    let given : result_err c.from_residual.result ≡ Some c.in_err-size.field-0.0 = search rules in
    given ∙ reported ∙ ap (λ b. cond b (Some Overflow) None) large
    ∙ sym (overflow_fault c.args.fixed c.args.shape.now (counts g at) block true (same g at) (some g at)
    (lt-ltb limit (nonzero_size (counts g at) * nonzero_size block) past))

pub check_total-requires-clause-size_fits : goal.check_total-requires-clause-size_fits
check_total-requires-clause-size_fits g c =
    let at = (goal.at.check_total-requires-clause-size_fits g c).In_ok-size in
    omega (arith, fits g at, c.in_ok-size.ensures.ok, size_le_nonzero_size (g.D.Lengths.list c.args.block.now))

-- the size of the block, which has an index
is_size : (g : Over) (c : In_ok-size g) → is_empty (g.D.Lengths.list c.args.block.now) ≡ false
    → c.in_ok-size.size ≡ nonzero_size (g.D.Lengths.list c.args.block.now)
is_size g c nonempty = c.in_ok-size.ensures.ok ∙ sym (nonzero_size_of_nonempty (g.D.Lengths.list c.args.block.now) nonempty)

pub check_total-requires-clause-has_index : goal.check_total-requires-clause-has_index
check_total-requires-clause-has_index g c =
    let steps = goal.at.check_total-requires-clause-has_index g c in
    let size = is_size g steps.In_ok-size (some g steps.Else-contains) in
    omega (arith, size, nonzero_size_pos (g.D.Lengths.list c.args.block.now))

pub returns : goal.returns
returns g c =
    let steps = goal.at.returns g c in
    let at = steps.Else-contains in
    let total = nonzero_size (counts g at) * nonzero_size (lens g at) in
    let size = is_size g steps.In_ok-size (some g at) in
    (rw (c.slice-lens.ensures.list, size) at c.check_total.ensures)
    ∙ sym (overflow_fault c.args.fixed c.args.shape.now (counts g at) (lens g at) (nat_lt limit total) (same g at) (some g at) refl)
