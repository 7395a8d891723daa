use Rattle.std.proofs.Common.{◌+◌, ◌<◌, ap, arith, get_or, length, refl, subst, sym, ◌∙◌, w64}
use Rattle.std.specs.Int.RustNames.{FitsSigned}
use Rattle.std.specs.List.{All}
use Rattle.std.proofs.lemmas.List.{length-drop}
use Rattle.nd_base.proofs.Laws.AsRead.{length-as_read}
use Rattle.nd_base.proofs.Laws.Definitions.{all_signed, as_read, signed}
use Rattle.ndarray_layout.specs.private.ReshapeProgress.{block_strides}
use Rattle.ndarray_layout.proofs.matching.Blocks.{segment-front}
use Rattle.ndarray_layout.proofs.matching.Matched.{block-read, both-read, from-goes, to-read, turn-passed}
use Rattle.ndarray_layout.proofs.matching.Merged.{next-stride}
use Rattle.ndarray_layout.proofs.reshape.advance.Goals as goal

pub returns-then-len-new_len-clause-turn : goal.returns-then-len-new_len-clause-turn
returns-then-len-new_len-clause-turn c =
    let to = as_read c.args.both.now.order c.args.both.now.to.now in
    let count = length-as_read c.args.both.now.order c.args.both.now.to.now in
    both-read c.requires.can_match c.item-len.ensures (ap all_signed c.item-stride.ensures) c.item-new_len.ensures c.if-len-new_len.true
    (omega (arith, count, length-drop (c.args.at.to_axes + 1) to, c.requires.room)) c.write.ensures.written

pub returns-then-len-eq1-clause-turn : goal.returns-then-len-eq1-clause-turn
returns-then-len-eq1-clause-turn c =
    let both = c.args.both.now in
    let strides = as_read both.order both.strides.now in
    let within : c.args.at.from_axes < length strides =
    omega (arith, length-as_read both.order both.strides.now, c.requires.same_count, c.requires.from_left) in
    turn-passed (as_read both.order c.args.out.now) refl
    (from-goes c.requires.can_match c.item-len.ensures (next-stride strides c.args.at.from_axes within) c.if-len-eq1.true
    (λ e. c.if-len-new_len.false (c.if-len-eq1.true ∙ sym e ∙ ap (λ xs. get_or xs 0 0) c.item-new_len.ensures)))

pub returns-then-new_len-eq1-clause-turn : goal.returns-then-new_len-eq1-clause-turn
returns-then-new_len-eq1-clause-turn c =
    let to = as_read c.args.both.now.order c.args.both.now.to.now in
    let count = length-as_read c.args.both.now.order c.args.both.now.to.now in
    to-read c.requires.can_match c.item-new_len.ensures c.if-new_len-eq1.true
    (λ e. c.if-len-eq1.false (sym (ap (λ xs. get_or xs 0 0) c.item-len.ensures) ∙ e))
    (omega (arith, count, length-drop (c.args.at.to_axes + 1) to, c.requires.room)) c.write-then-new_len-eq1.ensures.written

-- ---- a block
pub write_block-requires-clause-fits : goal.write_block-requires-clause-fits
write_block-requires-clause-fits c =
    let to = as_read c.args.both.now.order c.args.both.now.to.now in
    let count = length-as_read c.args.both.now.order c.args.both.now.to.now in
    let block = c.in_ok-block.ensures.block in
    let ahead = c.in_ok-block.ensures.ahead in
    let lens = segment-front c.args.at.to_axes c.in_ok-block.block.end.to_axes to block.lens (omega (arith, ahead.1))
    (omega (arith, ahead.2, count))
    block.front in
    subst (λ ns. All (FitsSigned w64) (block_strides ns (signed c.in_ok-block.block.stride))) (sym lens) block.fits

pub returns-clause-turn : goal.returns-clause-turn
returns-clause-turn c =
    let to = as_read c.args.both.now.order c.args.both.now.to.now in
    let count = length-as_read c.args.both.now.order c.args.both.now.to.now in
    let block = c.in_ok-block.ensures.block in
    let ahead = c.in_ok-block.ensures.ahead in
    let lens = segment-front c.args.at.to_axes c.in_ok-block.block.end.to_axes to block.lens (omega (arith, ahead.1))
    (omega (arith, ahead.2, count))
    block.front in
    block-read c.in_ok-block.block.stride block lens (omega (arith, count, length-drop c.in_ok-block.block.end.to_axes to))
    c.write_block.ensures.written
