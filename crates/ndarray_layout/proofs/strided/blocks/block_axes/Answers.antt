-- Without an index the strides stay the zeros that they were made of.
use Rattle.std.proofs.Common.{◌≡◌, ◌*◌, true, false, cond, pos, List, ℕ, ◌++◌, length, replicate, None, sym, ap}
use Rattle.std.proofs.Common.{◌∙◌, arith}
use Rattle.std.proofs.lemmas.List.{length-append}
use Rattle.nd_base.proofs.Laws.Definitions.{all_signed, is_empty}
use Rattle.nd_base.proofs.Laws.NonzeroSize.{length_le_nonzero_size}
use Rattle.ndarray_layout.specs.BlocksView.{blocks_fault}
use Rattle.ndarray_layout.specs.private.Blocks.{block_counts, block_strides}
use Rattle.ndarray_layout.proofs.BlocksWritten.{length-block_counts, zeros_read}
use Rattle.ndarray_layout.proofs.Laws.BlocksView.{can_take_blocks}
use Rattle.ndarray_layout.proofs.strided.blocks.block_axes.Given.{Over}
use Rattle.ndarray_layout.proofs.strided.blocks.block_axes.Goals as goal
use Rattle.ndarray_layout.proofs.strided.blocks.block_axes.Goals.{Joined-not-contains, else-not-contains, then-not-contains}

pub check_blocks-requires : goal.check_blocks-requires
check_blocks-requires g c = record { lens_fit = λ k. omega (arith, length_le_nonzero_size c.args.shape.now k, c.requires.size_fits) }

pub write_lengths-requires-clause-lens_fit : goal.write_lengths-requires-clause-lens_fit
write_lengths-requires-clause-lens_fit g c = λ k. omega (arith, length_le_nonzero_size c.args.shape.now k, c.requires.size_fits)

-- the lengths of the view
abbrev lengths : (g : Over) → Joined-not-contains g → List ℕ
lengths g c = block_counts c.args.blocks c.args.shape.now (g.D.Lengths.list c.args.block.now) ++ g.D.Lengths.list c.args.block.now

count : (g : Over) (c : Joined-not-contains g) → length (lengths g c) ≡ 2 * length c.args.shape.now
count g c =
    let block = g.D.Lengths.list c.args.block.now in
    let counts = block_counts c.args.blocks c.args.shape.now block in
    let none : blocks_fault c.NDIM.result c.args.shape.now counts block ≡ None = sym c.in_ok-check_blocks.ensures in
    let same : length block ≡ length c.args.shape.now = (can_take_blocks c.NDIM.result c.args.shape.now counts block none).same_count in
    omega (
      arith,
      same,
      length-append (block_counts c.args.blocks c.args.shape.now block) block,
      length-block_counts c.args.blocks c.args.shape.now block (sym same),
    )

-- are those that were tested
empty : (g : Over) (c : Joined-not-contains g) → c.contains.result ≡ is_empty (lengths g c)
empty g c =
    let new = c.write_lengths.new.new_shape in
    let made : new ≡ lengths g c = rw (c.slice.ensures.list) at c.write_lengths.ensures in
    let new_strides = g.met.E.Lengths.list_of_with_list c.in_ok-dim.dim new
    (c.write_lengths.auto.new_shape ∙ ap length c.slice_mut.ensures.list) in
    c.contains.ensures.value ∙ ap is_empty (c.slice-2.ensures.list ∙ new_strides ∙ made)

pub returns-clause-strides : goal.returns-clause-strides
returns-clause-strides g c =
    let block = g.D.Lengths.list c.args.block.now in
    let along = block_strides c.args.blocks c.args.shape.now block (all_signed c.args.strides.now) ++ all_signed c.args.strides.now in
    let zeros = replicate (length (lengths g c)) (pos 0) in
    elim c.if-not-contains.branch [
      | then-not-contains w ↦
          let new = w.write_strides.new.new_strides in
          let some : is_empty (lengths g c) ≡ false = sym (empty g c) ∙ w.if-not-contains.true in
          let new_strides = g.met.E.Lengths.list_of_with_list c.in_ok-new_strides.new_strides new
          (w.write_strides.auto.new_strides ∙ ap length w.slice_mut-then-not-contains.ensures.list) in
          let made : all_signed new ≡ along = rw (w.slice-then-not-contains.ensures.list) at w.write_strides.ensures in
          ap (λ d. all_signed (g.E.Lengths.list d)) w.new_strides-is
          ∙ ap all_signed new_strides ∙ made ∙ sym (ap (λ none. cond none zeros along) some)
      | else-not-contains w ↦
          let none : is_empty (lengths g c) ≡ true = sym (empty g c) ∙ w.if-not-contains.false in
          ap (λ d. all_signed (g.E.Lengths.list d)) w.new_strides-is
          ∙ ap all_signed c.in_ok-new_strides.ensures.list
          ∙ zeros_read (2 * length c.args.shape.now)
          ∙ ap (λ n. replicate n (pos 0)) (sym (count g c))
          ∙ sym (ap (λ none. cond none zeros along) none)
    ]
