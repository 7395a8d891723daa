-- Without a block the strides stay the zeros that they were made of.
use Rattle.std.proofs.Common.{◌≡◌, ◌≤◌, true, false, cond, pos, List, ℕ, length, replicate, take, None, sym, ap, ◌∙◌, arith}
use Rattle.std.proofs.lemmas.List.{length-map, length-replicate, take_all}
use Rattle.nd_base.proofs.Laws.Definitions.{all_signed, is_empty, signed}
use Rattle.nd_base.proofs.Laws.NonzeroSize.{length_le_nonzero_size}
use Rattle.ndarray_layout.specs.BlocksView.{blocks_fault}
use Rattle.ndarray_layout.specs.private.Blocks.{block_counts, block_strides}
use Rattle.ndarray_layout.proofs.BlocksWritten.{length-block_counts, zeros_read}
use Rattle.ndarray_layout.proofs.Laws.BlocksView.{can_take_blocks}
use Rattle.ndarray_layout.proofs.strided.blocks.start_axes.Given.{Over}
use Rattle.ndarray_layout.proofs.strided.blocks.start_axes.Goals as goal
use Rattle.ndarray_layout.proofs.strided.blocks.start_axes.Goals.{Joined-not-contains, else-not-contains, then-not-contains}

pub check_blocks-requires : goal.check_blocks-requires
check_blocks-requires g c = record { lens_fit = λ k. omega (arith, length_le_nonzero_size c.args.shape.now k, c.requires.size_fits) }

pub write_counts-requires-clause-lens_fit : goal.write_counts-requires-clause-lens_fit
write_counts-requires-clause-lens_fit g c = λ k. omega (arith, length_le_nonzero_size c.args.shape.now k, c.requires.size_fits)

-- the counts of blocks
abbrev counts : (g : Over) → Joined-not-contains g → List ℕ
counts g c = block_counts c.args.blocks c.args.shape.now (g.D.Lengths.list c.args.block.now)

-- a block has as many axes
same : (g : Over) (c : Joined-not-contains g) → length (g.D.Lengths.list c.args.block.now) ≡ length c.args.shape.now
same g c =
    let block = g.D.Lengths.list c.args.block.now in
    let none : blocks_fault None c.args.shape.now (counts g c) block ≡ None = sym c.in_ok-check_blocks.ensures in
    (can_take_blocks None c.args.shape.now (counts g c) block none).same_count

count : (g : Over) (c : Joined-not-contains g) → length (counts g c) ≡ length c.args.shape.now
count g c = length-block_counts c.args.blocks c.args.shape.now (g.D.Lengths.list c.args.block.now) (sym (same g c))

-- they are written
written : (g : Over) (c : Joined-not-contains g) → c.write_counts.new.new_shape ≡ counts g c
written g c =
    let new = c.write_counts.new.new_shape in
    let made : take (length c.args.shape.now) new ≡ counts g c = rw (c.slice-lens.ensures.list) at c.write_counts.ensures in
    let room : length new ≤ length c.args.shape.now = omega (
      arith,
      c.write_counts.auto.new_shape,
      ap length c.slice_mut.ensures.list,
      ap length c.in_ok-dim.ensures.list ∙ length-replicate {A = ℕ} (length c.slice-lens.result.now) 0,
      ap length c.slice-lens.ensures.list,
      same g c,
    ) in
    sym (take_all (length c.args.shape.now) new room) ∙ made

kept : (g : Over) (c : Joined-not-contains g)
    → g.D.Lengths.list (g.D.Lengths.with_list c.in_ok-dim.dim c.write_counts.new.new_shape) ≡ c.write_counts.new.new_shape
kept g c = g.met.D.Lengths.list_of_with_list c.in_ok-dim.dim c.write_counts.new.new_shape
    (c.write_counts.auto.new_shape ∙ ap length c.slice_mut.ensures.list)

-- and were tested
empty : (g : Over) (c : Joined-not-contains g) → c.contains.result ≡ is_empty (counts g c)
empty g c =
    c.contains.ensures.value ∙ ap is_empty (c.slice.ensures.list ∙ kept g c ∙ written g c)

pub returns-clause-shape : goal.returns-clause-shape
returns-clause-shape g c = kept g c ∙ written g c

pub returns-clause-strides : goal.returns-clause-strides
returns-clause-strides g c =
    let block = g.D.Lengths.list c.args.block.now in
    let along = block_strides c.args.blocks c.args.shape.now block (all_signed c.args.strides.now) in
    let zeros = replicate (length (counts g c)) (pos 0) in
    elim c.if-not-contains.branch [
      | then-not-contains w ↦
          let new = w.write_steps.new.new_strides in
          let some : is_empty (counts g c) ≡ false = sym (empty g c) ∙ w.if-not-contains.true in
          let new_strides = g.met.D.Lengths.list_of_with_list c.in_ok-new_strides.new_strides new
          (w.write_steps.auto.new_strides ∙ ap length w.slice_mut-then-not-contains.ensures.list) in
          let made : take (length c.args.shape.now) (all_signed new) ≡ along = rw (c.slice-lens.ensures.list) at w.write_steps.ensures in
          let room : length (all_signed new) ≤ length c.args.shape.now = omega (
            arith,
            length-map new signed,
            w.write_steps.auto.new_strides,
            ap length w.slice_mut-then-not-contains.ensures.list,
            ap length c.in_ok-new_strides.ensures.list ∙ length-replicate {A = ℕ} (length c.slice-lens.result.now) 0,
            ap length c.slice-lens.ensures.list,
            same g c,
          ) in
          ap (λ d. all_signed (g.D.Lengths.list d)) w.new_strides-is
          ∙ ap all_signed new_strides
          ∙ sym (take_all (length c.args.shape.now) (all_signed new) room)
          ∙ made
          ∙ sym (ap (λ none. cond none zeros along) some)
      | else-not-contains w ↦
          let none : is_empty (counts g c) ≡ true = sym (empty g c) ∙ w.if-not-contains.false in
          ap (λ d. all_signed (g.D.Lengths.list d)) w.new_strides-is
          ∙ ap all_signed c.in_ok-new_strides.ensures.list
          ∙ zeros_read (length c.slice-lens.result.now)
          ∙ ap (λ n. replicate n (pos 0)) (ap length c.slice-lens.ensures.list ∙ same g c ∙ sym (count g c))
          ∙ sym (ap (λ none. cond none zeros along) none)
    ]
