use Rattle.std.proofs.Common.{rules, ◌≡◌, ◌+◌, ℕ, Bool, true, false, List, length, replicate, reverse, cond}
use Rattle.std.proofs.Common.{sym, ap, ap₂, subst, ◌∙◌, arith}
use Rattle.std.proofs.lemmas.List.{length-reverse, reverse-reverse}
use Rattle.nd_base.specs.declared.order.Order.TheVariants.{ColumnMajor}
use Rattle.nd_base.proofs.Laws.Definitions.{flat_index, flat_index_in, index_of_flat, index_of_flat_in}
use Rattle.nd_base.proofs.Laws.IsIndex.{is_index-reverse}
use Rattle.nd_base.proofs.Laws.Lists.{reverse-replicate}
use Rattle.nd_base.proofs.Laws.Size.{size-reverse}
use Rattle.nd_dim.proofs.next_index.advance_row_major.Goals as goal

-- both read from the back, the index has the flat index in row-major order
flat_index-back : (shape index : List ℕ) → flat_index_in ColumnMajor (reverse shape) (reverse index) ≡ flat_index shape index
flat_index-back shape index = ap₂ flat_index (reverse-reverse shape) (reverse-reverse index)

-- and so has the next one
next-back : (shape old new : List ℕ) (more : Bool)
    → reverse new ≡ cond more (index_of_flat_in ColumnMajor (reverse shape) (flat_index_in ColumnMajor (reverse shape) (reverse old) + 1))
    (replicate (length (reverse shape)) 0)
    → new ≡ cond more (index_of_flat shape (flat_index shape old + 1)) (replicate (length shape) 0)
next-back shape old new true e =
    sym (reverse-reverse new)
    ∙ ap reverse e
    ∙ reverse-reverse (index_of_flat (reverse (reverse shape)) (flat_index_in ColumnMajor (reverse shape) (reverse old) + 1))
    ∙ ap₂ (λ s r. index_of_flat s (r + 1)) (reverse-reverse shape) (flat_index-back shape old)
next-back shape old new false e =
    sym (reverse-reverse new)
    ∙ ap reverse e
    ∙ reverse-replicate (length (reverse shape)) 0
    ∙ ap (λ n. replicate n 0) (length-reverse shape)

pub advance-requires : goal.advance-requires
advance-requires c = is_index-reverse c.args.shape.now c.args.index.now ∙ c.requires

pub returns-clause-more : goal.returns-clause-more
returns-clause-more c =
    let shape = c.args.shape.now in
    let flat = flat_index-back shape c.args.index.now in
    let count = size-reverse shape in
    let more = c.advance.ensures.more in
    (λ t. omega (arith, more.0 t), λ h. more.1 (omega arith))

pub returns-clause-next : goal.returns-clause-next
returns-clause-next c =
    let shape = c.args.shape.now in
    let old = c.args.index.now in
    let new = c.advance.new.index.0.now in
    subst (λ xs. xs ≡ cond c.advance.result (index_of_flat shape (flat_index shape old + 1)) (replicate (length shape) 0))
    (sym (search rules))
    (next-back shape old new c.advance.result c.advance.ensures.next)
