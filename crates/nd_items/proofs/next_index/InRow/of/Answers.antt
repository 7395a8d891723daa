-- The row of an index has as many indices as the last axis is long.
use Rattle.std.proofs.Common.{◌≡◌, ◌-◌, ◌<◌, ◌≤◌, length, refl, ap, ◌∙◌, arith}
use Rattle.std.specs.Prelude.{unwrap_or}
use Rattle.std.proofs.lemmas.Option.{unwrap_or-slice_get}
use Rattle.nd_items.specs.declared.next_index.InRow.{InRow}
use Rattle.nd_items.specs.private.IndexRow.{row_len}
use Rattle.nd_items.proofs.IndexRow.{fits_left, last_below, last_of, stands_at}
use Rattle.nd_items.proofs.next_index.InRow.of.Goals as goal
use Rattle.nd_items.proofs.next_index.InRow.of.Goals.{After-unwrap_or-len}

-- the numbers
last_is : (c : After-unwrap_or-len) → c.unwrap_or-last.result ≡ last_of c.args.index.now
last_is c =
    c.unwrap_or-last.ensures ∙ ap (λ o. unwrap_or o 0) (c.copied.ensures ∙ c.last.ensures.value)
    ∙ unwrap_or-slice_get c.args.index.now (length c.args.index.now - 1) 0

len_is : (c : After-unwrap_or-len) → c.unwrap_or-len.result ≡ row_len c.args.shape.now
len_is c =
    c.unwrap_or-len.ensures ∙ ap (λ o. unwrap_or o 1) (c.copied-2.ensures ∙ c.last-2.ensures.value)
    ∙ unwrap_or-slice_get c.args.shape.now (length c.args.shape.now - 1) 1

fits : (c : After-unwrap_or-len) → c.unwrap_or-last.result < c.unwrap_or-len.result
fits c = omega (arith, last_below c.args.shape.now c.args.index.now c.requires.here, last_is c, len_is c)

pub overflow_sub-result : goal.overflow_sub-result
overflow_sub-result c = omega (arith, fits c)

-- where it stands
abbrev at : After-unwrap_or-len → InRow
at c =
    let last = c.unwrap_or-last.result in
    let len = c.unwrap_or-len.result in record { last = last; len = len; after = c.args.left - (len - last) }

enough : (c : After-unwrap_or-len) → c.unwrap_or-len.result - c.unwrap_or-last.result ≤ c.args.left
enough c =
    fits_left c.args.shape.now c.args.index.now c.requires.here (at c) c.args.left (last_is c) (len_is c) c.requires.left

pub overflow_sub-result-2 : goal.overflow_sub-result-2
overflow_sub-result-2 c = enough c

pub returns-clause-stands : goal.returns-clause-stands
returns-clause-stands c =
    stands_at c.args.shape.now c.args.index.now c.requires.here (at c) c.args.left (last_is c) (len_is c) c.requires.left refl

pub returns-clause-left : goal.returns-clause-left
returns-clause-left c = omega (arith, enough c)

pub returns-clause-last : goal.returns-clause-last
returns-clause-last c = fits c
