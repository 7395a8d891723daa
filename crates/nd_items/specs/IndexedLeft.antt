-- The items that an iterator has still to lend, with their indices.
use Rattle.std.specs.Prelude.{ℕ, Option, List, zip}
use Rattle.nd_items.specs.declared.indexed_of.IndexedOf.{IndexedOf}

-- as many indices as items are left
abbrev pub indexed_left : {I D Of Lent : Type 0} {items lens count eq text at : _} → IndexedOf I D Of Lent items lens count eq text at
    → List (List ℕ × Option Of)
indexed_left {items = items} it = zip it.index (items.left it.items)
