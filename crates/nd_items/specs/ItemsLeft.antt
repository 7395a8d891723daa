-- The items that an iterator has still to lend.
use Rattle.std.specs.Prelude.{Option, List, map}
use Rattle.nd_access.specs.Right.{Right}
use Rattle.nd_access.specs.Rights.{right_of}
use Rattle.nd_items.specs.declared.items.IterMut.{IterMut}
use Rattle.nd_access.specs.Items.{item_at_place}

-- those at the places that are left, one for each
abbrev pub items_left : {T D : Type 0} {lens count eq text at : _} → IterMut T D lens count eq text at → List (Option T)
items_left it = map (item_at_place it.cells.items) it.places

-- the right to them
abbrev pub access_left : {T D : Type 0} {lens count eq text at : _} → IterMut T D lens count eq text at → Right
access_left it = right_of it.cells
