-- What a part is once a borrow of one of its items, or of all, is over.
use Rattle.std.specs.Prelude.{ℕ, Option, List, [], set}
use Rattle.std.specs.Borrow.{Lends, LendsIf, MutBor, Fml}
use base.Fml.{GName}
use denote.Array.{Array}
use denote.Follow.{follows}
use denote.RattleType.{RattleType}
use mir.Syntax.{named}
use Rattle.nd_lent.specs.declared.array_view_mut.ArrayViewMut.{ArrayViewMut}
use Rattle.nd_lent.specs.contracts.array_view_mut.ArrayViewMut.{the_row}
use Rattle.nd_access.specs.Items.{with_item}
use Rattle.nd_lent.specs.Lent.{array_of}

-- a part with other items
abbrev pub with_items : {T D : Type 0} {lens count eq text at : _} → ArrayViewMut T D lens count eq text at → List T
    → ArrayViewMut T D lens count eq text at
with_items part items = record part { cells = record part.cells { items = items } }

-- with another item at a place
abbrev pub with_item_at : {T D : Type 0} {lens count eq text at : _} → ArrayViewMut T D lens count eq text at → ℕ → T
    → ArrayViewMut T D lens count eq text at
with_item_at part place item = with_items part (set part.cells.items place item)

-- it ends with the last item behind the reference
abbrev pub LendsItem : (T D : RattleType) {lens count eq text at : _} → MutBor (ArrayViewMut T.Denot D.Denot lens count eq text at) → ℕ
    → MutBor T.Denot → Fml
LendsItem T D {lens} {count} {eq} {text} {at} part place item =
    Lends (the_row (record { mir = named 1; lft = [] }) T D lens count eq text at) T part item (with_item_at part.now place)

-- with another item at an index of the shape
abbrev pub with_item_of : {T D : Type 0} {lens count eq text at : _} → ArrayViewMut T D lens count eq text at → List ℕ → T
    → ArrayViewMut T D lens count eq text at
with_item_of part index item = with_items part (with_item (array_of part) index item).items

-- it ends with the last item behind the reference at that index, and is unchanged where there is none
abbrev pub LendsItemIf : (T D : RattleType) {lens count eq text at : _} → MutBor (ArrayViewMut T.Denot D.Denot lens count eq text at)
    → List ℕ → Option (MutBor T.Denot) → Fml
LendsItemIf T D {lens} {count} {eq} {text} {at} part index item =
    LendsIf (the_row (record { mir = named 1; lft = [] }) T D lens count eq text at) T part item (with_item_of part.now index) part.now

-- it ends with the items that all of them have in the end, by their name
abbrev pub LendsItems : (T D : RattleType) {lens count eq text at : _} → MutBor (ArrayViewMut T.Denot D.Denot lens count eq text at) → GName
    → Fml
LendsItems T D {lens} {count} {eq} {text} {at} part name =
    follows (the_row (record { mir = named 1; lft = [] }) T D lens count eq text at) (Array T 0) part.ghost_name name (with_items part.now)
