-- What the right to some elements is once a borrow of one of them is over, or of some side by side.
use Rattle.std.specs.Prelude.{ℕ, List, [], set}
use Rattle.std.specs.Borrow.{Lends, MutBor, Fml}
use denote.Array.{Array}
use denote.RattleType.{RattleType}
use mir.Syntax.{named}
use Rattle.nd_access.specs.Cells.{written_at}
use Rattle.nd_access.specs.contracts.cells.Cells.{the_row}
use Rattle.nd_access.specs.declared.cells.Cells.{Cells}

-- the same right, with another element at a place
abbrev pub with_cell : {T : Type 0} → Cells T → ℕ → T → Cells T
with_cell cells place item = record cells { items = set cells.items place item }

-- it ends with the last item behind the reference
abbrev pub LendsCell : (T : RattleType) → MutBor (Cells T.Denot) → ℕ → MutBor T.Denot → Fml
LendsCell T cells place item = Lends (the_row (record { mir = named 1; lft = [] }) T) T cells item (with_cell cells.now place)

-- the same right, with other elements from a place on
abbrev pub with_stretch : {T : Type 0} → Cells T → ℕ → List T → Cells T
with_stretch cells start items = record cells { items = written_at start items cells.items }

-- it ends with the last items of the slice
abbrev pub LendsStretch : (T : RattleType) → MutBor (Cells T.Denot) → ℕ → MutBor (List T.Denot) → Fml
LendsStretch T cells start items =
    Lends (the_row (record { mir = named 1; lft = [] }) T) (Array T 0) cells items (with_stretch cells.now start)
