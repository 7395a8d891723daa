-- Some elements of a slice, lent to be read.
use Rattle.std.specs.Prelude.{Bool, List}
use base.Fml.{Lft, Fml}
use denote.RattleType.{RattleType}
use denote.RawPtr.{Ptr}
use denote.Sharing.{said, beside}
use Rattle.nd_access.specs.Cells.{known, lent_where}

-- what a reader holds: a `&` to each element that has a mark
abbrev pub reads_cells : (V : RattleType) → Ptr → List Bool → List V.Denot → Lft → Fml
reads_cells V first marks items = beside (said (known V first marks items)) (lent_where V first marks items)
