use denote.RattleType.{RattleType}
use denote.Ref.{NamedLft}
use denote.Param.Send.{IsSync}
use Rattle.nd_access.proofs.lending.Crosses.{cells_sync}
use Rattle.nd_access.specs.contracts.cells.Cells.{the_row}

pub sync : (κ : NamedLft) (V : RattleType) → IsSync V → IsSync (the_row κ V)
sync κ V s = cells_sync κ V s
