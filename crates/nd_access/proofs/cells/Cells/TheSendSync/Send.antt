use denote.RattleType.{RattleType}
use denote.Ref.{NamedLft}
use denote.Param.Send.{IsSend}
use Rattle.nd_access.proofs.lending.Crosses.{cells_send}
use Rattle.nd_access.specs.contracts.cells.Cells.{the_row}

pub send : (κ : NamedLft) (V : RattleType) → IsSend V → IsSend (the_row κ V)
send = cells_send
