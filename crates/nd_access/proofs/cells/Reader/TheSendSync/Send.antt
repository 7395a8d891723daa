use denote.RattleType.{RattleType}
use denote.Ref.{NamedLft}
use denote.Param.Send.{IsSend, IsSync}
use Rattle.nd_access.proofs.lending.Crosses.{reader_send}
use Rattle.nd_access.specs.contracts.cells.Reader.{the_row}

pub send : (κ : NamedLft) (V : RattleType) → IsSync V → IsSend (the_row κ V)
send = reader_send
