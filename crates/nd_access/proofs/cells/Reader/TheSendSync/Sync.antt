use denote.RattleType.{RattleType}
use denote.Ref.{NamedLft}
use denote.Param.Send.{IsSync}
use Rattle.nd_access.proofs.lending.Crosses.{reader_sync}
use Rattle.nd_access.specs.contracts.cells.Reader.{the_row}

pub sync : (κ : NamedLft) (V : RattleType) → IsSync V → IsSync (the_row κ V)
sync = reader_sync
