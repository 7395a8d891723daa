-- What a contract sees of the items that no part has.
use Rattle.std.specs.Prelude.{List}
use Rattle.nd_access.specs.Right.{Right}

-- all items as they were when they were lent, but those of the rest as they stand; and the right to these
pub record RestValue (T : Type 0) : Type 0 where
  pub items : List T
  pub access : Right
