-- What a contract sees of an iterator over parts.
use Rattle.std.specs.Prelude.{List}
use Rattle.nd_access.specs.Items.{ArrayValue}
use Rattle.nd_access.specs.Right.{Right}

-- the arrays of those that are still to come: all items as they were when the parts were made, each with its view; and the right to
-- their items
pub record PartsValue (T : Type 0) : Type 0 where
  pub arrays : List (ArrayValue T)
  pub access : Right
