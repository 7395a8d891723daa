-- The right to some elements of a slice: its name, the first element's address, and the marks.
use Rattle.std.specs.Prelude.{List, Bool}
use base.Fml.{GName}
use denote.RawPtr.{Ptr}

-- these three
pub record Right : Type 0 where
  pub name : GName
  pub first : Ptr
  pub marks : List Bool
