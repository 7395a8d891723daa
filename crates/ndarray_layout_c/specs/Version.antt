-- The version of the library.
use Rattle.std.specs.Prelude.{ℤ, pos}

-- its three numbers
abbrev pub version : ℤ × ℤ × ℤ
version = (pos 0, pos 1, pos 0)
