-- Whether the lengths of a dimension need memory.
use Rattle.std.specs.Prelude.{ℕ, ◌≤◌, Option, Some, None}
use Rattle.std.proofs.Math.Arith.{le→nltb}
use Rattle.std.proofs.Math.Dec.{lit≤}
use Rattle.nd_base.specs.declared.lengths.TheConstants.{INLINE_AXES}

-- a list of n lengths is kept in the value itself
abbrev pub NeedsNoMemory : Option ℕ → ℕ → Type 0
NeedsNoMemory None n = n ≤ INLINE_AXES
NeedsNoMemory (Some k) n = Unit {0}

-- examples
four_of_any_count : NeedsNoMemory None 4
four_of_any_count = lit≤ tt

five_of_any_count : NeedsNoMemory None 5 → ⊥
five_of_any_count few = le→nltb INLINE_AXES 5 few

six_of_six : NeedsNoMemory (Some 6) 6
six_of_six = tt
