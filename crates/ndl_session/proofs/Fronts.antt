-- Reading item by item, and line by line, as a loop does.
use Rattle.std.proofs.Common.{ℕ, List, ◌++◌, Option, Result}
use Rattle.std.specs.Option.{option_map}
use Rattle.std.specs.Result.{result_map_both}

-- what was read before, and what is still read
abbrev pub with_front : {A : Type 0} → List A → Option (List A) → Option (List A)
with_front front reading = option_map (λ rest. front ++ rest) reading

-- what was read before, and what the lines that are left spell, or the number of an unreadable one
abbrev pub with_front_lines : {A : Type 0} → List A → Result (List A) ℕ → Result (List A) ℕ
with_front_lines front reading = result_map_both (λ rest. front ++ rest) (λ number. number) reading
