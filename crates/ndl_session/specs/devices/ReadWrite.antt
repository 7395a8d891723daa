-- What went out of a text where not all of it did.
use Rattle.std.specs.Prelude.{ℕ, zero, suc, ◌<◌, List, [], length, take, Option, Some, codes, refl}
use Rattle.std.specs.Io.KnownBytes.{Appends}
use Rattle.std.proofs.Common.{ap, lit<, suc-ne-zero, not-suc-le-zero, le_of_suc-le-suc}

-- a writer's bytes, where they are known, grow by a beginning of the text that leaves some of it out
abbrev pub AppendsBeginning : Option (List ℕ) → Option (List ℕ) → List ℕ → Type 0
AppendsBeginning old new text = (n : ℕ) × (n < length text) × Appends old new (take n text)

-- examples
one_byte_of_two : AppendsBeginning (Some (codes "a")) (Some (codes "ab")) (codes "bc")
one_byte_of_two = (1, lit< tt, refl)

no_byte_of_two : AppendsBeginning (Some (codes "a")) (Some (codes "a")) (codes "bc")
no_byte_of_two = (0, lit< tt, refl)

whole_text : AppendsBeginning (Some []) (Some (codes "b")) (codes "b") → ⊥
whole_text (zero, small, same) = suc-ne-zero 0 (ap length same)
whole_text (suc n, small, same) = not-suc-le-zero (le_of_suc-le-suc small)

no_text : AppendsBeginning (Some []) (Some []) [] → ⊥
no_text beginning = not-suc-le-zero beginning.1
