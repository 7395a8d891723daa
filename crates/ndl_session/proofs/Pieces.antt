-- Pieces of a text that go out one after the other.
use Rattle.std.proofs.Common.{◌≡◌, ℕ, ◌+◌, ◌-◌, ◌<◌, ◌==◌, ◌&&◌, Bool, false, List, Option, ◌++◌, length, take, drop, arith, sym, ap, ◌∙◌}
use Rattle.std.proofs.Common.{subst}
use Rattle.std.proofs.Math.Seq.{take-add}
use Rattle.std.proofs.lemmas.List.{take_rest}
use Rattle.std.proofs.lemmas.Bool.Decides.{nat_tests}
use Rattle.std.specs.Io.KnownBytes.{Appends}
use Rattle.std.proofs.KnownBytes.{Appends-trans}

-- a beginning of the text, and then the first m bytes of the rest of it
module _ (a b c : Option (List ℕ)) where
  pub Appends-more : (text : List ℕ) (n m : ℕ) → Appends a b (take n text)
      → Appends b c (take m (take (length text - n) (drop n text))) → Appends a c (take (n + m) text)
  Appends-more text n m first second =
      let whole : take n text ++ take m (take (length text - n) (drop n text)) ≡ take (n + m) text =
      ap (λ l. take n text ++ take m l) (take_rest text n) ∙ sym (take-add n m text) in
      subst (Appends a c) whole (Appends-trans a b c _ _ first second)

-- a write that took some bytes has not failed
pub some_taken : (failed : Bool) (n : ℕ) (rest : Bool) → 0 < n → failed ≡ ((n == 0) && rest) → failed ≡ false
some_taken failed n rest some e = grind (arith, nat_tests)
