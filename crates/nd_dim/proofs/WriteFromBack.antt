-- A write to a list that is read from its back.
use Rattle.std.proofs.Common.{◌≡◌, ℕ, ◌-◌, ◌<◌, List, length, set, reverse, sym, ap, ◌∙◌, arith}
use Rattle.nd_base.proofs.Laws.Lists.{reverse-set}

-- a write from the back is one from the front of the turned list
pub write_from_back : (xs : List ℕ) (k x : ℕ) → k < length xs → reverse (set xs (length xs - 1 - k) x) ≡ set (reverse xs) k x
write_from_back xs k x below =
    let back : length xs - 1 - (length xs - 1 - k) ≡ k = omega arith in
    sym (reverse-set xs (length xs - 1 - k) x (omega arith)) ∙ ap (λ n. set (reverse xs) n x) back
