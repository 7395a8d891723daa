-- Laws of dimensions whose lengths are written over.
use Rattle.std.proofs.Common.{◌≡◌, ℕ, List, ◌++◌, take, drop, length, ap, sym, ◌∙◌}
use Rattle.std.specs.List.{refill}
use Rattle.std.proofs.Math.Seq.{take-append_seam}
use Rattle.nd_base.specs.declared.dim.Dim.{Dim}
use Rattle.nd_base.proofs.Laws.Definitions.{lengths, rewritten}

-- numbers written over by as many others are those others
pub refilled : (ms ns : List ℕ) → length ns ≡ length ms → refill (length ms) ms ns ≡ ns
refilled ms ns h =
    ap (λ n. take n (ns ++ drop (length ns) ms)) (sym h)
    ∙ take-append_seam ns (drop (length ns) ms)

-- lengths written over by as many others are those others
pub lengths_rewritten : (d : Dim (List ℕ)) (xs : List ℕ)
    → length xs ≡ length (lengths d) → lengths (rewritten d xs) ≡ xs
lengths_rewritten d xs h = refilled (lengths d) xs h
