-- The pieces of a text between separators: what the first cut leaves of it, and what a lone piece is.
use Rattle.std.proofs.Common.{◌≡◌, ◌≢◌, ℕ, ◌+◌, ◌≤◌, ◌<◌, eqb, List, [], ◌∷◌, length, take, drop, Some, None, ap, arith}
use Rattle.std.specs.List.{position, position_or_len}
use Rattle.std.proofs.lemmas.Grind.{common_steps}
use Rattle.std.proofs.lemmas.List.Splits.{slice_split_first, slice_split_none, join_with_byte-slice_split, length-slice_split}
use Rattle.std.proofs.lemmas.List.Sums.{fails_before_first}
use Rattle.ndl_session.specs.text.Lines.{cut_at}

module _ (separator : ℕ) (text : List ℕ) where
  pub parts_without : position (λ b. eqb b separator) text ≡ None → cut_at separator text ≡ text ∷ []
  parts_without none =
      let past : length text ≤ position_or_len (λ b. eqb b separator) text = grind (arith, common_steps) in
      slice_split_none (λ b. eqb b separator) text (λ k d below. fails_before_first (λ b. eqb b separator) text k d (omega (arith, past)))

  pub parts_at : (at : ℕ) → position (λ b. eqb b separator) text ≡ Some at
      → cut_at separator text ≡ take at text ∷ cut_at separator (drop (at + 1) text)
  parts_at at found =
      let same : position_or_len (λ b. eqb b separator) text ≡ at = grind (arith, common_steps) in
      let within : position_or_len (λ b. eqb b separator) text < length text = grind (arith, common_steps) in
      rw (← same) (slice_split_first (λ b. eqb b separator) text 0 within)

-- a lone piece is the text
pub lone_part : (separator : ℕ) (text part : List ℕ) → cut_at separator text ≡ part ∷ [] → part ≡ text
lone_part separator text part e = rw e at (join_with_byte-slice_split separator text)

pub some_part : (separator : ℕ) (text : List ℕ) → cut_at separator text ≢ []
some_part separator text e = omega (arith, ap length e, length-slice_split (λ b. eqb b separator) text)
