-- The status of the reason of a list of axes is that of the call.
use Rattle.std.proofs.Common.{◌≡◌, ℕ, pos, Bool, true, false, cond, Some, None, List, [], ◌∷◌, length, nat_eq, refl, ap, ◌∙◌}
use Rattle.std.specs.List.{find, list_all, range_with_len}
use Rattle.std.specs.Option.{option_map_or}
use Rattle.std.specs.Prelude.{not, ◌&&◌}
use Rattle.ndarray_layout.specs.declared.ErrorKind.TheVariants.{IncompatibleShape}
use Rattle.ndarray_layout.specs.PermutedView.{permute_fault}
use Rattle.ndarray_layout_c.specs.declared.reasons.Reason.{Reason}
use Rattle.ndarray_layout_c.specs.PermuteReasons.{is_listed, permute_reason}
use Rattle.ndarray_layout_c.specs.Reasons.{no_reason, of_list}
use Rattle.ndarray_layout_c.specs.Statuses.{number_of, status_of}

-- the first number that fails a test, or else another reason
fails_or : (p : ℕ → Bool) (f : ℕ → Reason) (rest : Reason) (others : List ℕ) → ((k : ℕ) → (f k).status ≡ pos 1)
    → (option_map_or f (find (λ k. not (p k)) others) rest).status ≡ cond (list_all p others) rest.status (pos 1)
fails_or p f rest [] each = refl
fails_or p f rest (k ∷ others) each = by (p k) (fails_or p f rest others each)
  where
    by : (passes : Bool)
        → (option_map_or f (find (λ k. not (p k)) others) rest).status ≡ cond (list_all p others) rest.status (pos 1)
        → (option_map_or f (cond (not passes) (Some k) (find (λ k. not (p k)) others)) rest).status
        ≡ cond (passes && list_all p others) rest.status (pos 1)
    by true same = same
    by false same = each k

-- as a call writes it
pub status_of_permute : (shape axes : List ℕ) (reason : Reason) → reason ≡ permute_reason shape axes
    → reason.status ≡ status_of (permute_fault shape axes)
status_of_permute shape axes reason same =
    ap Reason.status same
    ∙ fails_or (is_listed axes) _ _ (range_with_len 0 (length shape)) (λ k. refl)
    ∙ by (nat_eq (length axes) (length shape)) (list_all (is_listed axes) (range_with_len 0 (length shape)))
  where
    by : (as_many all : Bool)
        → cond all
        (cond as_many no_reason (of_list (number_of IncompatibleShape) (pos 1) (pos 4) 0 (length axes) (length shape))).status
        (pos 1)
        ≡ status_of (cond (as_many && all) None (Some IncompatibleShape))
    by true true = refl
    by true false = refl
    by false true = refl
    by false false = refl
