-- The status of the reason of blocks is that of the call.
use Rattle.std.proofs.Common.{◌≡◌, ℕ, ℤ, zero, suc, ◌<◌, pos, Bool, true, false, not, cond, eqb, ltb, Option, Some, None, List, [], ◌∷◌}
use Rattle.std.proofs.Common.{◌++◌, length, refl, sym, subst, ap, ◌∙◌, arith}
use Rattle.std.specs.Option.{option_map_or}
use Rattle.std.specs.Prelude.{◌&&◌}
use Rattle.std.proofs.lemmas.Bool.{or_from, or_left, or_right}
use Rattle.ndarray_layout.specs.declared.ErrorKind.TheVariants.{IncompatibleShape, Overflow, Unsupported}
use Rattle.ndarray_layout.specs.BlocksView.{blocks_fault}
use Rattle.ndarray_layout.specs.ChunksView.{chunks_fault}
use Rattle.ndarray_layout.specs.Size.{is_empty, limit, nonzero_size}
use Rattle.ndarray_layout.specs.WindowsView.{windows_fault}
use Rattle.ndarray_layout_c.specs.declared.blocks.Blocks.TheVariants.{Windows, Chunks}
use Rattle.ndarray_layout_c.specs.declared.reasons.Reason.{Reason}
use Rattle.ndarray_layout_c.specs.BlockReasons.{blocks_reason, first_none, is_none, list_of, taken_counts}
use Rattle.ndarray_layout_c.specs.Reasons.{no_reason, of_axis, of_list}
use Rattle.ndarray_layout_c.specs.Statuses.{number_of, status_of}
use Rattle.ndarray_layout_c.proofs.FirstFound.{Found, found}

-- ---- a length of 0
some_empty : (block : List ℕ) (axis : ℕ) → axis < length block → is_none block axis ≡ true → is_empty block ≡ true
some_empty [] axis below none = absurd (omega (arith, below))
some_empty (len ∷ lens) zero below none = or_left _ _ none
some_empty (len ∷ lens) (suc axis) below none = or_right _ _ (some_empty lens axis (omega (arith, below)) none)

none_empty : (block : List ℕ) → ((axis : ℕ) → axis < length block → is_none block axis ≡ false) → is_empty block ≡ false
none_empty [] some = refl
none_empty (len ∷ lens) some = or_from _ _ (some 0 (omega arith)) (none_empty lens (λ axis below. some (suc axis) (omega (arith, below))))

-- where none is found, a block has an index
pub has_index : (block : List ℕ) → None ≡ first_none block → is_empty block ≡ false
has_index block none =
    none_empty block (subst (Found (is_none block) (length block)) (sym none) (found (is_none block) (length block)))

-- ---- the status
module _ (list : ℤ) (shape counts block : List ℕ) where
  by_index : (empty : Bool) → is_empty block ≡ empty
      → status_of (blocks_fault None shape counts block)
      ≡ status_of (cond (not (eqb (length block) (length shape) && true)) (Some IncompatibleShape)
      (cond empty (Some Unsupported) (cond (ltb limit (nonzero_size (counts ++ block))) (Some Overflow) None)))
  by_index empty same =
      ap (λ empty. status_of (cond (not (eqb (length block) (length shape) && true)) (Some IncompatibleShape)
      (cond empty (Some Unsupported) (cond (ltb limit (nonzero_size (counts ++ block))) (Some Overflow) None)))) same

  abbrev told : Option ℕ → Reason
  told one =
      cond (eqb (length block) (length shape))
      (option_map_or (λ axis. of_list (number_of Unsupported) (pos 18) list axis 0 0) one
      (cond (ltb limit (nonzero_size (counts ++ block))) (of_axis (number_of Overflow) (pos 5) 0 (pos 0) 0 0) no_reason))
      (of_list (number_of IncompatibleShape) (pos 1) list 0 (length block) (length shape))

  counts_status : (told (first_none block)).status ≡ status_of (blocks_fault None shape counts block)
  counts_status = by (first_none block) (found (is_none block) (length block))
    where
      some : (axis : ℕ) (same large : Bool)
          → (cond same (of_list (number_of Unsupported) (pos 18) list axis 0 0)
          (of_list (number_of IncompatibleShape) (pos 1) list 0 (length block) (length shape))).status
          ≡ status_of (cond (not (same && true)) (Some IncompatibleShape) (cond true (Some Unsupported) (cond large (Some Overflow) None)))
      some axis true large = refl
      some axis false large = refl

      none : (same large : Bool)
          → (cond same (cond large (of_axis (number_of Overflow) (pos 5) 0 (pos 0) 0 0) no_reason)
          (of_list (number_of IncompatibleShape) (pos 1) list 0 (length block) (length shape))).status
          ≡ status_of (cond (not (same && true)) (Some IncompatibleShape) (cond false (Some Unsupported) (cond large (Some Overflow) None)))
      none true true = refl
      none true false = refl
      none false large = refl

      by : (one : Option ℕ) → Found (is_none block) (length block) one
          → (told one).status ≡ status_of (blocks_fault None shape counts block)
      by (Some axis) empty =
          some axis (eqb (length block) (length shape)) (ltb limit (nonzero_size (counts ++ block)))
          ∙ sym (by_index true (some_empty block axis empty.0 empty.1))
      by None full =
          none (eqb (length block) (length shape)) (ltb limit (nonzero_size (counts ++ block)))
          ∙ sym (by_index false (none_empty block full))

module _ (shape block : List ℕ) (reason : Reason) where
  -- as a call writes it
  pub status_of_windows : reason ≡ blocks_reason Windows shape block → reason.status ≡ status_of (windows_fault None shape block)
  status_of_windows same = ap Reason.status same ∙ counts_status (list_of Windows) shape (taken_counts Windows shape block) block

  pub status_of_chunks : reason ≡ blocks_reason Chunks shape block → reason.status ≡ status_of (chunks_fault None shape block)
  status_of_chunks same = ap Reason.status same ∙ counts_status (list_of Chunks) shape (taken_counts Chunks shape block) block
