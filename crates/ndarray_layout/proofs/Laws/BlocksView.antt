-- Laws of blocks of a shape: what it takes to have them.
use Rattle.std.proofs.Common.{◌≡◌, ℕ, ◌+◌, ◌≤◌, Bool, true, false, not, cond, ltb, Option, Some, None, List, ◌++◌, length, refl, sym}
use Rattle.std.proofs.lemmas.Bool.{and_parts, eqb-true, ltb-false}
use Rattle.std.specs.Option.{option_map_or}
use Rattle.std.specs.Prelude.{◌&&◌, ◌==◌}
use Rattle.nd_base.specs.declared.error.ErrorKind.TheVariants.{IncompatibleShape, Overflow, Unsupported}
use Rattle.nd_base.proofs.Laws.Definitions.{IsCount, is_empty, limit, nonzero_size}
use Rattle.ndarray_layout.specs.BlocksView.{blocks_fault}

-- a type that fixes no count, or this one
abbrev pub allows : Option ℕ → ℕ → Bool
allows fixed ndim = option_map_or (λ count. count == ndim) fixed true

pub IsCount-allowed : (fixed : Option ℕ) (ndim : ℕ) → allows fixed ndim ≡ true → IsCount fixed ndim
IsCount-allowed None ndim same = tt
IsCount-allowed (Some count) ndim same = sym (eqb-true count ndim same)

-- so many blocks of a shape without fault
pub record CanTakeBlocks (fixed : Option ℕ) (shape counts block : List ℕ) : Type 0 where
  pub same_count : length block ≡ length shape
  pub type_count : IsCount fixed (length shape + length shape)
  pub some : is_empty block ≡ false
  pub size_fits : nonzero_size (counts ++ block) ≤ limit

pub can_take_blocks : (fixed : Option ℕ) (shape counts block : List ℕ) → blocks_fault fixed shape counts block ≡ None
    → CanTakeBlocks fixed shape counts block
can_take_blocks fixed shape counts block none =
    let tests = by (length block == length shape && allows fixed (length shape + length shape)) (is_empty block)
    (ltb limit (nonzero_size (counts ++ block))) none in
    let axes = and_parts (length block == length shape) (allows fixed (length shape + length shape)) tests.0 in
    record {
      same_count = eqb-true (length block) (length shape) axes.0;
      type_count = IsCount-allowed fixed (length shape + length shape) axes.1;
      some = tests.1;
      size_fits = ltb-false limit (nonzero_size (counts ++ block)) tests.2;
    }
  where
    by : (same empty large : Bool)
        → cond (not same) (Some IncompatibleShape) (cond empty (Some Unsupported) (cond large (Some Overflow) None)) ≡ None
        → (same ≡ true) × (empty ≡ false) × (large ≡ false)
    by false empty large none = absurd (cc)
    by true true large none = absurd (cc)
    by true false true none = absurd (cc)
    by true false false none = (refl, refl, refl)
