-- The faults of a layout from a start, one after another, from what the tests of it found.
use Rattle.std.proofs.Common.{◌≡◌, ℕ, ◌+◌, ◌<◌, ◌≤◌, ℤ, Bool, true, false, cond, Option, Some, None, List, refl, sym}
use Rattle.std.specs.Prelude.{nat_le, nat_lt, not, if◌then◌else◌, ◌||◌, ◌&&◌}
use Rattle.std.specs.Option.{option_or}
use Rattle.std.proofs.lemmas.Bool.{le-ltb, lt-ltb}
use Rattle.nd_base.specs.declared.error.ErrorKind.{ErrorKind}
use Rattle.nd_base.specs.declared.error.ErrorKind.TheVariants.{OutOfBounds, Unsupported}
use Rattle.nd_base.proofs.Laws.Definitions.{is_empty, limit, low_span, high_span}
use Rattle.nd_shape.specs.Acceptance.{may_share, size_fault}
use Rattle.nd_shape.specs.NoAlias.{satisfies_no_alias_rule}
use Rattle.nd_shape.specs.declared.acceptance.CanIndexCheckMode.{CanIndexCheckMode}
use Rattle.nd_shape.specs.declared.acceptance.CanIndexCheckMode.TheVariants.{OwnedMutable, ReadOnly}
use Rattle.ndarray_layout.specs.AcceptanceFrom.{acceptance_from, leaves_data_from}

-- ---- three faults in turn
abbrev chosen : Option ErrorKind → Bool → Bool → Option ErrorKind
chosen fault leaves shares = option_or fault (cond leaves (Some OutOfBounds) (cond shares (Some Unsupported) None))

second : (fault : Option ErrorKind) (leaves shares : Bool) → fault ≡ None → leaves ≡ true → Some OutOfBounds ≡ chosen fault leaves shares
second fault leaves shares p q = rw (p, q) refl

third : (fault : Option ErrorKind) (leaves shares : Bool) → fault ≡ None → leaves ≡ false → shares ≡ true
    → Some Unsupported ≡ chosen fault leaves shares
third fault leaves shares p q r = rw (p, q, r) refl

pub no_fault : (fault : Option ErrorKind) (leaves shares : Bool) → fault ≡ None → leaves ≡ false → shares ≡ false
    → None ≡ chosen fault leaves shares
no_fault fault leaves shares p q r = rw (p, q, r) refl

-- ---- what may share an element
owned_shares : (none breaks : Bool) → (not none && not breaks) ≡ (not none && true && not breaks)
owned_shares true breaks = refl
owned_shares false breaks = refl

pub read_shares : (none breaks : Bool) → (not none && false && not breaks) ≡ false
read_shares true breaks = refl
read_shares false breaks = refl

module _ (shape : List ℕ) (strides : List ℤ) where
  pub shares_owned : (mode : CanIndexCheckMode) (overlaps : Bool) → mode ≡ OwnedMutable
      → overlaps ≡ (not (is_empty shape) && not (satisfies_no_alias_rule shape strides)) → may_share mode shape strides ≡ overlaps
  shares_owned mode overlaps owned e = rw (owned, e) (sym (owned_shares (is_empty shape) (satisfies_no_alias_rule shape strides)))

  pub shares_read : (mode : CanIndexCheckMode) → (mode ≡ OwnedMutable → ⊥) → may_share mode shape strides ≡ false
  shares_read OwnedMutable other = absurd (other refl)
  shares_read ReadOnly other = read_shares (is_empty shape) (satisfies_no_alias_rule shape strides)

module _ (start elem_size len : ℕ) (mode : CanIndexCheckMode) (shape : List ℕ) (strides : List ℤ) where
  -- ---- what lies below the data or above it
  pub leaves_below : start < low_span shape strides → leaves_data_from start len shape strides ≡ true
  leaves_below below = rw (lt-ltb start (low_span shape strides) below) refl

  pub leaves_above : {high : ℕ} {none past : Bool} → low_span shape strides ≤ start → high ≡ high_span shape strides
      → none ≡ is_empty shape
      → past ≡ (nat_lt limit (start + high) || (if none then nat_lt len (start + high) else nat_le len (start + high)))
      → leaves_data_from start len shape strides ≡ past
  leaves_above low high none past = rw (le-ltb start (low_span shape strides) low, ← high, ← none) (sym past)

  -- ---- the fault that there is
  pub outside : None ≡ size_fault elem_size shape strides → leaves_data_from start len shape strides ≡ true
      → Some OutOfBounds ≡ acceptance_from start elem_size len mode shape strides
  outside sized leaves =
      second (size_fault elem_size shape strides) (leaves_data_from start len shape strides) (may_share mode shape strides)
      (sym sized) leaves

  pub shared : None ≡ size_fault elem_size shape strides → leaves_data_from start len shape strides ≡ false
      → may_share mode shape strides ≡ true → Some Unsupported ≡ acceptance_from start elem_size len mode shape strides
  shared sized stays shares =
      third (size_fault elem_size shape strides) (leaves_data_from start len shape strides) (may_share mode shape strides)
      (sym sized) stays shares

  pub accepted : None ≡ size_fault elem_size shape strides → leaves_data_from start len shape strides ≡ false
      → may_share mode shape strides ≡ false → None ≡ acceptance_from start elem_size len mode shape strides
  accepted sized stays apart =
      no_fault (size_fault elem_size shape strides) (leaves_data_from start len shape strides) (may_share mode shape strides)
      (sym sized) stays apart
