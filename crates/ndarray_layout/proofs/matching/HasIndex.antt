-- Layouts that have an index, and axes with the places of others.
use Rattle.std.proofs.Common.{◌≡◌, ℕ, zero, suc, ◌<◌, ◌==◌, false, ℤ, List, [], ◌∷◌, length, take, arith}
use Rattle.std.proofs.Math.Nat.{mul-pos}
use Rattle.std.proofs.lemmas.Bool.{false_from_ne_true, ne_eqb, or_from, or_parts}
use Rattle.nd_base.proofs.Laws.Size.{size_of_empty}
use Rattle.nd_base.proofs.Laws.Definitions.{index_of_flat, is_empty, offset_of, size, IsValidLayout}

-- a shape with an index has one without its first axis
pub is_empty-rest : (len : ℕ) (lens : List ℕ) → is_empty (len ∷ lens) ≡ false → is_empty lens ≡ false
is_empty-rest len lens h = (or_parts (len == 0) (is_empty lens) h).1

pub some-len : (len : ℕ) (lens : List ℕ) → is_empty (len ∷ lens) ≡ false → 0 < len
some-len zero lens h = absurd (cc)
some-len (suc len) lens h = omega arith

-- as a shape of some size has
pub size-some : (lens : List ℕ) → 1 < size lens → is_empty lens ≡ false
size-some lens some = false_from_ne_true (is_empty lens) (λ e. let none = size_of_empty lens e in omega arith)

-- and with one more
pub filled : {len : ℕ} (lens : List ℕ) → 0 < len → is_empty lens ≡ false → is_empty (len ∷ lens) ≡ false
filled {len} lens some rest = or_from (len == 0) (is_empty lens) (ne_eqb len 0 (λ e. omega arith)) rest

-- some of its first axes have an index
pub take-some : (lens : List ℕ) (k : ℕ) → is_empty lens ≡ false → 0 < size (take k lens)
take-some lens zero some = omega arith
take-some [] (suc k) some = omega arith
take-some (len ∷ lens) (suc k) some = mul-pos (some-len len lens some) (take-some lens k (is_empty-rest len lens some))

-- a stride for each axis, and no axis of length 0
pub record HasIndex (lens : List ℕ) (strides : List ℤ) : Type 0 where
  pub same_count : length lens ≡ length strides
  pub some : is_empty lens ≡ false

pub rest-has_index : {len : ℕ} {lens : List ℕ} {stride : ℤ} {strides : List ℤ} → HasIndex (len ∷ lens) (stride ∷ strides)
    → HasIndex lens strides
rest-has_index {len} {lens} at =
    let count = at.same_count in
    record { same_count = omega arith; some = is_empty-rest len lens at.some }

pub with-axis : {len : ℕ} {lens : List ℕ} (s : ℤ) {strides : List ℤ} → 0 < len → HasIndex lens strides
    → HasIndex (len ∷ lens) (s ∷ strides)
with-axis {lens = lens} s some at = let count = at.same_count in record { same_count = omega arith; some = filled lens some at.some }

pub has_index-of-valid : {lens : List ℕ} {strides : List ℤ} → IsValidLayout lens strides → is_empty lens ≡ false → HasIndex lens strides
has_index-of-valid valid some = record { same_count = valid.same_count; some = some }

-- as far as the flat indices go, the index of a flat index lies as far along the one layout as along the other
abbrev pub PlacesAlike : List ℕ → List ℤ → List ℕ → List ℤ → Type 0
PlacesAlike from strides to others = (r : ℕ) → r < size from → offset_of others (index_of_flat to r) ≡ offset_of strides
    (index_of_flat from r)

-- axes with as many indices as others, and with their places
pub record SamePlaces (from : List ℕ) (strides : List ℤ) (to : List ℕ) (others : List ℤ) : Type 0 where
  pub sizes : size from ≡ size to
  pub alike : PlacesAlike from strides to others
