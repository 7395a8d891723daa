-- Chunks along an axis.
use Rattle.std.specs.Prelude.{ℕ, ◌<◌, List, [], ◌∷◌, length}
use Rattle.std.proofs.Math.Nat.{lt_irrefl}
use Rattle.std.proofs.Props.{props}

-- there is the axis, and a chunk has a coordinate
pub record HasChunks (shape : List ℕ) (axis size : ℕ) : Type 0 where
  pub there : axis < length shape
  pub some : 0 < size

-- it has one proof at most, so it may be a ghost field
pub HasChunks-prop : (shape : List ℕ) (axis size : ℕ) → IsProp (HasChunks shape axis size)
HasChunks-prop shape axis size = Prim.hlevel props

-- example
of_no_coordinates : HasChunks (5 ∷ 4 ∷ []) 1 0 → ⊥
of_no_coordinates has = lt_irrefl 0 has.some
