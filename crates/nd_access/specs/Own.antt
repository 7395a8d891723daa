-- Places that a right has to itself: those that are left to be lent.
use Rattle.std.specs.Prelude.{◌≡◌, ◌≢◌, ℕ, ◌≤◌, ℤ, pos, Bool, true, List, [], ◌∷◌, drop, length, take, refl}
use Rattle.std.specs.List.{All, AllPairs}
use Rattle.std.proofs.Props.{props}
use Rattle.std.proofs.lemmas.Bool.{ltb-true}
use Rattle.ndarray_layout.specs.declared.Order.TheVariants.{RowMajor}
use Rattle.ndarray_layout.specs.Rows.{rows_places, view_rows}
use Rattle.ndarray_layout.specs.View.{View}
use Rattle.nd_access.specs.Part.{has_mark}

-- each place has a mark, and no two are one
pub record AreOwn (marks : List Bool) (places : List ℤ) : Type 0 where
  pub marked : All (λ place. has_mark marks place ≡ true) places
  pub apart : AllPairs (λ one other. one ≢ other) places

-- it has one proof at most, so it may be a ghost field
pub AreOwn-prop : (marks : List Bool) (places : List ℤ) → IsProp (AreOwn marks places)
AreOwn-prop marks places = Prim.hlevel props

-- the places of the rows of a view from one number up to another
pub record OwnsRows (marks : List Bool) (view : View) (begun end : ℕ) : Type 0 where
  pub number : begun ≤ end
  pub within : end ≤ length (view_rows RowMajor view)
  pub own : AreOwn marks (rows_places (drop begun (take end (view_rows RowMajor view))))

-- and so has this
pub OwnsRows-prop : (marks : List Bool) (view : View) (begun end : ℕ) → IsProp (OwnsRows marks view begun end)
OwnsRows-prop marks view begun end = Prim.hlevel (props, AreOwn-prop)

-- examples
one_place_twice : AreOwn (true ∷ true ∷ []) (pos 1 ∷ pos 1 ∷ []) → ⊥
one_place_twice own = own.apart 0 1 (pos 0) (ltb-true 0 1 refl) (ltb-true 1 2 refl) refl
