-- When two of many slice arguments on a shape share an index, and which fault such a list has.
use Rattle.std.specs.Prelude.{◌≡◌, ℕ, ◌<◌, pos, Option, Some, None, IsSomeAnd, List, [], ◌∷◌, slice_get, refl}
use Rattle.std.proofs.lemmas.Bool.{ltb-true}
use Rattle.std.proofs.Common.{arith}
use Rattle.std.proofs.Math.Nat.{not-suc-le-zero}
use Rattle.std.specs.List.{AllPairs}
use Rattle.std.specs.Option.{option_or}
use Rattle.nd_base.specs.declared.error.ErrorKind.{ErrorKind}
use Rattle.nd_base.specs.declared.error.ErrorKind.TheVariants.{OutOfBounds}
use Rattle.nd_slice.specs.declared.fit.Fit.{Fit}
use Rattle.nd_slice.specs.declared.fit.Fit.TheVariants.{Strict}
use Rattle.nd_slice.specs.declared.elem.SliceInfoElem.{SliceInfoElem}
use Rattle.nd_slice.specs.declared.elem.SliceInfoElem.TheVariants as elem
use Rattle.nd_slice.specs.Intersect.{Intersect}
use Rattle.nd_slice.specs.SliceFault.{argument_fault}

-- the fault of the first argument that doesn't fit
abbrev pub slices_fault : Fit → List ℕ → List (List SliceInfoElem) → Option ErrorKind
slices_fault fit shape [] = None
slices_fault fit shape (slice ∷ slices) = option_or (argument_fault fit shape slice) (slices_fault fit shape slices)

-- two arguments share no index
abbrev pub AreApart : Fit → List ℕ → List SliceInfoElem → List SliceInfoElem → Type 0
AreApart fit shape one other = Intersect fit shape one other → ⊥

-- the arguments at two positions of a list, i before j, share an index
abbrev pub IntersectAt : Fit → List ℕ → List (List SliceInfoElem) → ℕ → ℕ → Type 0
IntersectAt fit shape slices i j = (i < j)
    × IsSomeAnd (slice_get slices i) (λ one. IsSomeAnd (slice_get slices j) (Intersect fit shape one))

-- some two of a list do
abbrev pub SomeIntersect : Fit → List ℕ → List (List SliceInfoElem) → Type 0
SomeIntersect fit shape slices = (i : ℕ) × (j : ℕ) × IntersectAt fit shape slices i j

-- the positions of two that share an index, or that no two do
abbrev pub IsIntersection : Fit → List ℕ → List (List SliceInfoElem) → Option (ℕ × ℕ) → Type 0
IsIntersection fit shape slices None = AllPairs (AreApart fit shape) slices
IsIntersection fit shape slices (Some found) = IntersectAt fit shape slices found.0 found.1

-- examples
abbrev first : List SliceInfoElem
first = elem.Index (pos 0) ∷ []

abbrev second : List SliceInfoElem
second = elem.NewAxis ∷ elem.Index (pos 1) ∷ []

abbrev whole : List SliceInfoElem
whole = elem.Slice (pos 0) None (pos 1) ∷ []

first_fault : slices_fault Strict (2 ∷ []) (first ∷ (elem.Index (pos 2) ∷ []) ∷ (elem.Slice (pos 0) None (pos 0) ∷ []) ∷ [])
    ≡ Some OutOfBounds
first_fault = refl

no_fault : slices_fault Strict (2 ∷ []) (first ∷ second ∷ []) ≡ None
no_fault = refl

abbrev shared : Intersect Strict (2 ∷ []) first whole
shared = (0 ∷ [], refl, ((0, ltb-true 0 1 refl, refl), tt), ((0, ltb-true 0 2 refl, refl), tt))

not_neighbours : IsIntersection Strict (2 ∷ []) (first ∷ second ∷ whole ∷ []) (Some (0, 2))
not_neighbours = (ltb-true 0 2 refl, shared)

one_alone : IsIntersection Strict (2 ∷ []) (first ∷ []) None
one_alone = λ i j d before below. absurd (omega arith)

not_with_itself : IsIntersection Strict (2 ∷ []) (first ∷ []) (Some (0, 0)) → ⊥
not_with_itself found = not-suc-le-zero found.0

not_unsaid : IsIntersection Strict (2 ∷ []) (first ∷ whole ∷ []) None → ⊥
not_unsaid apart = apart 0 1 [] (ltb-true 0 1 refl) (ltb-true 1 2 refl) shared
