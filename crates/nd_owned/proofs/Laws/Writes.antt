-- Laws of a list of writes without an error: each slice fits, each has its count of items, and no two share an index.
use Rattle.std.proofs.Common.{◌≡◌, ℕ, Option, Some, None, List, [], ◌∷◌, get_or, refl, sym, subst, arith}
use Rattle.std.specs.List.{All, AllPairs}
use Rattle.std.specs.Prelude.{MatchOption}
use Rattle.std.proofs.lemmas.List.{get_or-map, length-map}
use Rattle.ndarray_layout.specs.declared.ErrorKind.{ErrorKind}
use Rattle.ndarray_layout.specs.declared.Fit.TheVariants.{Strict}
use Rattle.ndarray_layout.specs.Intersect.{Intersect}
use Rattle.ndarray_layout.specs.IntersectingPair.{AreApart}
use Rattle.ndarray_layout.specs.SliceFault.{argument_fault}
use Rattle.nd_owned.specs.MultiSet.{IsFaultOfWrites, IsIntersectionFault, Write, counts_fault, slices_fault, slices_of}
use Rattle.nd_lent.proofs.Laws.Faults.{both_none, slices_fit}
use Rattle.nd_lent.proofs.Laws.Lists.{All-of_map}

-- neither a slice nor a count of items is at fault, and no two slices share an index
record AreWrites {T : Type 0} (shape : List ℕ) (writes : List (Write T)) : Type 0 where
  counts : counts_fault shape writes ≡ None
  apart : AllPairs (AreApart Strict shape) (slices_of writes)

are_writes : {T : Type 0} (shape : List ℕ) (writes : List (Write T)) → IsFaultOfWrites shape writes None → AreWrites shape writes
are_writes shape writes fault = by (counts_fault shape writes) refl fault
  where
    by : (counts : Option ErrorKind) → counts_fault shape writes ≡ counts
        → MatchOption counts (IsIntersectionFault shape writes None) (λ kind. None ≡ Some kind) → AreWrites shape writes
    by None same apart = record { counts = same; apart = apart }
    by (Some kind) same wrong = absurd (let same : None ≡ Some kind = wrong in cc)

-- each slice fits
pub writes_fit : {T : Type 0} (shape : List ℕ) (writes : List (Write T)) → IsFaultOfWrites shape writes None
    → All (λ write. argument_fault Strict shape write.slice ≡ None) writes
writes_fit shape writes fault =
    All-of_map (λ write. write.slice) writes (λ slice. argument_fault Strict shape slice ≡ None)
    (slices_fit shape (slices_of writes) (both_none (slices_fault shape writes) _ (are_writes shape writes fault).counts).0)

-- no two slices share an index
pub writes_apart : {T : Type 0} (shape : List ℕ) (writes : List (Write T)) → IsFaultOfWrites shape writes None
    → AllPairs (λ one other. AreApart Strict shape one.slice other.slice) writes
writes_apart shape writes fault = λ i j d earlier below met.
    (are_writes shape writes fault).apart i j d.slice earlier (omega (arith, below, length-map writes (λ write. write.slice)))
    (subst (λ slice. Intersect Strict shape slice (get_or (slices_of writes) j d.slice))
    (sym (get_or-map (λ write. write.slice) writes i d d.slice (omega (arith, earlier, below))))
    (subst (Intersect Strict shape (get_or writes i d).slice) (sym (get_or-map (λ write. write.slice) writes j d d.slice below)) met))

-- of two writes the slices share none
pub two_writes_apart : {T : Type 0} (shape : List ℕ) (one other : Write T) → IsFaultOfWrites shape (one ∷ other ∷ []) None
    → Intersect Strict shape one.slice other.slice → ⊥
two_writes_apart shape one other fault =
    writes_apart shape (one ∷ other ∷ []) fault 0 1 one (omega arith) (omega arith)
