-- A function that is called with a total at one pair of items after another, the items of one index of two arrays: each at a `&` to both.
use Rattle.std.specs.Prelude.{◌≡◌, ℕ, Option, Some, List, [], ◌∷◌, length, map, nat_eq, refl, take}
use Rattle.std.specs.Borrow.{Bor}
use Rattle.std.specs.Fn.{Called, Mut, Takes}
use Rattle.std.specs.Iterator.{CallableAtEachTurn}
use Rattle.std.specs.List.{FoldsTo}
use Rattle.std.proofs.Common.{ap, eq-eqb}
use Rattle.std.proofs.lemmas.Bool.{both_ways}
use Rattle.ndarray_layout.specs.Folded.{HasCalled, gives}

-- the pair to whose items these are references
abbrev pub pair_shown : {T U : Type 0} → Bor T × Bor U → Option (T × U)
pair_shown lent = Some (lent.0.now, lent.1.now)

module _ {F B T U : Type 0} (g : Mut F (B × (Bor T × (Bor U × Unit {0}))) B) where
  -- a call at a pair takes the function and the total to others
  abbrev pub PairTurn : F × B → Bor T × Bor U → F × B → Type 0
  PairTurn before lent after = Called g before.0 (before.1, (lent.0, (lent.1, tt))) after.1 after.0

  -- f may be called at each of these pairs in turn and the total so far, first init, as the calls before left it
  abbrev pub CallableInFoldOfPairs : List (Option (T × U)) → F → B → Type 0
  CallableInFoldOfPairs pairs f init = CallableAtEachTurn {P = F × B} (gives pair_shown) PairTurn
      (λ before lent. Takes g before.0 (before.1, (lent.0, (lent.1, tt)))) pairs (f, init)

  -- one call after another, each at the next pair, took the function and the total before to those after
  abbrev pub HasFoldedPairs : F × B → List (Option (T × U)) → F × B → Type 0
  HasFoldedPairs before pairs after = HasCalled pair_shown PairTurn before pairs after

  -- the calls at all of these pairs took init to this result
  abbrev pub FoldsPairs : List (Option (T × U)) → F → B → B → Type 0
  FoldsPairs pairs f init result = (last : F) × HasFoldedPairs (f, init) pairs (last, result)

-- examples
one_call : {F B : Type 0} {g : Mut F (B × (Bor ℕ × (Bor ℕ × Unit {0}))) B} {before after : F × B} (lent : Bor ℕ × Bor ℕ)
    → PairTurn g before lent after → FoldsPairs g (Some (lent.0.now, lent.1.now) ∷ []) before.0 before.1 after.1
one_call {after = after} lent turn = (after.0, record { given = lent ∷ []; are = refl; calls = (after, turn, refl) })

no_call : {F B : Type 0} {g : Mut F (B × (Bor ℕ × (Bor ℕ × Unit {0}))) B} {f : F} {init result : B}
    → FoldsPairs g [] f init result → init ≡ result
no_call {g = g} {f} {init} {result} folded = by folded.1.given folded.1.are folded.1.calls
  where
    by : (given : List (Bor ℕ × Bor ℕ)) → map pair_shown given ≡ [] → FoldsTo (PairTurn g) (f, init) given (folded.0, result)
        → init ≡ result
    by [] are calls = ap (λ state. state.1) calls
    by (lent ∷ given) are calls = absurd (both_ways (nat_eq 1 0) refl (eq-eqb 1 0 (ap (λ pairs. length (take 1 pairs)) are)))
