-- Items that are lent one after another to a function, up to the first at which it returns what is looked for: what the contracts of
-- private functions speak of.
use Rattle.std.specs.Prelude.{◌≡◌, Bool, true, false, Option, Some, List, [], ◌∷◌, ◌++◌, not, refl}
use Rattle.std.specs.Bool.{MatchBool}
use Rattle.std.specs.Fn.{Called, Mut}
use Rattle.std.proofs.Common.{Bor}
use Rattle.nd_access.specs.Folded.{HasCalled}

-- it returned something else at those that it passed; then it returned what is looked for at one, or none was left
pub record HasSearched {F T : Type 0} (g : Mut F (Bor T × Unit {0}) Bool) (wanted : Bool) (f : F) (items : List (Option T)) (found : Bool)
    (last : F) : Type 0 where
  pub passed : List (Option T)
  pub before : F
  pub calls : HasCalled (λ p x q. Called g p (x, tt) (not wanted) q) f passed before
  pub ends : MatchBool found
      ((item : Bor T) × (left : List (Option T)) × (items ≡ passed ++ Some item.now ∷ left) × Called g before (item, tt) wanted last)
      ((items ≡ passed) × (before ≡ last))

-- examples
none_found : {F T : Type 0} {g : Mut F (Bor T × Unit {0}) Bool} {f : F} → HasSearched g true f [] false f
none_found = record { passed = []; before = _; calls = record { lent = []; are = refl; calls = refl }; ends = (refl, refl) }
