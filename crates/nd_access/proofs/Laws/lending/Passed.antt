-- A value that is passed on: its one machine value has the type of its parameter. Assumes nothing.
use denote.Struct.Members.{Lone}
use Rattle.nd_access.proofs.Laws.lending.Steps.{Bool, List, T, Val, false, only, refl, true, [], ◌&&◌, ◌∷◌, ◌≡◌}

pub both_hold : (x y : Bool) → T x → T y → T (x && y)
both_hold true y p q = q
both_hold false y p q = p

pub lone_is : (vs : List Val) → Lone vs → vs ≡ only vs ∷ []
lone_is [] l = absurd l
lone_is (v ∷ []) l = refl
lone_is (v ∷ u ∷ us) l = absurd l
