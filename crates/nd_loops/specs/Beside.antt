-- Items and what stands beside each: what the contracts of private functions speak of.
use Rattle.std.specs.Prelude.{◌≡◌, ℕ, ℤ, pos, Option, Some, None, List, [], ◌∷◌, map, refl}
use Rattle.nd_access.specs.Items.{item_at_place}
use Rattle.nd_access.specs.Zipped.{pairs_of}

-- the items at places, each with the value beside it
abbrev pub items_beside : {T V : Type 0} → List T → List ℤ → List (Option V) → List (Option (T × V))
items_beside items places values = pairs_of (map (item_at_place items) places) values

-- nothing stands beside the items of these places
abbrev pub nothing_beside : List ℤ → List (Option (Unit {0}))
nothing_beside places = map (λ place. Some tt) places

-- what a closure is shown after an item stands for this; `value` reads it off
abbrev pub shown_beside : {I V : Type 0} → (I → V) → I × Unit {0} → V
shown_beside value shown = value shown.0

-- examples
one_beside_each : items_beside {T = ℕ} {V = ℕ} (7 ∷ 8 ∷ []) (pos 1 ∷ pos 0 ∷ []) (Some 5 ∷ None ∷ []) ≡ Some (8, 5) ∷ None ∷ []
one_beside_each = refl

nothing_beside_two : items_beside {T = ℕ} (7 ∷ 8 ∷ []) (pos 1 ∷ pos 2 ∷ []) (nothing_beside (pos 1 ∷ pos 2 ∷ []))
    ≡ Some (8, tt) ∷ None ∷ []
nothing_beside_two = refl
