-- The best of items, as a fold finds it.
use Rattle.std.specs.Prelude.{◌≡◌, ℕ, Option, Some, None, refl}

-- the better of an item and of those before, if there were any
abbrev pub better_of : {T : Type 0} → (T → T → T) → Option T → T → Option T
better_of pick None item = Some item
better_of pick (Some best) item = Some (pick best item)

-- examples
first_is_best : better_of {T = ℕ} (λ best item. best) None 7 ≡ Some 7
first_is_best = refl
