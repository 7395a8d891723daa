-- Several views of the same items, one after another: their arrays, and whether any two have a place in common.
use Rattle.std.specs.Prelude.{◌≡◌, ℕ, List, [], ◌∷◌, map, refl}
use Rattle.std.specs.List.{AllPairs}
use Rattle.std.proofs.lemmas.Bool.{ltb-true}
use Rattle.ndarray_layout.specs.SharePlace.{SharePlace}
use Rattle.ndarray_layout.specs.View.{View}
use Rattle.nd_access.specs.Items.{ArrayValue}

-- that of one view
abbrev pub array_over : {T : Type 0} → List T → View → ArrayValue T
array_over items view = record { items = items; view = view }

-- one for each view
abbrev pub arrays_of : {T : Type 0} → List T → List View → List (ArrayValue T)
arrays_of items views = map (array_over items) views

-- no two of the views have a place in common
abbrev pub AreApart : List View → Type 0
AreApart views = AllPairs (λ one other. SharePlace one other → ⊥) views

-- examples
abbrev third : View
third = record { start = 2; shape = []; strides = [] }

third_twice : arrays_of {T = ℕ} (7 ∷ 8 ∷ 9 ∷ []) (third ∷ third ∷ [])
    ≡ record { items = 7 ∷ 8 ∷ 9 ∷ []; view = third } ∷ record { items = 7 ∷ 8 ∷ 9 ∷ []; view = third } ∷ []
third_twice = refl

not_apart_from_itself : AreApart (third ∷ third ∷ []) → ⊥
not_apart_from_itself apart = apart 0 1 third (ltb-true 0 1 refl) (ltb-true 1 2 refl) ([], refl, ([], refl, refl))
