-- A list of which a single item lies in the value itself: what the contracts of private functions speak of.
use Rattle.std.specs.Prelude.{◌≡◌, ℕ, List, [], ◌∷◌, refl}
use Rattle.nd_owned.specs.declared.one_or_many.OneOrMany.{OneOrMany}
use Rattle.nd_owned.specs.declared.one_or_many.OneOrMany.TheVariants.{One, Many}

-- the items, in order
abbrev pub items_of : {T : Type 0} → OneOrMany T → List T
items_of (One item) = item ∷ []
items_of (Many items) = items.items

-- examples
in_the_value : items_of {T = ℕ} (One 7) ≡ 7 ∷ []
in_the_value = refl
