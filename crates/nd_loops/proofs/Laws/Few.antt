-- Rows whose number of items is known: that of the first one, and of the others.
use Rattle.std.proofs.Common.{◌≡◌, List, ◌∷◌, subst}
use Rattle.std.specs.List.{All}
use Rattle.std.proofs.lemmas.List.Elements.{All-head, All-tail}

module _ {X Some : Type 0} (P : X → Type 0) {rows others : List X} {row : X} (is : rows ≡ row ∷ others) (all : Some → All P rows) where
  pub first_few : Some → P row
  first_few some = All-head P row others (subst (All P) is (all some))

  pub others_few : Some → All P others
  others_few some = All-tail P row others (subst (All P) is (all some))
