-- How the lists of an answer are written.
use Rattle.std.specs.Prelude.{◌≡◌, ℕ, Option, Some, List, [], ◌∷◌, ◌++◌, codes, unwrap_or, refl}
use Rattle.std.specs.List.{flat_map}

-- the text that an item prints
abbrev pub printed : {T : Type 0} → (T → Option (List ℕ)) → T → List ℕ
printed output item = unwrap_or (output item) []

-- texts as one: the first, and each further one after a separator; a minus sign where there is no text
abbrev pub listed : List ℕ → List (List ℕ) → List ℕ
listed separator [] = codes "-"
listed separator (text ∷ texts) = text ++ flat_map (λ another. separator ++ another) texts

-- a line of an answer: a name, a space, and a text
abbrev pub line : List ℕ → List ℕ → List ℕ
line name text = name ++ codes " " ++ text ++ codes "\n"

-- examples
one_printed : printed Some (codes "34") ≡ codes "34"
one_printed = refl

three_numbers : listed (codes ",") (codes "2" ∷ codes "3" ∷ codes "4" ∷ []) ≡ codes "2,3,4"
three_numbers = refl

no_numbers : listed (codes ",") [] ≡ codes "-"
no_numbers = refl

a_line : line (codes "shape") (codes "2,3") ≡ codes "shape 2,3\n"
a_line = refl
