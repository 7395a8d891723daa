-- The bytes that separate the pieces of an input, by their names.
use Rattle.std.specs.Prelude.{◌≡◌, ℕ, [], ◌∷◌, codes, refl}

-- the byte that ends a line
abbrev pub line_feed : ℕ
line_feed = 10

-- the byte that separates words
abbrev pub space : ℕ
space = 32

-- the byte that separates the items of a list
abbrev pub comma : ℕ
comma = 44

-- the byte that stands twice between the bounds of a range
abbrev pub dot : ℕ
dot = 46

-- the byte before the step of a range
abbrev pub semicolon : ℕ
semicolon = 59

-- examples
as_text : codes " ,.;\n" ≡ space ∷ comma ∷ dot ∷ semicolon ∷ line_feed ∷ []
as_text = refl
