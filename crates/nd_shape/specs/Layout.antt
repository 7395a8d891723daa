-- What the bits of a `Layout` say, and what it prints. Bit 1 is row-major, 2 column-major, 4 and 8 a liking for either.
use Rattle.std.specs.Prelude.{◌≡◌, ℕ, ◌+◌, ◌==◌, nat_lt, bit_and, if◌then◌else◌, ℤ, pos, negsuc, ◌+ℤ◌, ◌-ℤ◌, List, [], ◌∷◌}
use Rattle.std.specs.Prelude.{◌++◌, codes, refl}

-- 1 where a bit is set, or else 0
abbrev pub flag_at : ℕ → ℕ → ℤ
flag_at layout flag = (if bit_and layout flag == 0 then pos 0 else pos 1)

-- above 0 where row-major is better, below 0 where column-major is
abbrev pub tendency : ℕ → ℤ
tendency layout = (flag_at layout 1 -ℤ flag_at layout 2) +ℤ (flag_at layout 4 -ℤ flag_at layout 8)

-- a letter where a bit is set
abbrev pub letter_at : ℕ → ℕ → List ℕ → List ℕ
letter_at layout flag letter = (if bit_and layout flag == 0 then [] else letter)

-- the letters of the bits that are set
abbrev pub layout_letters : ℕ → List ℕ
layout_letters layout =
    letter_at layout 1 (codes "C")
    ++ (letter_at layout 2 (codes "F") ++ (letter_at layout 4 (codes "c") ++ letter_at layout 8 (codes "f")))

-- the digit of a number below 16
abbrev pub hex_digit : ℕ → ℕ
hex_digit n = (if nat_lt n 10 then 48 + n else 87 + n)

-- what a layout prints: the letters of its bits, or a word where none is set, and the bits as a number
abbrev pub layout_text : ℕ → List ℕ
layout_text layout =
    (if layout == 0 then codes "Custom" else layout_letters layout) ++ (codes " (0x" ++ (hex_digit layout ∷ codes ")"))

-- examples
text_of_none : layout_text 0 ≡ codes "Custom (0x0)"
text_of_none = refl

text_of_all : layout_text 15 ≡ codes "CFcf (0xf)"
text_of_all = refl

text_by_columns : layout_text 10 ≡ codes "Ff (0xa)"
text_by_columns = refl

tendency_by_rows : tendency 5 ≡ pos 2
tendency_by_rows = refl

tendency_by_columns : tendency 10 ≡ negsuc 1
tendency_by_columns = refl

tendency_of_one_axis : tendency 15 ≡ pos 0
tendency_of_one_axis = refl
