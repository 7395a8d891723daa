-- The lines of an input and what stands after them, the words of a line, and the pieces of a text between separators.
use Rattle.std.specs.Prelude.{◌≡◌, ℕ, zero, suc, ◌==◌, nat_lt, List, [], ◌∷◌, length, map, codes, refl}
use Rattle.std.specs.List.{after_first, slice_split, filter, enumerate_from}
use Rattle.std.specs.Str.Lines.{lines}
use Rattle.ndl_session.specs.text.Bytes.{line_feed, space}

-- the lines of an input, each ended by a line feed, which the last may lack; a carriage return just before a line feed is dropped
abbrev pub lines_of : List ℕ → List (List ℕ)
lines_of input = lines input

-- what stands after the end of a text's first line
abbrev pub after_line : List ℕ → List ℕ
after_line text = after_first (λ b. b == line_feed) text

-- what stands after the end of the last of so many lines
abbrev pub after_lines : ℕ → List ℕ → List ℕ
after_lines zero text = text
after_lines (suc count) text = after_lines count (after_line text)

-- the pieces of a text between the bytes that are the separator: one piece more than there are such bytes
abbrev pub cut_at : ℕ → List ℕ → List (List ℕ)
cut_at separator text = slice_split (λ b. b == separator) text

-- the words of a line: its pieces between spaces, but for the empty ones
abbrev pub words_of : List ℕ → List (List ℕ)
words_of line = filter (λ word. nat_lt 0 (length word)) (cut_at space line)

-- a line by its number and its words
abbrev pub NumberedLine : Type 0
NumberedLine = ℕ × List (List ℕ)

-- the lines of an input that have a word, where the first line of all has a number given and each further one the next number
abbrev pub lines_from : ℕ → List ℕ → List NumberedLine
lines_from number input = filter (λ line. nat_lt 0 (length line.1)) (enumerate_from number (map words_of (lines_of input)))

-- examples
two_lines : lines_of (codes "a\r\nb\r") ≡ codes "a" ∷ codes "b\r" ∷ []
two_lines = refl

ended_lines : lines_of (codes "a\n\nb\n") ≡ codes "a" ∷ [] ∷ codes "b" ∷ []
ended_lines = refl

no_lines : lines_of [] ≡ []
no_lines = refl

after_one_of_two : after_line (codes "a\nb\n") ≡ codes "b\n"
after_one_of_two = refl

after_an_unended_line : after_line (codes "a") ≡ []
after_an_unended_line = refl

after_two_of_three : after_lines 2 (codes "a\n\n c") ≡ codes " c"
after_two_of_three = refl

three_parts : cut_at 44 (codes "a,,b") ≡ codes "a" ∷ [] ∷ codes "b" ∷ []
three_parts = refl

one_part : cut_at 44 [] ≡ [] ∷ []
one_part = refl

two_words : words_of (codes "  ab  c ") ≡ codes "ab" ∷ codes "c" ∷ []
two_words = refl

return_is_a_word : words_of (codes "ab \r") ≡ codes "ab" ∷ codes "\r" ∷ []
return_is_a_word = refl

blank : words_of (codes "   ") ≡ []
blank = refl

with_numbers : lines_from 1 (codes "\na b\n \nc") ≡ (2, codes "a" ∷ codes "b" ∷ []) ∷ (4, codes "c" ∷ []) ∷ []
with_numbers = refl
