-- The lists that words spell, and the words of lists.
use Rattle.std.specs.Prelude.{◌≡◌, ℕ, ℤ, pos, negsuc, Option, Some, None, if◌then◌else◌, List, [], ◌∷◌, map, codes, decimal, refl}
use Rattle.std.specs.Fmt.{digits, signed_decimal}
use Rattle.std.specs.Option.{option_map}
use Rattle.std.specs.Str.{bytes_eq}
use Rattle.ndarray_layout.specs.Signed.{unsigned}
use Rattle.ndl_session.specs.text.Bytes.{comma}
use Rattle.ndl_session.specs.text.Lines.{cut_at}
use Rattle.ndl_session.specs.text.Numbers.{number_of, signed_number_of}
use Rattle.ndl_session.specs.text.Printing.{listed}
use Rattle.ndl_session.specs.script.Reading.{read_each}

-- the items that a word lists, separated by commas; `-` is the empty list
abbrev pub list_of : {A : Type 0} → (List ℕ → Option A) → List ℕ → Option (List A)
list_of item_of word = if bytes_eq word (codes "-") then Some [] else read_each item_of (cut_at comma word)

-- the lengths that a word lists
abbrev pub lengths_of : List ℕ → Option (List ℕ)
lengths_of word = list_of number_of word

-- the strides that a word lists, each with its sign
abbrev pub strides_of : List ℕ → Option (List ℤ)
strides_of word = list_of signed_number_of word

-- the stride of a text, as the number of the same bits without a sign
abbrev pub stride_of : List ℕ → Option ℕ
stride_of text = option_map unsigned (signed_number_of text)

-- the word of a list of lengths
abbrev pub lengths_text : List ℕ → List ℕ
lengths_text lengths = listed (codes ",") (map decimal lengths)

-- the word of a list of strides
abbrev pub strides_text : List ℤ → List ℕ
strides_text strides = listed (codes ",") (map signed_decimal strides)

-- examples
two_lengths : lengths_of (codes "2,03") ≡ Some (2 ∷ 3 ∷ [])
two_lengths = refl

empty_list : strides_of (codes "-") ≡ Some []
empty_list = refl

empty_item : strides_of (codes "1,,2") ≡ None
empty_item = refl

empty_last_item : lengths_of (codes "1,") ≡ None
empty_last_item = refl

of_signs : strides_of (codes "-3,1") ≡ Some (negsuc 2 ∷ pos 1 ∷ [])
of_signs = refl

bits_of_minus_one : stride_of (codes "-1") ≡ Some 18446744073709551615
bits_of_minus_one = refl

bits_of_none : stride_of (codes "9223372036854775808") ≡ None
bits_of_none = refl

text_of_lengths : lengths_text (2 ∷ 30 ∷ []) ≡ codes "2,30"
unfolding digits
text_of_lengths = refl

text_of_strides : strides_text (negsuc 2 ∷ pos 1 ∷ []) ≡ codes "-3,1"
unfolding digits
text_of_strides = refl

text_of_no_strides : strides_text [] ≡ codes "-"
text_of_no_strides = refl
