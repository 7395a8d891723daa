-- The slice arguments that words spell, and the words of slice arguments.
use Rattle.std.specs.Prelude.{◌≡◌, ℕ, ℤ, pos, negsuc, Option, Some, None, IfSome, if◌then◌else◌, List, [], ◌∷◌, map, codes, refl}
use Rattle.std.specs.Fmt.{digits}
use Rattle.std.specs.Option.{option_map, option_or}
use Rattle.std.specs.Str.{bytes_eq}
use Rattle.ndarray_layout.specs.declared.SliceInfoElem.{SliceInfoElem}
use Rattle.ndarray_layout.specs.declared.SliceInfoElem.TheVariants as elem
use Rattle.ndarray_layout.specs.ElementText.{elem_text}
use Rattle.ndl_session.specs.text.Bytes.{dot, semicolon}
use Rattle.ndl_session.specs.script.Reading.{◌>>=◌}
use Rattle.ndl_session.specs.text.Lines.{cut_at}
use Rattle.ndl_session.specs.text.Numbers.{IsIsize, signed_number_of}
use Rattle.ndl_session.specs.text.Printing.{listed}
use Rattle.ndl_session.specs.script.Lists.{list_of}

-- the start of a range by its text, which may be empty: then it is the first coordinate
abbrev pub start_of : List ℕ → Option ℤ
start_of [] = Some (pos 0)
start_of (byte ∷ text) = signed_number_of (byte ∷ text)

-- the end of a range by its text, which may be empty: then it has none
abbrev pub end_of : List ℕ → Option (Option ℤ)
end_of [] = Some None
end_of (byte ∷ text) = option_map Some (signed_number_of (byte ∷ text))

-- the slice by a step and by the pieces of a range between its dots: two bounds, and nothing between the two dots
abbrev pub slice_of_bounds : ℤ → List (List ℕ) → Option SliceInfoElem
slice_of_bounds step (start ∷ [] ∷ end ∷ []) = do
  start ← start_of start
  end ← end_of end
  Some (elem.Slice start end step)
slice_of_bounds step _ = None

-- the slice by the pieces of a text between its semicolons: a range, and a step, which is 1 where it is missing
abbrev pub slice_of_pieces : List (List ℕ) → Option SliceInfoElem
slice_of_pieces (range ∷ []) = slice_of_bounds (pos 1) (cut_at dot range)
slice_of_pieces (range ∷ step ∷ []) = do
  step ← signed_number_of step
  slice_of_bounds step (cut_at dot range)
slice_of_pieces _ = None

-- the slice by a text: a range, and after a semicolon a step, which may be missing
abbrev pub range_of : List ℕ → Option SliceInfoElem
range_of text = slice_of_pieces (cut_at semicolon text)

-- one element of a slice argument: a new axis by its name, an index by its number, or the slice by a range
abbrev pub element_of : List ℕ → Option SliceInfoElem
element_of text =
    if bytes_eq text (codes "NewAxis") then Some elem.NewAxis
    else option_or (option_map elem.Index (signed_number_of text)) (range_of text)

-- the elements that a word lists
abbrev pub elements_of : List ℕ → Option (List SliceInfoElem)
elements_of word = list_of element_of word

-- an element that a program can have: each number of it is an `isize`
abbrev pub IsElement : SliceInfoElem → Type 0
IsElement (elem.Slice start end step) = IsIsize start × IfSome end IsIsize × IsIsize step
IsElement (elem.Index index) = IsIsize index
IsElement elem.NewAxis = Unit {0}

-- the word of a list of elements
abbrev pub elements_text : List SliceInfoElem → List ℕ
elements_text elems = listed (codes ",") (map elem_text elems)

-- examples
no_start : start_of [] ≡ Some (pos 0)
no_start = refl

no_end : end_of [] ≡ Some None
no_end = refl

three_bounds : slice_of_bounds (pos 1) (codes "1" ∷ [] ∷ codes "3" ∷ codes "5" ∷ []) ≡ None
three_bounds = refl

step_of_two : slice_of_pieces (codes "1..3" ∷ codes "2" ∷ []) ≡ Some (elem.Slice (pos 1) (Some (pos 3)) (pos 2))
step_of_two = refl

range_of_all : range_of (codes "..") ≡ Some (elem.Slice (pos 0) None (pos 1))
range_of_all = refl

whole : element_of (codes "..") ≡ Some (elem.Slice (pos 0) None (pos 1))
whole = refl

from_one_back : element_of (codes "1..;-2") ≡ Some (elem.Slice (pos 1) None (negsuc 1))
from_one_back = refl

with_zeros : element_of (codes "0..04;01") ≡ Some (elem.Slice (pos 0) (Some (pos 4)) (pos 1))
with_zeros = refl

from_the_end : element_of (codes "-3..-1;2") ≡ Some (elem.Slice (negsuc 2) (Some (negsuc 0)) (pos 2))
from_the_end = refl

zero_step : element_of (codes "..;0") ≡ Some (elem.Slice (pos 0) None (pos 0))
zero_step = refl

an_index : element_of (codes "1") ≡ Some (elem.Index (pos 1))
an_index = refl

last_index : element_of (codes "-01") ≡ Some (elem.Index (negsuc 0))
last_index = refl

new_axis : element_of (codes "NewAxis") ≡ Some elem.NewAxis
new_axis = refl

new_axis_in_small : element_of (codes "newaxis") ≡ None
new_axis_in_small = refl

new_axis_with_step : element_of (codes "NewAxis;2") ≡ None
new_axis_with_step = refl

index_with_step : element_of (codes "1;2") ≡ None
index_with_step = refl

past_greatest_index : element_of (codes "9223372036854775808") ≡ None
past_greatest_index = refl

no_step : element_of (codes "1..;") ≡ None
no_step = refl

plus : element_of (codes "+1..") ≡ None
plus = refl

index_with_plus : element_of (codes "+1") ≡ None
index_with_plus = refl

three_dots : element_of (codes "1...2") ≡ None
three_dots = refl

one_dot : element_of (codes "1.2") ≡ None
one_dot = refl

two_steps : element_of (codes "..;1;1") ≡ None
two_steps = refl

no_element : element_of [] ≡ None
no_element = refl

of_each_kind : elements_of (codes "1,NewAxis,..") ≡ Some (elem.Index (pos 1) ∷ elem.NewAxis ∷ elem.Slice (pos 0) None (pos 1) ∷ [])
of_each_kind = refl

no_elements : elements_of (codes "-") ≡ Some []
no_elements = refl

empty_element : elements_of (codes "..,,..") ≡ None
empty_element = refl

text_of_each_kind :
    elements_text (elem.Index (negsuc 0) ∷ elem.NewAxis ∷ elem.Slice (pos 1) (Some (pos 4)) (negsuc 1) ∷ [])
    ≡ codes "-1,NewAxis,1..4;-2"
unfolding digits
text_of_each_kind = refl

text_of_no_elements : elements_text [] ≡ codes "-"
text_of_no_elements = refl
