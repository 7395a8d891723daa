-- The words of a line that asks for a step, and the step that they spell.
use Rattle.std.specs.Prelude.{◌≡◌, ℕ, pos, Option, Some, None, if◌then◌else◌, List, [], ◌∷◌, codes, decimal, refl}
use Rattle.std.specs.Fmt.{digits}
use Rattle.std.specs.List.{All}
use Rattle.std.specs.Option.{option_map}
use Rattle.std.specs.Str.{bytes_eq}
use Rattle.ndarray_layout.specs.declared.Fit.{Fit}
use Rattle.ndarray_layout.specs.declared.Fit.TheVariants.{Strict, Clamp}
use Rattle.ndarray_layout.specs.declared.Order.{Order}
use Rattle.ndarray_layout.specs.declared.Order.TheVariants.{RowMajor, ColumnMajor}
use Rattle.ndarray_layout.specs.declared.SliceInfoElem.TheVariants as elem
use Rattle.ndarray_layout.specs.Step.{StepValue, SliceBy, CollapseTo, MergeInto, ReshapeTo, BroadcastTo}
use Rattle.ndl_session.specs.text.Lines.{words_of}
use Rattle.ndl_session.specs.text.Numbers.{IsUsize, number_of}
use Rattle.ndl_session.specs.script.Elements.{IsElement, elements_of, elements_text}
use Rattle.ndl_session.specs.script.Lists.{lengths_of, lengths_text}
use Rattle.ndl_session.specs.script.Reading.{of_both}

-- the order that a word names: `C` by rows, `F` by columns
abbrev pub order_of_word : List ℕ → Option Order
order_of_word word = if bytes_eq word (codes "C") then Some RowMajor else if bytes_eq word (codes "F") then Some ColumnMajor else None

-- the step that the words of a line ask for: a keyword and one word or two
abbrev pub step_of : List (List ℕ) → Option StepValue
step_of (keyword ∷ word ∷ []) =
    if bytes_eq keyword (codes "slice") then option_map (λ elems. SliceBy elems Strict) (elements_of word)
    else if bytes_eq keyword (codes "clamp") then option_map (λ elems. SliceBy elems Clamp) (elements_of word)
    else if bytes_eq keyword (codes "broadcast") then option_map BroadcastTo (lengths_of word)
    else None
step_of (keyword ∷ first ∷ second ∷ []) =
    if bytes_eq keyword (codes "collapse") then of_both CollapseTo (number_of first) (number_of second)
    else if bytes_eq keyword (codes "merge") then of_both MergeInto (number_of first) (number_of second)
    else if bytes_eq keyword (codes "reshape") then of_both (λ order shape. ReshapeTo shape order) (order_of_word first) (lengths_of second)
    else None
step_of _ = None

-- the keyword of a slice, by what becomes of a bound past its axis
abbrev pub slice_keyword : Fit → List ℕ
slice_keyword Strict = codes "slice"
slice_keyword Clamp = codes "clamp"

-- the word of an order
abbrev pub order_text : Order → List ℕ
order_text RowMajor = codes "C"
order_text ColumnMajor = codes "F"

-- a step in words: those of its line, and that a program can have it, since its numbers are ones of the program
pub record StepText : Type 1 where
  pub words : List (List ℕ)
  pub fits : Type 0

-- each step in words
abbrev pub text_of : StepValue → StepText
text_of (SliceBy elems fit) = record { words = slice_keyword fit ∷ elements_text elems ∷ []; fits = All IsElement elems }
text_of (CollapseTo axis at) = record { words = codes "collapse" ∷ decimal axis ∷ decimal at ∷ []; fits = IsUsize axis × IsUsize at }
text_of (MergeInto take into) = record { words = codes "merge" ∷ decimal take ∷ decimal into ∷ []; fits = IsUsize take × IsUsize into }
text_of (ReshapeTo shape order) = record { words = codes "reshape" ∷ order_text order ∷ lengths_text shape ∷ []; fits = All IsUsize shape }
text_of (BroadcastTo shape) = record { words = codes "broadcast" ∷ lengths_text shape ∷ []; fits = All IsUsize shape }

-- examples
a_slice : step_of (words_of (codes "slice 1..")) ≡ Some (SliceBy (elem.Slice (pos 1) None (pos 1) ∷ []) Strict)
a_slice = refl

a_clamping_slice : step_of (words_of (codes "clamp 9,NewAxis")) ≡ Some (SliceBy (elem.Index (pos 9) ∷ elem.NewAxis ∷ []) Clamp)
a_clamping_slice = refl

a_slice_of_no_list : step_of (words_of (codes "slice 1,")) ≡ None
a_slice_of_no_list = refl

a_collapse : step_of (words_of (codes "collapse 0 07")) ≡ Some (CollapseTo 0 7)
a_collapse = refl

a_merge : step_of (words_of (codes "merge 1 0")) ≡ Some (MergeInto 1 0)
a_merge = refl

a_broadcast : step_of (words_of (codes "broadcast 2,2,3")) ≡ Some (BroadcastTo (2 ∷ 2 ∷ 3 ∷ []))
a_broadcast = refl

to_no_axes : step_of (words_of (codes "broadcast -")) ≡ Some (BroadcastTo [])
to_no_axes = refl

by_columns : order_of_word (codes "F") ≡ Some ColumnMajor
by_columns = refl

a_reshape : step_of (words_of (codes "reshape C 3,02")) ≡ Some (ReshapeTo (3 ∷ 2 ∷ []) RowMajor)
a_reshape = refl

to_no_axes_by_columns : step_of (words_of (codes "reshape F -")) ≡ Some (ReshapeTo [] ColumnMajor)
to_no_axes_by_columns = refl

an_order_in_small : step_of (words_of (codes "reshape c 4")) ≡ None
an_order_in_small = refl

without_an_order : step_of (words_of (codes "reshape 3,2")) ≡ None
without_an_order = refl

a_length_too_large : step_of (words_of (codes "reshape C 18446744073709551616")) ≡ None
a_length_too_large = refl

without_elements : step_of (words_of (codes "clamp")) ≡ None
without_elements = refl

elements_in_two_words : step_of (words_of (codes "slice 1 ..")) ≡ None
elements_in_two_words = refl

one_number_of_two : step_of (words_of (codes "collapse 0")) ≡ None
one_number_of_two = refl

three_numbers : step_of (words_of (codes "merge 0 1 2")) ≡ None
three_numbers = refl

negative_index : step_of (words_of (codes "collapse 0 -1")) ≡ None
negative_index = refl

a_list_for_an_axis : step_of (words_of (codes "merge - 0")) ≡ None
a_list_for_an_axis = refl

misspelled : step_of (words_of (codes "slise ..")) ≡ None
misspelled = refl

words_of_a_clamp : (text_of (SliceBy (elem.NewAxis ∷ []) Clamp)).words ≡ words_of (codes "clamp NewAxis")
words_of_a_clamp = refl

words_of_a_reshape : (text_of (ReshapeTo (3 ∷ 2 ∷ []) ColumnMajor)).words ≡ words_of (codes "reshape F 3,2")
unfolding digits
words_of_a_reshape = refl

words_of_a_merge : (text_of (MergeInto 1 0)).words ≡ words_of (codes "merge 1 0")
unfolding digits
words_of_a_merge = refl
