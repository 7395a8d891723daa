-- The words of a line that makes a layout, and the layout that they spell.
use Rattle.std.specs.Prelude.{◌≡◌, ℕ, ℤ, pos, negsuc, Option, Some, None, if◌then◌else◌, List, [], ◌∷◌, codes, decimal, refl}
use Rattle.std.specs.Fmt.{digits}
use Rattle.std.specs.List.{All}
use Rattle.std.proofs.Common.{ap}
use Rattle.std.specs.Str.{bytes_eq}
use Rattle.ndarray_layout.specs.declared.CanIndexCheckMode.{CanIndexCheckMode}
use Rattle.ndarray_layout.specs.declared.CanIndexCheckMode.TheVariants.{OwnedMutable, ReadOnly}
use Rattle.ndarray_layout.specs.Dim.{lengths}
use Rattle.ndarray_layout.specs.Signed.{all_signed}
use Rattle.ndl_session.specs.declared.script.data_line.DataLayout.{DataLayout}
use Rattle.ndl_session.specs.script.Reading.{◌>>=◌}
use Rattle.ndl_session.specs.text.Lines.{words_of}
use Rattle.ndl_session.specs.text.Numbers.{IsIsize, IsUsize, number_of}
use Rattle.ndl_session.specs.script.Lists.{lengths_of, lengths_text, strides_of, strides_text}

-- a layout over some data: how many elements the data has, whether indices may share one, and the axes
pub record DataLayoutValue : Type 0 where
  pub len : ℕ
  pub mode : CanIndexCheckMode
  pub shape : List ℕ
  pub strides : List ℤ

-- a layout of the program by what its lists hold
abbrev pub layout_value : DataLayout → DataLayoutValue
layout_value l = record { len = l.len; mode = l.mode; shape = lengths l.shape; strides = all_signed (lengths l.strides) }

-- the mode that a word names
abbrev pub mode_of : List ℕ → Option CanIndexCheckMode
mode_of word = if bytes_eq word (codes "owned") then Some OwnedMutable else if bytes_eq word (codes "read") then Some ReadOnly else None

-- the layout of four words: the length of the data, the mode, the shape and the strides
abbrev pub layout_of_words : List (List ℕ) → Option DataLayoutValue
layout_of_words (len ∷ mode ∷ shape ∷ strides ∷ []) = do
  len ← number_of len
  mode ← mode_of mode
  shape ← lengths_of shape
  strides ← strides_of strides
  Some (record { len = len; mode = mode; shape = shape; strides = strides })
layout_of_words _ = None

-- the layout of a line's words: `data`, the length of the data, the mode, the shape and the strides
abbrev pub layout_of : List (List ℕ) → Option DataLayoutValue
layout_of [] = None
layout_of (keyword ∷ words) = if bytes_eq keyword (codes "data") then layout_of_words words else None

-- a layout that a program can have: its numbers are ones of the program
pub record IsLayout (layout : DataLayoutValue) : Type 0 where
  pub len : IsUsize layout.len
  pub shape : All IsUsize layout.shape
  pub strides : All IsIsize layout.strides

-- the word of a mode
abbrev pub mode_text : CanIndexCheckMode → List ℕ
mode_text OwnedMutable = codes "owned"
mode_text ReadOnly = codes "read"

-- the words of a layout's line
abbrev pub layout_words : DataLayoutValue → List (List ℕ)
layout_words layout =
    codes "data" ∷ decimal layout.len ∷ mode_text layout.mode ∷ lengths_text layout.shape ∷ strides_text layout.strides ∷ []

-- examples
a_shape_kept : (layout : DataLayout) → lengths layout.shape ≡ 2 ∷ 3 ∷ [] → (layout_value layout).shape ≡ 2 ∷ 3 ∷ []
a_shape_kept layout same = same

a_stride_kept : (layout : DataLayout) → lengths layout.strides ≡ 18446744073709551615 ∷ [] → (layout_value layout).strides ≡ negsuc 0 ∷ []
a_stride_kept layout same = ap all_signed same

mode_misspelled : mode_of (codes "Read") ≡ None
mode_misspelled = refl

two_axes : layout_of (words_of (codes "  data 06 owned 2,3   -3,1"))
    ≡ Some (record { len = 6; mode = OwnedMutable; shape = 2 ∷ 3 ∷ []; strides = negsuc 2 ∷ pos 1 ∷ [] })
two_axes = refl

counts_may_differ : layout_of (words_of (codes "data 6 read 2,3 1"))
    ≡ Some (record { len = 6; mode = ReadOnly; shape = 2 ∷ 3 ∷ []; strides = pos 1 ∷ [] })
counts_may_differ = refl

no_axes : layout_of (words_of (codes "data 1 owned - -")) ≡ Some (record { len = 1; mode = OwnedMutable; shape = []; strides = [] })
no_axes = refl

a_word_missing : layout_of (words_of (codes "data 4 owned 4")) ≡ None
a_word_missing = refl

words_of_two_axes :
    layout_words (record { len = 6; mode = ReadOnly; shape = 2 ∷ 3 ∷ []; strides = negsuc 2 ∷ pos 1 ∷ [] })
    ≡ words_of (codes "data 6 read 2,3 -3,1")
unfolding digits
words_of_two_axes = refl
