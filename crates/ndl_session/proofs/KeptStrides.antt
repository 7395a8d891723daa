-- Strides that are kept as the numbers of the same bits are read as they were spelled.
use Rattle.std.proofs.Common.{◌≡◌, ℕ, ℤ, Bool, true, false, cond, Option, Some, None, List, [], ◌∷◌, codes, refl, ap, ◌∙◌, w64}
use Rattle.std.specs.Option.{option_map}
use Rattle.std.specs.Str.{bytes_eq}
use Rattle.std.proofs.lemmas.Int.{to_z-of_z}
use Rattle.ndarray_layout.specs.Signed.{all_signed, unsigned}
use Rattle.ndl_session.specs.text.Bytes.{comma}
use Rattle.ndl_session.specs.text.Lines.{cut_at}
use Rattle.ndl_session.specs.text.Numbers.{IsIsize, signed_number_of}
use Rattle.ndl_session.specs.script.Lists.{list_of, stride_of, strides_of}
use Rattle.ndl_session.specs.script.Reading.{◌>>=◌, read_each}
use Rattle.ndl_session.proofs.text_lemmas.NumberParts.{signed_number_fits}

-- of one stride and those after it
one_more : (o : Option ℤ) (rest : Option (List ℕ)) → ((z : ℤ) → o ≡ Some z → IsIsize z)
    → option_map all_signed (option_map unsigned o >>= λ stride. rest >>= λ strides. Some (stride ∷ strides))
    ≡ (o >>= λ z. option_map all_signed rest >>= λ zs. Some (z ∷ zs))
one_more None rest fits = refl
one_more (Some z) None fits = refl
one_more (Some z) (Some strides) fits = ap (λ y. Some (y ∷ all_signed strides)) (to_z-of_z w64 z (fits z refl))

each_signed : (texts : List (List ℕ)) → option_map all_signed (read_each stride_of texts) ≡ read_each signed_number_of texts
each_signed [] = refl
each_signed (text ∷ texts) =
    one_more (signed_number_of text) (read_each stride_of texts) (signed_number_fits text)
    ∙ ap (λ rest. signed_number_of text >>= λ z. rest >>= λ zs. Some (z ∷ zs)) (each_signed texts)

in_list : (empty : Bool) (texts : List (List ℕ)) → option_map all_signed (cond empty (Some []) (read_each stride_of texts))
    ≡ cond empty (Some []) (read_each signed_number_of texts)
in_list true texts = refl
in_list false texts = each_signed texts

pub strides_signed : (word : List ℕ) → option_map all_signed (list_of stride_of word) ≡ strides_of word
strides_signed word = in_list (bytes_eq word (codes "-")) (cut_at comma word)
