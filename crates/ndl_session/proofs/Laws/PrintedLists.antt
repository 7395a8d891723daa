-- Laws of lists: the text of one, with a comma between each two items, is read as that list, and is a word.
use Rattle.std.proofs.Common.{◌≡◌, ◌≢◌, ℕ, ◌<◌, Option, Some, None, List, [], ◌∷◌, get_or, length, map, codes, decimal, refl, sym, ap, ◌∙◌}
use Rattle.std.proofs.Common.{arith}
use Rattle.std.specs.Fmt.{signed_decimal}
use Rattle.std.specs.List.{All}
use Rattle.std.proofs.lemmas.Bool.{false_from_ne_true}
use Rattle.std.proofs.lemmas.List.Elements.{All-head, All-map, All-tail, All-weaker}
use Rattle.std.proofs.lemmas.Slice.Eq.{bytes_eq-Decides}
use Rattle.ndarray_layout.specs.ElementText.{elem_text}
use Rattle.ndl_session.specs.text.Bytes.{comma, space}
use Rattle.ndl_session.specs.text.Lines.{cut_at}
use Rattle.ndl_session.specs.text.Numbers.{IsIsize, IsUsize, number_of, signed_number_of}
use Rattle.ndl_session.specs.text.Printing.{listed}
use Rattle.ndl_session.specs.script.Elements.{IsElement, element_of}
use Rattle.ndl_session.specs.script.Lists.{list_of}
use Rattle.ndl_session.specs.script.Reading.{read_each}
use Rattle.ndl_session.proofs.Laws.PrintedElements.{elem_bytes, element_of-elem_text}
use Rattle.ndl_session.proofs.Laws.PrintedNumbers.{number_of-decimal, signed_number_of-signed_decimal, spells_other}
use Rattle.ndl_session.proofs.text_lemmas.Cuts.{IsAfter, Lacks, lacks, listed_bytes, listed_nonempty, listed_parts}
use Rattle.ndl_session.proofs.text_lemmas.NumberParts.{after_comma, number_bytes, signed_number_bytes}

-- a byte or more, none of them a space or before it
pub record IsWord (text : List ℕ) : Type 0 where
  pub nonempty : 0 < length text
  pub bytes : All (IsAfter space) text

-- texts of items: each is read as its item, and has no comma; neither the empty text nor a minus sign is one
pub record AreItems {A : Type 0} (item_of : List ℕ → Option A) (text_of : A → List ℕ) (Can : A → Type 0) : Type 0 where
  pub read : (x : A) → Can x → item_of (text_of x) ≡ Some x
  pub bytes : (x : A) → Can x → All (IsAfter comma) (text_of x)
  pub no_empty : item_of [] ≡ None
  pub no_minus : item_of (codes "-") ≡ None

nonempty : (text : List ℕ) → text ≢ [] → 0 < length text
nonempty [] some = absurd (some refl)
nonempty (b ∷ bs) some = omega arith

module _ {A : Type 0} {item_of : List ℕ → Option A} {text_of : A → List ℕ} {Can : A → Type 0} (items : AreItems item_of text_of Can) where
  pub item_word : (x : A) → Can x → IsWord (text_of x)
  item_word x can = record {
    nonempty = nonempty (text_of x) (spells_other item_of (text_of x) [] x (items.read x can) items.no_empty);
    bytes = All-weaker (IsAfter comma) (IsAfter space) (λ b r. omega (arith, r)) (text_of x) (items.bytes x can);
  }

  pub list_word : (xs : List A) → All Can xs → IsWord (listed (codes ",") (map text_of xs))
  list_word xs all = record {
    nonempty = listed_nonempty (codes ",") (map text_of xs) (All-map (λ t. 0 < length t) text_of xs
        (All-weaker Can (λ x. 0 < length (text_of x)) (λ x can. (item_word x can).nonempty) xs all));
    bytes = listed_bytes (IsAfter space) 44 (omega arith) (omega arith) (map text_of xs) (All-map (All (IsAfter space)) text_of xs
        (All-weaker Can (λ x. All (IsAfter space) (text_of x)) (λ x can. (item_word x can).bytes) xs all));
  }

  read_each-texts : (xs : List A) → All Can xs → read_each item_of (map text_of xs) ≡ Some xs
  read_each-texts [] all = refl
  read_each-texts (x ∷ xs) all = rw (items.read x (All-head Can x xs all), read_each-texts xs (All-tail Can x xs all)) refl

  pub list_of-listed : (xs : List A) → All Can xs → list_of item_of (listed (codes ",") (map text_of xs)) ≡ Some xs
  list_of-listed [] all = refl
  list_of-listed (x ∷ xs) all =
      let apart = All-map (Lacks comma) text_of (x ∷ xs) (All-weaker Can (λ y. Lacks comma (text_of y))
      (λ y can. lacks (IsAfter comma) comma (λ b r e. omega (arith, r)) (text_of y) (items.bytes y can)) (x ∷ xs) all) in
      let cut = listed_parts comma (text_of x) (map text_of xs) apart in
      let other = spells_other item_of (text_of x) (codes "-") x (items.read x (All-head Can x xs all)) items.no_minus in
      let listed_other = λ (e : listed (codes ",") (map text_of (x ∷ xs)) ≡ codes "-").
      other (ap (λ (texts : List (List ℕ)). get_or texts 0 []) (sym cut ∙ ap (cut_at comma) e)) in
      rw (false_from_ne_true _ (λ t. listed_other ((bytes_eq-Decides _ _).0 t)), cut) (read_each-texts (x ∷ xs) all)

pub lengths_items : AreItems number_of decimal IsUsize
lengths_items = record {
  read = number_of-decimal;
  bytes = λ n can. after_comma (decimal n) (number_bytes (decimal n) n (number_of-decimal n can));
  no_empty = refl;
  no_minus = refl;
}

pub strides_items : AreItems signed_number_of signed_decimal IsIsize
strides_items = record {
  read = signed_number_of-signed_decimal;
  bytes = λ z can. after_comma (signed_decimal z) (signed_number_bytes (signed_decimal z) z (signed_number_of-signed_decimal z can));
  no_empty = refl;
  no_minus = refl;
}

pub elements_items : AreItems element_of elem_text IsElement
elements_items = record { read = element_of-elem_text; bytes = elem_bytes; no_empty = refl; no_minus = refl }
