-- What readings have in common: one after another, and item by item.
use Rattle.std.specs.Prelude.{◌≡◌, ℕ, zero, suc, ◌+◌, Option, Some, None, Result, Ok, Err, List, [], ◌∷◌, codes, length, refl}
use Rattle.std.specs.Option.{option_and_then}

-- a reading and then the next one, which may depend on what was read; nothing where one of them can't be read
infixl 10 ◌>>=◌
abbrev pub ◌>>=◌ : {A B : Type 0} → Option A → (A → Option B) → Option B
o >>= f = option_and_then f o

-- what each text spells, in order; nothing where one of them can't be read
abbrev pub read_each : {A : Type 0} → (List ℕ → Option A) → List (List ℕ) → Option (List A)
read_each item_of [] = Some []
read_each item_of (text ∷ texts) = do
  item ← item_of text
  items ← read_each item_of texts
  Some (item ∷ items)

-- what is made of two readings; nothing where one of them can't be read
abbrev pub of_both : {A B C : Type 0} → (A → B → C) → Option A → Option B → Option C
of_both together (Some first) (Some second) = Some (together first second)
of_both together _ _ = None

-- two readings with faults: what is made of both values, or else the first fault
abbrev pub both : {A B C E : Type 0} → (A → B → C) → Result A E → Result B E → Result C E
both together (Ok first) (Ok second) = Ok (together first second)
both together (Ok first) (Err fault) = Err fault
both together (Err fault) second = Err fault

-- examples, where a text spells its length, and the number 0 isn't to be read
abbrev nonzero : ℕ → Option ℕ
nonzero zero = None
nonzero (suc n) = Some (suc n)

abbrev length_of : List ℕ → Option ℕ
length_of text = nonzero (length text)

both_read : (Some 2 >>= λ n. nonzero (n + 1)) ≡ Some 3
both_read = refl

second_unread : (nonzero 2 >>= λ n. nonzero 0) ≡ None
second_unread = refl

of_two : of_both (λ n m. n + m) (Some 2) (nonzero 1) ≡ Some 3
of_two = refl

of_one : of_both (λ n m. n + m) (Some 2) (nonzero 0) ≡ None
of_one = refl

two_texts : read_each length_of (codes "ab" ∷ codes "c" ∷ []) ≡ Some (2 ∷ 1 ∷ [])
two_texts = refl

no_texts : read_each length_of [] ≡ Some []
no_texts = refl

one_unread : read_each length_of (codes "ab" ∷ [] ∷ []) ≡ None
one_unread = refl

two_values : both {E = ℕ} (λ n m. n + m) (Ok 2) (Ok 3) ≡ Ok 5
two_values = refl

two_faults : both {A = ℕ} {B = ℕ} {E = ℕ} (λ n m. n + m) (Err 7) (Err 8) ≡ Err 7
two_faults = refl
