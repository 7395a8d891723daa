-- Texts between separators: a text without one, and those of a list.
use Rattle.std.proofs.Common.{◌≡◌, ◌≢◌, ℕ, ◌<◌, true, false, eqb, ltb, List, [], ◌∷◌, ◌++◌, length, length-append, refl, ap, ◌∙◌, arith}
use Rattle.std.specs.List.{All, flat_map, list_all}
use Rattle.std.proofs.lemmas.Bool.{eq-eqb, ltb-true, ne_eqb}
use Rattle.std.proofs.lemmas.List.{append-nil}
use Rattle.std.proofs.lemmas.List.Elements.{All-append, All-cons, All-head, All-nil, All-tail, All-weaker}
use Rattle.std.proofs.lemmas.List.Splits.{slice_split_at, slice_split_none}
use Rattle.std.proofs.lemmas.List.Sums.{AllPass-from_list_all}
use Rattle.ndl_session.specs.text.Lines.{cut_at}
use Rattle.ndl_session.specs.text.Printing.{listed}

abbrev pub Lacks : ℕ → List ℕ → Type 0
Lacks separator text = All (λ b. eqb b separator ≡ false) text

pub lacks : (P : ℕ → Type 0) (separator : ℕ) → ((b : ℕ) → P b → b ≢ separator) → (text : List ℕ) → All P text → Lacks separator text
lacks P separator other text all = All-weaker P (λ b. eqb b separator ≡ false) (λ b p. ne_eqb b separator (other b p)) text all

pub part_at : (separator : ℕ) (text rest : List ℕ) → Lacks separator text
    → cut_at separator (text ++ separator ∷ rest) ≡ text ∷ cut_at separator rest
part_at separator text rest none = slice_split_at (λ b. eqb b separator) text separator rest none (eq-eqb separator separator refl)

pub one_part : (separator : ℕ) (text : List ℕ) → Lacks separator text → cut_at separator text ≡ text ∷ []
one_part separator text none = slice_split_none (λ b. eqb b separator) text none

-- what stands in a list is what it is cut into
pub listed_parts : (separator : ℕ) (text : List ℕ) (texts : List (List ℕ)) → All (Lacks separator) (text ∷ texts)
    → cut_at separator (listed (separator ∷ []) (text ∷ texts)) ≡ text ∷ texts
listed_parts separator text [] none = ap (cut_at separator) (append-nil text)
    ∙ one_part separator text (All-head (Lacks separator) text [] none)
listed_parts separator text (another ∷ texts) none =
    part_at separator text _ (All-head (Lacks separator) text (another ∷ texts) none)
    ∙ ap (λ (rest : List (List ℕ)). text ∷ rest)
    (listed_parts separator another texts (All-tail (Lacks separator) text (another ∷ texts) none))

-- ---- bytes after a given one
abbrev pub IsAfter : ℕ → ℕ → Type 0
IsAfter least byte = least < byte

-- by a test that computes
pub spelled : (least : ℕ) (text : List ℕ) → list_all (λ b. ltb least b) text ≡ true → All (IsAfter least) text
spelled least text e =
    All-weaker (λ b. ltb least b ≡ true) (IsAfter least) (λ b t. ltb-true least b t) text (AllPass-from_list_all (λ b. ltb least b) text e)

-- texts and separators alike
pub listed_bytes : (P : ℕ → Type 0) (separator : ℕ) → P separator → P 45 → (texts : List (List ℕ)) → All (All P) texts
    → All P (listed (separator ∷ []) texts)
listed_bytes P separator apart minus [] all = All-cons P 45 [] minus (All-nil P)
listed_bytes P separator apart minus (text ∷ []) all = All-append P text [] (All-head (All P) text [] all) (All-nil P)
listed_bytes P separator apart minus (text ∷ another ∷ texts) all =
    All-append P text _ (All-head (All P) text (another ∷ texts) all)
    (All-cons P separator _ apart (listed_bytes P separator apart minus (another ∷ texts) (All-tail (All P) text (another ∷ texts) all)))

pub listed_nonempty : (separator : List ℕ) (texts : List (List ℕ)) → All (λ text. 0 < length text) texts
    → 0 < length (listed separator texts)
listed_nonempty separator [] all = omega arith
listed_nonempty separator (text ∷ texts) all =
    omega (arith, All-head (λ t. 0 < length t) text texts all, length-append text (flat_map (λ another. separator ++ another) texts))
