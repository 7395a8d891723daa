-- Facts about rows laid end to end: for each coordinate of the first axis, the indices that begin with it.
use Rattle.std.proofs.Common.{◌≡◌, ℕ, zero, suc, ◌+◌, ◌*◌, ◌<◌, List, [], ◌∷◌, length, get_or, map, take, refl, sym, ap, ◌∙◌, arith}
use Rattle.std.specs.List.{flat_map, range_with_len}
use Rattle.std.proofs.lemmas.List.{get_or-map, length-append, length-map, map-id}
use Rattle.std.proofs.lemmas.List.Concat.{get_or-flat_map}
use Rattle.std.proofs.lemmas.List.FromFn.{take-map-range_with_len}
use Rattle.nd_base.proofs.Laws.Definitions.{below, indices, size}
use Rattle.nd_base.proofs.Laws.Below.{get_or-below, length-below}

-- the indices that begin with i
abbrev pub row : List (List ℕ) → ℕ → List (List ℕ)
row tails i = map (λ index. i ∷ index) tails

-- the rows of n coordinates from a on
abbrev pub rows : List (List ℕ) → ℕ → ℕ → List (List ℕ)
rows tails a n = flat_map (row tails) (range_with_len a n)

length_rows : (tails : List (List ℕ)) (a n : ℕ) → length (rows tails a n) ≡ n * length tails
length_rows tails a zero = omega arith
length_rows tails a (suc n) =
    omega (arith, length-append (row tails a) (rows tails (a + 1) n), length-map tails (λ index. a ∷ index), length_rows tails (a + 1) n)

-- a shape has as many indices as its size says
pub length_indices : (shape : List ℕ) → length (indices shape) ≡ size shape
length_indices [] = refl
length_indices (len ∷ lens) = length_rows (indices lens) 0 len ∙ ap (λ m. len * m) (length_indices lens)

-- the index at place j of row k
pub get_or_rows : (tails : List (List ℕ)) (len k j : ℕ) (d : List ℕ) → k < len → j < length tails
    → get_or (rows tails 0 len) (k * length tails + j) d ≡ k ∷ get_or tails j d
get_or_rows tails len k j d h l =
    let numbers = below len in
    let number : get_or numbers k 0 ≡ k = get_or-below len k 0 h in
    let front : take k numbers ≡ below k =
    ap (take k) (sym (map-id numbers)) ∙ take-map-range_with_len (λ i. i) 0 len k (omega arith) ∙ map-id (below k) in
    let before = ap (λ xs. length (flat_map (row tails) xs)) front ∙ length_rows tails 0 k in
    ap (λ n. get_or (rows tails 0 len) (n + j) d) (sym before)
    ∙ get_or-flat_map (row tails) numbers k j 0 d (omega (arith, length-below len))
    (omega (arith, l, length-map tails (λ index. get_or numbers k 0 ∷ index)))
    ∙ ap (λ i. get_or (row tails i) j d) number
    ∙ get_or-map (λ index. k ∷ index) tails j d d l
