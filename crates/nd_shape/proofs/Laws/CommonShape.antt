-- Laws of the shape that two shapes have in common: the order and the grouping of shapes don't matter, success included.
use Rattle.std.proofs.Common.{◌≡◌, ℕ, zero, suc, ◌+◌, ◌-◌, ◌≤◌, max, cond, Option, Some, None, is_some, List, [], ◌∷◌, ◌++◌}
use Rattle.std.proofs.Common.{length, replicate, refl, sym, ap, ◌∙◌, arith, append_assoc, length-append}
use Rattle.std.specs.Option.{option_map, option_and_then}
use Rattle.std.proofs.lemmas.Bool.Decides.{nat_tests}
use Rattle.std.proofs.lemmas.List.{length-replicate, replicate-append-replicate}
use Rattle.nd_base.specs.declared.error.ErrorKind.TheVariants.{IncompatibleShape}
use Rattle.nd_base.proofs.Laws.Options.{and_then-option_map, and_then_same, option_map-option_map, option_map_same}
use Rattle.nd_shape.specs.CommonShape.{common_length, common_lengths, padded, common_shape, common_shape_fault}

-- ---- one length
-- a length has itself in common with itself
pub common_with_same : (len other : ℕ) → len ≡ other → common_length len other ≡ Some len
common_with_same len other e = grind (arith, nat_tests)

-- and any length with 1
pub common_with_one : (len : ℕ) → common_length len 1 ≡ Some len
common_with_one len = grind (arith, nat_tests)

common_length-commutes : (len other : ℕ) → common_length len other ≡ common_length other len
common_length-commutes len other = grind (arith, nat_tests)

common_length-associates : (a b c : ℕ)
    → option_and_then (λ n. common_length n c) (common_length a b) ≡ option_and_then (λ n. common_length a n) (common_length b c)
common_length-associates a b c = grind (arith, nat_tests)

-- ---- as many lengths on both sides
-- a length before others, where both are there
abbrev joined : Option ℕ → Option (List ℕ) → Option (List ℕ)
joined first rest = option_and_then (λ len. option_map (λ lens. len ∷ lens) rest) first

joined_to_none : (o : Option ℕ) → joined o None ≡ None
joined_to_none None = refl
joined_to_none (Some len) = refl

common_lengths-commutes : (lens others : List ℕ) → length lens ≡ length others → common_lengths lens others ≡ common_lengths others lens
common_lengths-commutes [] [] e = refl
common_lengths-commutes [] (other ∷ others) e = absurd (omega arith)
common_lengths-commutes (len ∷ lens) [] e = absurd (omega arith)
common_lengths-commutes (len ∷ lens) (other ∷ others) e =
    ap (λ o. joined o (common_lengths lens others)) (common_length-commutes len other)
    ∙ ap (joined (common_length other len)) (common_lengths-commutes lens others (omega arith))

common_lengths-idempotent : (lens : List ℕ) → common_lengths lens lens ≡ Some lens
common_lengths-idempotent [] = refl
common_lengths-idempotent (len ∷ lens) =
    ap (λ o. joined o (common_lengths lens lens)) (common_with_same len len refl)
    ∙ ap (joined (Some len)) (common_lengths-idempotent lens)

-- a third list joins part by part, from either side
third_after : (o : Option ℕ) (p : Option (List ℕ)) (c : ℕ) (cs : List ℕ)
    → option_and_then (λ s. common_lengths s (c ∷ cs)) (joined o p)
    ≡ joined (option_and_then (λ n. common_length n c) o) (option_and_then (λ s. common_lengths s cs) p)
third_after None p c cs = refl
third_after (Some n) None c cs = sym (joined_to_none (common_length n c))
third_after (Some n) (Some s) c cs = refl

third_before : (a : ℕ) (as' : List ℕ) (o : Option ℕ) (p : Option (List ℕ))
    → option_and_then (λ s. common_lengths (a ∷ as') s) (joined o p)
    ≡ joined (option_and_then (λ n. common_length a n) o) (option_and_then (λ s. common_lengths as' s) p)
third_before a as' None p = refl
third_before a as' (Some n) None = sym (joined_to_none (common_length a n))
third_before a as' (Some n) (Some s) = refl

common_lengths-associates : (xs ys zs : List ℕ) → length xs ≡ length ys → length ys ≡ length zs
    → option_and_then (λ s. common_lengths s zs) (common_lengths xs ys) ≡ option_and_then (λ s. common_lengths xs s) (common_lengths ys zs)
common_lengths-associates [] [] [] e f = refl
common_lengths-associates [] [] (z ∷ zs) e f = absurd (omega arith)
common_lengths-associates [] (y ∷ ys) zs e f = absurd (omega arith)
common_lengths-associates (x ∷ xs) [] zs e f = absurd (omega arith)
common_lengths-associates (x ∷ xs) (y ∷ ys) [] e f = absurd (omega arith)
common_lengths-associates (x ∷ xs) (y ∷ ys) (z ∷ zs) e f =
    third_after (common_length x y) (common_lengths xs ys) z zs
    ∙ ap (λ o. joined o (option_and_then (λ s. common_lengths s zs) (common_lengths xs ys))) (common_length-associates x y z)
    ∙ ap (joined (option_and_then (λ n. common_length x n) (common_length y z)))
    (common_lengths-associates xs ys zs (omega arith) (omega arith))
    ∙ sym (third_before x xs (common_length y z) (common_lengths ys zs))

-- what is common to two lists begins with what their first lengths have in common
pub record Joined (first : Option ℕ) (rest : Option (List ℕ)) (common : List ℕ) : Type 0 where
  pub len : ℕ
  pub lens : List ℕ
  pub is_first : first ≡ Some len
  pub is_rest : rest ≡ Some lens
  pub same : len ∷ lens ≡ common

pub joined_parts : (o : Option ℕ) (p : Option (List ℕ)) (common : List ℕ) → joined o p ≡ Some common
    → Joined o p common
joined_parts None p common h = absurd (cc)
joined_parts (Some n) None common h = absurd (cc)
joined_parts (Some n) (Some s) common h = record { len = n; lens = s; is_first = refl; is_rest = refl; same = cc }

common_lengths_count : (lens others s : List ℕ) → length lens ≡ length others → common_lengths lens others ≡ Some s → length s ≡ length lens
common_lengths_count [] others s e h =
    let same : [] ≡ s = cc in
    ap length (sym same)
common_lengths_count (len ∷ lens) [] s e h = absurd (omega arith)
common_lengths_count (len ∷ lens) (other ∷ others) s e h =
    let parts = joined_parts (common_length len other) (common_lengths lens others) s h in
    ap length (sym parts.same) ∙ ap suc (common_lengths_count lens others parts.lens (omega arith) parts.is_rest)

-- ---- lengths of 1 in front
-- ones before both lists stay before what they have in common
common_after_ones : (n : ℕ) (lens others : List ℕ)
    → common_lengths (replicate n 1 ++ lens) (replicate n 1 ++ others) ≡ option_map (λ s. replicate n 1 ++ s) (common_lengths lens others)
common_after_ones zero lens others = by (common_lengths lens others)
  where
    by : (o : Option (List ℕ)) → o ≡ option_map (λ s. [] ++ s) o
    by None = refl
    by (Some s) = refl
common_after_ones (suc n) lens others =
    ap (joined (Some 1)) (common_after_ones n lens others)
    ∙ option_map-option_map (λ s. 1 ∷ s) (λ s. replicate n 1 ++ s) (common_lengths lens others)

-- with ones in front there are as many
pub length-padded : (count : ℕ) (shape : List ℕ) → length shape ≤ count → length (padded count shape) ≡ count
length-padded count shape h =
    omega (arith, length-append (replicate (count - length shape) 1) shape, length-replicate {A = ℕ} (count - length shape) 1)

ones_before_ones : (m n : ℕ) (shape : List ℕ) → replicate (m + n) 1 ++ shape ≡ replicate m 1 ++ (replicate n 1 ++ shape)
ones_before_ones m n shape = ap (λ ones. ones ++ shape) (sym (replicate-append-replicate m n 1))
    ∙ append_assoc (replicate m 1) (replicate n 1) shape

-- ones in front up to a count, and then to a greater one
padded_more : (n m : ℕ) (shape : List ℕ) → length shape ≤ n → n ≤ m → padded m shape ≡ replicate (m - n) 1 ++ padded n shape
padded_more n m shape h g =
    let parts : m - length shape ≡ (m - n) + (n - length shape) = omega arith in
    ap (λ k. replicate k 1 ++ shape) parts ∙ ones_before_ones (m - n) (n - length shape) shape

-- the common shape has the greater count of axes
pub common_shape_count : (shape other s : List ℕ) → common_shape shape other ≡ Some s → length s ≡ max (length shape) (length other)
common_shape_count shape other s h =
    let n = max (length shape) (length other) in
    let one = length-padded n shape (omega arith) in
    let two = length-padded n other (omega arith) in
    common_lengths_count (padded n shape) (padded n other) s (one ∙ sym two) h ∙ one

-- with more ones in front of both it is the same, with as many in front
common_shape_at : (n : ℕ) (shape other : List ℕ) → length shape ≤ n → length other ≤ n
    → common_lengths (padded n shape) (padded n other) ≡ option_map (padded n) (common_shape shape other)
common_shape_at n shape other h g =
    let m = max (length shape) (length other) in
    ap (λ xs. common_lengths xs (padded n other)) (padded_more m n shape (omega arith) (omega arith))
    ∙ ap (common_lengths (replicate (n - m) 1 ++ padded m shape)) (padded_more m n other (omega arith) (omega arith))
    ∙ common_after_ones (n - m) (padded m shape) (padded m other)
    ∙ option_map_same (common_shape shape other) (λ s e. ap (λ k. replicate (n - k) 1 ++ s) (sym (common_shape_count shape other s e)))

-- ---- the laws
-- in either order
pub common_shape-commutes : (shape other : List ℕ) → common_shape shape other ≡ common_shape other shape
common_shape-commutes shape other =
    let n = max (length shape) (length other) in
    let m = max (length other) (length shape) in
    let same : n ≡ m = omega arith in
    let one = length-padded n shape (omega arith) in
    let two = length-padded n other (omega arith) in
    common_lengths-commutes (padded n shape) (padded n other) (one ∙ sym two)
    ∙ ap (λ k. common_lengths (padded k other) (padded k shape)) same

pub common_shape_fault-commutes : (shape other : List ℕ) → common_shape_fault shape other ≡ common_shape_fault other shape
common_shape_fault-commutes shape other = ap (λ o. cond (is_some o) None (Some IncompatibleShape)) (common_shape-commutes shape other)

-- a shape with itself is itself
pub common_shape-idempotent : (shape : List ℕ) → common_shape shape shape ≡ Some shape
common_shape-idempotent shape =
    let n = max (length shape) (length shape) in
    let none : n - length shape ≡ 0 = omega arith in
    ap (λ k. common_lengths (replicate k 1 ++ shape) (replicate k 1 ++ shape)) none
    ∙ common_lengths-idempotent shape

-- of three shapes, all of one count
three_at : (n : ℕ) (xs ys zs : List ℕ) → n ≡ max (max (length xs) (length ys)) (length zs)
    → option_and_then (λ s. common_shape s zs) (common_shape xs ys)
    ≡ option_and_then (λ s. common_lengths s (padded n zs)) (common_lengths (padded n xs) (padded n ys))
three_at n xs ys zs e =
    and_then_same (common_shape xs ys) (λ s h.
    let count = ap (λ k. max k (length zs)) (common_shape_count xs ys s h) ∙ sym e in
    ap (λ k. common_lengths (padded k s) (padded k zs)) count)
    ∙ sym (and_then-option_map (λ s. common_lengths s (padded n zs)) (padded n) (common_shape xs ys))
    ∙ ap (option_and_then (λ s. common_lengths s (padded n zs))) (sym (common_shape_at n xs ys (omega arith) (omega arith)))

-- three shapes have one in common however they are grouped, or none
pub common_shape-associates : (xs ys zs : List ℕ)
    → option_and_then (λ s. common_shape s zs) (common_shape xs ys) ≡ option_and_then (λ s. common_shape xs s) (common_shape ys zs)
common_shape-associates xs ys zs =
    let n = max (max (length xs) (length ys)) (length zs) in
    let px = padded n xs in
    let py = padded n ys in
    let pz = padded n zs in
    let cx : length px ≡ n = length-padded n xs (omega arith) in
    let cy : length py ≡ n = length-padded n ys (omega arith) in
    let cz : length pz ≡ n = length-padded n zs (omega arith) in
    three_at n xs ys zs refl
    ∙ common_lengths-associates px py pz (cx ∙ sym cy) (cy ∙ sym cz)
    ∙ and_then_same (common_lengths py pz)
    (λ s h. common_lengths-commutes px s (cx ∙ sym (common_lengths_count py pz s (cy ∙ sym cz) h ∙ cy)))
    ∙ sym (three_at n ys zs xs (omega arith))
    ∙ and_then_same (common_shape ys zs) (λ s h. common_shape-commutes s xs)
