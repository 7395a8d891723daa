-- Strides of axes that are iterated over as one, and items that are written anew.
use Rattle.std.proofs.Common.{◌≡◌, ℕ, suc, ◌+◌, ◌-◌, ◌*◌, ◌%◌, ◌^◌, ◌<◌, ◌≤◌, ℤ, pos, ◌*ℤ◌, List, [], ◌∷◌, ◌++◌, length, get_or}
use Rattle.std.proofs.Common.{take, drop, refl}
use Rattle.std.proofs.Common.{append-nil, sym, ap, ap₂, ◌∙◌, arith, subst, Some, w64, length-append}
use Rattle.std.specs.Int.{cast_signed, int_wrap}
use Rattle.std.specs.Int.RustNames.{FitsSigned, unsigned_abs}
use Rattle.std.specs.List.{All}
use Rattle.std.proofs.Math.IntN.{*ℤ_comm}
use Rattle.std.proofs.Math.Nat.{mod-eq_of_lt, mul_comm}
use Rattle.std.proofs.Math.Seq.{take-append_seam}
use Rattle.std.proofs.lemmas.Int.{ints, int_rem_euclid_is, int_wrap_fits, int_wrap-mul_right, wrapping_mul-bits}
use Rattle.std.proofs.lemmas.List.{append_assoc, drop-drop, get_or-drop, length-drop, length-take-le, take-append-drop, take_more}
use Rattle.std.proofs.lemmas.List.Elements.{All-head, All-pop, All-tail}
use Rattle.nd_base.proofs.Laws.Definitions.{all_signed, signed, size}
use Rattle.nd_base.proofs.Laws.Size.{size-push}
use Rattle.nd_base.proofs.Laws.Times.{times_times}
use Rattle.ndarray_layout.specs.private.ReshapeProgress.{Writes, WritesBlock, block_strides, segment}

-- ---- strides of axes that are iterated over as one
pub times-one : (z : ℤ) → pos 1 *ℤ z ≡ z
times-one z = omega (arith, ints)

-- of one axis more, which is read last
pub block_strides-push : (lens : List ℕ) (len : ℕ) (z : ℤ)
    → block_strides (lens ++ len ∷ []) z ≡ block_strides lens (pos len *ℤ z) ++ z ∷ []
block_strides-push [] len z = ap (λ s. s ∷ []) (times-one z)
block_strides-push (n ∷ lens) len z =
    ap₂ (λ s ss. s ∷ ss)
    (ap (λ m. pos m *ℤ z) (size-push lens len ∙ mul_comm len (size lens)) ∙ sym (times_times (size lens) len z))
    (block_strides-push lens len z)

pub length-block_strides : (lens : List ℕ) (z : ℤ) → length (block_strides lens z) ≡ length lens
length-block_strides [] z = refl
length-block_strides (len ∷ lens) z = ap suc (length-block_strides lens z)

-- where they fit, so does that of the last one
stride-fits : (len : ℕ) (lens : List ℕ) (z : ℤ) → All (FitsSigned w64) (block_strides (len ∷ lens) z) → FitsSigned w64 z
stride-fits len [] z fits = subst (FitsSigned w64) (times-one z) (All-head (FitsSigned w64) (pos 1 *ℤ z) [] fits)
stride-fits len (next ∷ lens) z fits =
    stride-fits next lens z (All-tail (FitsSigned w64) (pos (next * size lens) *ℤ z) (block_strides (next ∷ lens) z) fits)

block_strides-wrapped : (lens : List ℕ) (z : ℤ) → All (FitsSigned w64) (block_strides lens z)
    → block_strides lens (int_wrap w64 z) ≡ block_strides lens z
block_strides-wrapped [] z fits = refl
block_strides-wrapped (len ∷ lens) z fits = ap (block_strides (len ∷ lens)) (int_wrap_fits w64 z (stride-fits len lens z fits))

-- ---- items that are written anew
pub writes-none : {after : ℕ} (out : List ℕ) → Writes after [] out out
writes-none out before [] later e count room = e
writes-none out before (x ∷ olds) later e count room = absurd (omega arith)

-- one more in front of those that are written
writes-front : (news : List ℕ) {after now item : ℕ} {out middle others : List ℕ} → now ≡ after + length news → Writes after news out middle
    → Writes now (item ∷ []) middle others → Writes after (item ∷ news) out others
writes-front news at first then before [] later e count room = absurd (omega arith)
writes-front news {item = item} at first then before (x ∷ olds) later e count room =
    let middle = first (before ++ x ∷ []) olds later (e ∙ sym (append_assoc before (x ∷ []) (olds ++ later))) (omega arith) room in
    then before (x ∷ []) (news ++ later) (middle ∙ append_assoc before (x ∷ []) (news ++ later)) refl
    (omega (arith, length-append news later))

-- and others after them
pub writes-through : (news nexts : List ℕ) {now after : ℕ} {out middle others : List ℕ} → now ≡ length nexts + after
    → Writes now news out middle
    → Writes after nexts middle others → Writes after (news ++ nexts) out others
writes-through news nexts at first then before olds later e count room =
    let n = length news in
    let long = length-append news nexts in
    let front = take n olds in
    let back = drop n olds in
    let here : length front ≡ n = length-take-le n olds (omega arith) in
    let there : length back ≡ length nexts = omega (arith, length-drop n olds) in
    let parts : olds ++ later ≡ front ++ (back ++ later) =
    ap (λ xs. xs ++ later) (sym (take-append-drop n olds)) ∙ append_assoc front back later in
    let middle = first before front (back ++ later) (e ∙ ap (λ xs. before ++ xs) parts) here (omega (arith, length-append back later)) in
    then (before ++ news) back later (middle ∙ sym (append_assoc before news (back ++ later))) there room
    ∙ append_assoc before news (nexts ++ later) ∙ ap (λ xs. before ++ xs) (sym (append_assoc news nexts later))

-- ---- a block that is written from its last axis on
-- an axis more in a part of a list
pub segment-push : (start axis : ℕ) (lens : List ℕ) {len : ℕ} {rest : List ℕ} → start ≤ axis → drop axis lens ≡ len ∷ rest
    → segment start (axis + 1) lens ≡ segment start axis lens ++ len ∷ []
segment-push start axis lens {len} {rest} low e =
    let left = drop start lens in
    let at : start + (axis - start) ≡ axis = omega arith in
    let next : axis + 1 - start ≡ axis - start + 1 = omega arith in
    let here : drop (axis - start) left ≡ len ∷ rest = drop-drop (axis - start) start lens ∙ ap (λ n. drop n lens) at ∙ e in
    let within : axis - start < length left = omega (arith, ap length here, length-drop (axis - start) left) in
    let none : axis - start + 0 ≡ axis - start = omega arith in
    ap (λ n. take n left) next ∙ take_more left (axis - start) 0 within
    ∙ ap (λ n. take (axis - start) left ++ n ∷ []) (ap (λ n. get_or left n 0) (sym none) ∙ sym (get_or-drop (axis - start) left 0 0)
    ∙ ap (λ xs. get_or xs 0 0) here)

pub segment-front : (start end : ℕ) (items lens : List ℕ) → start ≤ end → end ≤ length items → drop start items ≡ lens ++ drop end items
    → segment start end items ≡ lens
segment-front start end items lens low high e =
    let count : end - start ≡ length lens = omega (
      arith,
      ap length e,
      length-append lens
          (drop end items),
      length-drop start items,
      length-drop end items,
    ) in
    ap (take (end - start)) e ∙ ap (λ n. take n (lens ++ drop end items)) count ∙ take-append_seam lens (drop end items)

-- the axes up to one have to be written yet but for their last one, which has this stride, and so have those after it theirs
pub record IsPartOfBlock (after : ℕ) (strides : List ℤ) (out lens : List ℕ) (stride : ℕ) (later : ℕ) (others : List ℕ) : Type 0 where
  pub news : List ℕ
  pub count : length news ≡ later
  pub strides_are : strides ≡ block_strides lens (signed stride) ++ all_signed news
  pub fits : All (FitsSigned w64) (block_strides lens (signed stride))
  pub written : Writes after (stride ∷ news) out others

pub part-first : {after stride later : ℕ} {lens out others : List ℕ} → later ≡ 0 → All (FitsSigned w64) (block_strides lens (signed stride))
    → Writes after (stride ∷ []) out others
    → IsPartOfBlock after (block_strides lens (signed stride)) out lens stride later others
part-first {stride = stride} {lens = lens} none fits written = record {
  news = [];
  count = sym none;
  strides_are = sym (append-nil (block_strides lens (signed stride)));
  fits = fits;
  written = written;
}

-- a product in 64 bits
wrap_pos : (n : ℕ) → n < 2 ^ 64 → int_wrap w64 (pos n) ≡ cast_signed w64 n
unfolding int_wrap
wrap_pos n l =
    ap (λ z. cast_signed w64 (unsigned_abs z)) (int_rem_euclid_is (pos n) (pos (2 ^ 64)) (2 ^ 64) 0 n (omega arith) refl
    (omega (arith, ints)))
    ∙ ap (cast_signed w64) (mod-eq_of_lt l)

wrapped : (stride len : ℕ) → stride < 2 ^ 64 → len < 2 ^ 64 → signed ((stride * len) % 2 ^ 64) ≡ int_wrap w64 (pos len *ℤ signed stride)
wrapped stride len l g =
    wrapping_mul-bits w64 stride len l g
    ∙ ap (λ z. int_wrap w64 (signed stride *ℤ z)) (sym (wrap_pos len g))
    ∙ int_wrap-mul_right w64 (signed stride) (pos len)
    ∙ ap (int_wrap w64) (*ℤ_comm (signed stride) (pos len))

pub part-more : {after now stride len later next : ℕ} {strides : List ℤ} {out lens front middle others : List ℕ}
    → IsPartOfBlock after strides out lens stride later middle → lens ≡ front ++ len ∷ []
    → (stride < 2 ^ 64) × (len < 2 ^ 64) → next ≡ later + 1 → now ≡ after + next → Writes now (((stride * len) % 2 ^ 64) ∷ []) middle others
    → IsPartOfBlock after strides out front ((stride * len) % 2 ^ 64) next others
part-more {stride = stride} {len} {front = front} part e (l, g) more_later at written =
    let z = signed stride in
    let more = ap (λ ns. block_strides ns z) e ∙ block_strides-push front len z in
    let fits = (All-pop (FitsSigned w64) (block_strides front (pos len *ℤ z) ++ z ∷ []) (block_strides front (pos len *ℤ z)) (Some z) refl
    (subst (All (FitsSigned w64)) more part.fits)).0 in
    let same : block_strides front (signed ((stride * len) % 2 ^ 64)) ≡ block_strides front (pos len *ℤ z) =
    ap (block_strides front) (wrapped stride len l g) ∙ block_strides-wrapped front (pos len *ℤ z) fits in
    let count = part.count in
    record {
      news = stride ∷ part.news;
      count = omega arith;
      strides_are = part.strides_are ∙ ap (λ ss. ss ++ all_signed part.news) (more ∙ ap (λ ss. ss ++ z ∷ []) (sym same))
          ∙ append_assoc (block_strides front (signed ((stride * len) % 2 ^ 64))) (z ∷ []) (all_signed part.news);
      fits = subst (All (FitsSigned w64)) (sym same) fits;
      written = writes-front (stride ∷ part.news) (omega (arith, at)) part.written written;
    }

pub part-all : {after stride later : ℕ} {strides : List ℤ} {out lens others : List ℕ}
    → IsPartOfBlock after strides out lens stride later others → length lens ≡ 1 → WritesBlock after strides out others
part-all {stride = stride} {lens = lens} part single = record {
  news = stride ∷ part.news;
  strides_are = sym (part.strides_are ∙ ap (λ ss. ss ++ all_signed part.news) (by lens single));
  written = part.written;
}
  where
    by : (lens : List ℕ) → length lens ≡ 1 → block_strides lens (signed stride) ≡ signed stride ∷ []
    by [] single = absurd (omega arith)
    by (len ∷ []) single = ap (λ z. z ∷ []) (times-one (signed stride))
    by (len ∷ next ∷ lens) single = absurd (omega arith)
