-- Facts about the offsets of indices: which lists are indices, how far they lie, and a sum of offsets from an axis on.
use Rattle.std.proofs.Common.{inl, inr, min, ◌≡◌, ℕ, suc, ◌+◌, ◌-◌, ◌*◌, ◌<◌, ◌≤◌, ℤ, pos, negsuc, neg_ℤ, ◌+ℤ◌, ◌*ℤ◌, ◌≤ℤ◌, false, w64}
use Rattle.std.proofs.Common.{List, [], ◌∷◌, length, drop, get_or, refl, ap, ◌∙◌, arith, add-one, drop-cons}
use Rattle.std.specs.Prelude.{nat_lt, FitsSigned}
use Rattle.std.proofs.lemmas.Bool.{and_right, cases_Bool, cases_lt}
use Rattle.std.proofs.lemmas.Int.{ints}
use Rattle.std.proofs.lemmas.List.{drop_all}
use Rattle.nd_base.proofs.Laws.Definitions.{is_index, offset_of, all_signed, limit, magnitude, signed, reach}
use Rattle.nd_base.proofs.Laws.IsIndex.{coordinate_of_index}
use Rattle.std.proofs.lemmas.Nat.{mul-le}

-- a list of another count is no index
pub is_index_of_count : (shape index : List ℕ) → (length shape ≡ length index → ⊥) → is_index shape index ≡ false
is_index_of_count [] [] ne = absurd (ne refl)
is_index_of_count [] (i ∷ index) ne = refl
is_index_of_count (len ∷ shape) [] ne = refl
is_index_of_count (len ∷ shape) (i ∷ index) ne =
    and_right (nat_lt i len) (is_index shape index) (is_index_of_count shape index (λ e. ne (omega arith)))

-- nor is one with a coordinate past the end of its axis
pub is_index_of_coordinate : (shape index : List ℕ) (axis : ℕ) → axis < length shape → get_or shape axis 0 ≤ get_or index axis 0
    → is_index shape index ≡ false
is_index_of_coordinate shape index axis l past = elim (cases_Bool (is_index shape index)) [
  | inl here ↦ absurd (omega (arith, coordinate_of_index shape index axis here l))
  | inr none ↦ none
]

-- how far a coordinate lies from the first one
abbrev pub coordinate_offset : ℕ → ℤ → ℕ
coordinate_offset coordinate stride = coordinate * magnitude stride

-- a coordinate's offset is that far on one side or the other
pub coordinate_offset_bounds : (coordinate : ℕ) (stride : ℤ)
    → (neg_ℤ (pos (coordinate_offset coordinate stride)) ≤ℤ (pos coordinate *ℤ stride))
    × ((pos coordinate *ℤ stride) ≤ℤ pos (coordinate_offset coordinate stride))
coordinate_offset_bounds coordinate (pos s) = (omega (arith, ints), omega (arith, ints))
coordinate_offset_bounds coordinate (negsuc s) = (omega (arith, ints), omega (arith, ints))

-- a coordinate below the length lies no farther than the axis reaches
pub coordinate_offset_le : (len coordinate : ℕ) (stride : ℤ) → coordinate < len → coordinate_offset coordinate stride ≤ reach len stride
coordinate_offset_le len coordinate stride h = mul-le coordinate (magnitude stride) (len - 1) (magnitude stride) (omega arith) (omega arith)

-- a sum of offsets so far, and a coordinate to be added to it: the coordinate and what comes after it lie no farther than `whole`
pub record IsNextPart (sum : ℤ) (coordinate : ℕ) (stride : ℤ) (rest whole : ℕ) : Type 0 where
  pub far : coordinate_offset coordinate stride + rest ≤ whole
  pub low : pos whole ≤ℤ (sum +ℤ pos limit)
  pub high : (sum +ℤ pos whole) ≤ℤ pos limit

-- so that offset fits, and so does the sum with it, which leaves room for the rest
pub record IsAdded (sum own : ℤ) (rest : ℕ) : Type 0 where
  pub part : FitsSigned w64 own
  pub whole : FitsSigned w64 (sum +ℤ own)
  pub low : pos rest ≤ℤ ((sum +ℤ own) +ℤ pos limit)
  pub high : ((sum +ℤ own) +ℤ pos rest) ≤ℤ pos limit

pub added : {sum : ℤ} {coordinate : ℕ} {stride : ℤ} {rest whole : ℕ} → IsNextPart sum coordinate stride rest whole
    → IsAdded sum (pos coordinate *ℤ stride) rest
added {coordinate = coordinate} {stride = stride} next =
    let bounds = coordinate_offset_bounds coordinate stride in
    record {
      part = omega (arith, ints, bounds, next.far, next.low, next.high);
      whole = omega (arith, ints, bounds, next.far, next.low, next.high);
      low = omega (arith, ints, bounds, next.far, next.low);
      high = omega (arith, ints, bounds, next.far, next.high);
    }

-- the offset from axis k on
abbrev pub offset_from : List ℕ → List ℕ → ℕ → ℤ
offset_from strides index k = offset_of (all_signed (drop k strides)) (drop k index)

pub offset_from_step : (strides index : List ℕ) (k : ℕ) → k < length index → k < length strides
    → offset_from strides index k ≡ (pos (get_or index k 0) *ℤ signed (get_or strides k 0)) +ℤ offset_from strides index (k + 1)
offset_from_step strides index k h g =
    rw add-one (
    ap (λ s. offset_of (all_signed (drop k strides)) s) (drop-cons index k 0 h)
    ∙ ap (λ s. offset_of (all_signed s) (get_or index k 0 ∷ drop (suc k) index)) (drop-cons strides k 0 g)
    )

offset_of_none : (index : List ℕ) → offset_of [] index ≡ pos 0
offset_of_none [] = refl
offset_of_none (i ∷ index) = refl

-- past the last axis it is 0
pub offset_from_end : (strides index : List ℕ) (k : ℕ) → min (length index) (length strides) ≤ k → offset_from strides index k ≡ pos 0
offset_from_end strides index k h =
    elim (cases_lt k (length index)) [
      | inl l ↦
          let none : drop k strides ≡ [] = drop_all k strides (omega arith) in
          ap (λ s. offset_of (all_signed s) (drop k index)) none ∙ offset_of_none (drop k index)
      | inr l ↦ ap (λ s. offset_of (all_signed (drop k strides)) s) (drop_all k index l)
    ]
