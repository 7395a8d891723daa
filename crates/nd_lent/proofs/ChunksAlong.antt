-- Chunks along an axis: each is a view of some coordinates of its own, which are those of the split before it and the one after it.
use Rattle.std.proofs.Common.{◌≡◌, ℕ, ◌+◌, ◌-◌, ◌*◌, ◌<◌, ◌≤◌, Bool, List, None, length, get_or, min, set}
use Rattle.std.proofs.Common.{add-one, ap, sym, subst, ◌∙◌, arith}
use Rattle.std.specs.List.{All}
use Rattle.std.proofs.Math.Nat.{min-le_left, min-le_right, mul-le-mul_right, suc-mul}
use Rattle.std.proofs.lemmas.Grind.{div_ceil_times}
use Rattle.std.proofs.lemmas.List.{get_or-set_same, length-set}
use Rattle.ndarray_layout.specs.Descends.{Descends}
use Rattle.ndarray_layout.specs.SplitView.{first_part_of, second_part_of, second_source, split_fault}
use Rattle.ndarray_layout.specs.View.{IsView, View}
use Rattle.ndarray_layout.proofs.Laws.IsIndex.{coordinate_of_index, length_of_index}
use Rattle.ndarray_layout.proofs.Laws.SplitView.{Descends-first_part_of, Descends-second_part_of, no_fault_of_cut}
use Rattle.nd_access.specs.Part.{IsPart}
use Rattle.nd_access.specs.Read.{IsRead}
use Rattle.nd_lent.specs.ChunksAlong.{chunk_count, chunk_view, chunk_views_along}
use Rattle.nd_lent.specs.private.Chunks.{HasChunks}
use Rattle.nd_lent.specs.private.OwnedViews.{OwnsEach}
use Rattle.nd_lent.proofs.AlongAxis.{LieBetween, own_made, read_made}

-- so many more
pub one_more : (number size : ℕ) → (number + 1) * size ≡ number * size + size
one_more number size = ap (λ (k : ℕ). k * size) (add-one number) ∙ suc-mul number size

pub up_to : (size : ℕ) {number end : ℕ} → number ≤ end → number * size ≤ end * size
up_to size within = mul-le-mul_right size within

-- a chunk has a coordinate, where there is one
pub has_coordinate : (shape : List ℕ) (axis size number : ℕ) → 0 < size → number < chunk_count shape axis size
    → number * size < get_or shape axis 0
has_coordinate shape axis size number some below =
    let all = div_ceil_times (get_or shape axis 0) size some in
    let within : (number + 1) * size ≤ chunk_count shape axis size * size = up_to size (omega (arith, below)) in
    omega (arith, one_more number size, within, all.1)

-- one step after another
then : {first second : List ℕ → List ℕ} {old between new : View} → Descends first old between → Descends second between new
    → Descends (λ index. first (second index)) old new
then {second = second} one other = record {
  is_view = other.is_view;
  places = λ index here.
      let at = other.places index here in
      let there = one.places (second index) at.0 in
      (there.0, at.1 ∙ there.1);
  in_bounds = λ len within. other.in_bounds len (one.in_bounds len within);
  distinct = λ distinct. other.distinct (one.distinct distinct);
}

-- ---- the two splits of a chunk
module _ (axis size number : ℕ) (view : View) (there : axis < length view.shape) (some : number * size < get_or view.shape axis 0) where
  abbrev start : ℕ
  start = number * size

  abbrev left : ℕ
  left = get_or view.shape axis 0 - number * size

  abbrev rest : View
  rest = second_part_of axis (number * size) view

  pub first_cut : split_fault view.shape axis (number * size) ≡ None
  first_cut = no_fault_of_cut view.shape axis start there (omega (arith, some))

  there_still : axis < length (set view.shape axis left)
  there_still = omega (arith, there, length-set view.shape axis left)

  many : get_or (set view.shape axis left) axis 0 ≡ left
  many = get_or-set_same view.shape axis left 0 there

  pub second_cut : split_fault (set view.shape axis left) axis (min size left) ≡ None
  second_cut = no_fault_of_cut (set view.shape axis left) axis (min size left) there_still (omega (arith, many, min-le_right size left))

  module _ (is : IsView view) where
    pub Descends-chunk_view : Descends (second_source axis (number * size)) view (chunk_view axis size number view)
    Descends-chunk_view =
        let one = Descends-second_part_of axis start view is first_cut in
        then one (Descends-first_part_of axis (min size left) rest one.is_view second_cut)

    pub lie_in_chunk : LieBetween (second_source axis (number * size)) (chunk_view axis size number view) axis (number * size)
        ((number + 1) * size)
    lie_in_chunk index here =
        let shape = set (set view.shape axis left) axis (min size left) in
        let again : axis < length shape = omega (arith, there_still, length-set (set view.shape axis left) axis (min size left)) in
        let below = coordinate_of_index shape index axis here again in
        let few = get_or-set_same (set view.shape axis left) axis (min size left) 0 there_still in
        let moved = get_or-set_same index axis (start + get_or index axis 0) 0 (omega (arith, again, length_of_index shape index here)) in (
          omega (arith, moved),
          omega (arith, moved, below, few, min-le_left size left, one_more number size),
        )

-- ---- all chunks
module _ {view : View} (axis size : ℕ) (is : IsView view) (has : HasChunks view.shape axis size) where
  abbrev at : ℕ → View
  at number = chunk_view axis size number view

  abbrev source : ℕ → List ℕ → List ℕ
  source number = second_source axis (number * size)

  begins : (number : ℕ) → number < chunk_count view.shape axis size → number * size < get_or view.shape axis 0
  begins number below = has_coordinate view.shape axis size number has.some below

  kept_at : (number : ℕ) → number < chunk_count view.shape axis size → Descends (source number) view (at number)
  kept_at number below = Descends-chunk_view axis size number view has.there (begins number below) is

  pub chunks_read : {marks : List Bool} {items : ℕ} → IsRead marks items view → {views : List View}
      → views ≡ chunk_views_along axis size view → All (IsRead marks items) views
  chunks_read {marks} {items} read are =
      subst (All (IsRead marks items)) (sym are) (read_made axis at (chunk_count view.shape axis size) source kept_at read)

  pub chunks_own : {marks : List Bool} → IsPart marks view → {views : List View} → views ≡ chunk_views_along axis size view
      → OwnsEach marks views
  chunks_own {marks} part are = subst (OwnsEach marks) (sym are)
      (own_made axis at (chunk_count view.shape axis size) source kept_at (λ number. number * size) (λ j k ordered. up_to size ordered)
      (λ number below. lie_in_chunk axis size number view has.there (begins number below) is) part)

-- ---- a chunk as it is cut: a view, the rest of it from a coordinate on, and so many coordinates of that
module _ (axis size number : ℕ) {view whole rest : View} {len count : ℕ} (same : whole ≡ view)
    (second : rest ≡ second_part_of axis (number * size) whole) (counted : count ≡ min size (len - number * size))
    (read : len ≡ get_or view.shape axis 0) where
  rest_is : rest ≡ second_part_of axis (number * size) view
  rest_is = second ∙ ap (second_part_of axis (number * size)) same

  count_is : count ≡ min size (get_or view.shape axis 0 - number * size)
  count_is = counted ∙ ap (λ (n : ℕ). min size (n - number * size)) read

  pub cut_is_chunk : {chunk : View} → chunk ≡ first_part_of axis count rest → chunk ≡ chunk_view axis size number view
  cut_is_chunk first = first ∙ ap (λ (n : ℕ). first_part_of axis n rest) count_is
      ∙ ap (first_part_of axis (min size (get_or view.shape axis 0 - number * size))) rest_is

  pub can_cut : axis < length view.shape → number * size < get_or view.shape axis 0 → split_fault rest.shape axis count ≡ None
  can_cut there some = subst (λ (n : ℕ). split_fault rest.shape axis n ≡ None) (sym count_is)
      (subst (λ (v : View). split_fault v.shape axis (min size (get_or view.shape axis 0 - number * size)) ≡ None) (sym rest_is)
      (second_cut axis size number view there some))

  pub axes_of_rest : length view.shape ≡ length rest.shape
  axes_of_rest = sym (ap (λ (v : View). length v.shape) rest_is
      ∙ length-set view.shape axis (get_or view.shape axis 0 - number * size))
