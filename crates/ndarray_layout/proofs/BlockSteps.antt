-- Blocks of a layout that lie at steps: each index in a block lies where its source does, and with steps of a block's length no two do.
use Rattle.std.proofs.Common.{◌≡◌, ℕ, suc, ◌+◌, ◌-◌, ◌*◌, ◌<◌, ◌≤◌, ℤ, pos, ◌+ℤ◌, ◌*ℤ◌, true, cond, List, [], ◌∷◌, ◌++◌, length, map}
use Rattle.std.proofs.Common.{take, drop, replicate, nat_lt, refl, sym, ap, ◌∙◌, arith, inl, inr}
use Rattle.std.proofs.Math.Nat.{mul-le-mul_right}
use Rattle.std.proofs.lemmas.Bool.{and_from, and_parts, cases_lt, lt-ltb, ltb-true}
use Rattle.std.proofs.lemmas.Int.{ints}
use Rattle.std.proofs.lemmas.List.{length-append, length-map}
use Rattle.nd_base.specs.Elementwise.{elementwise, products, sums}
use Rattle.nd_base.proofs.Laws.Definitions.{is_index, limit, nonzero_size, offset_of}
use Rattle.nd_base.proofs.Laws.IsIndex.{length_of_index, nonempty_from_index}
use Rattle.nd_base.proofs.Laws.Times.{times_sum, times_times}
use Rattle.ndarray_layout.specs.BlocksView.{block_source, blocks_of, strides_along, strides_of_blocks}
use Rattle.ndarray_layout.specs.Descends.{IsViewOf}
use Rattle.ndarray_layout.specs.KeepsPlaces.{KeepsPlaces}
use Rattle.ndarray_layout.specs.View.{View, IsView}
use Rattle.ndarray_layout.proofs.Laws.KeepsPlaces.{IsViewOf-kept}
use Rattle.ndarray_layout.proofs.Laws.Sources.{IsView-where_some}

-- ---- two lists of axes, one after the other
pub is_index-append : (front back index : List ℕ) → is_index (front ++ back) index ≡ true
    → (is_index front (take (length front) index) ≡ true) × (is_index back (drop (length front) index) ≡ true)
is_index-append [] back index here = (refl, here)
is_index-append (len ∷ front) back [] here = absurd (cc)
is_index-append (len ∷ front) back (i ∷ index) here =
    let parts = and_parts (nat_lt i len) (is_index (front ++ back) index) here in
    let rest = is_index-append front back index parts.1 in
    (and_from (nat_lt i len) (is_index front (take (length front) index)) parts.0 rest.0, rest.1)

pub is_index-joined : (front back index inner : List ℕ) → is_index front index ≡ true → is_index back inner ≡ true
    → is_index (front ++ back) (index ++ inner) ≡ true
is_index-joined [] back [] inner here there = there
is_index-joined [] back (i ∷ index) inner here there = absurd (cc)
is_index-joined (len ∷ front) back [] inner here there = absurd (cc)
is_index-joined (len ∷ front) back (i ∷ index) inner here there =
    let parts = and_parts (nat_lt i len) (is_index front index) here in
    and_from (nat_lt i len) (is_index (front ++ back) (index ++ inner)) parts.0 (is_index-joined front back index inner parts.1 there)

pub offset_of-append : (front back : List ℤ) (index : List ℕ) → length front ≤ length index
    → offset_of (front ++ back) index ≡ offset_of front (take (length front) index) +ℤ offset_of back (drop (length front) index)
offset_of-append [] back index long = omega (arith, ints)
offset_of-append (stride ∷ front) back [] long = absurd (omega arith)
offset_of-append (stride ∷ front) back (i ∷ index) long = omega (arith, ints, offset_of-append front back index (omega arith))

pub length-elementwise : (f : ℕ → ℕ → ℕ) (xs ys : List ℕ) → length xs ≡ length ys → length (elementwise f xs ys) ≡ length xs
length-elementwise f [] ys e = refl
length-elementwise f (x ∷ xs) [] e = absurd (omega arith)
length-elementwise f (x ∷ xs) (y ∷ ys) e = ap suc (length-elementwise f xs ys (omega arith))

-- ---- blocks at steps
-- how many blocks of a length an axis has, the step from one to the next, and the stride: the last block ends within the axis
pub record AreBlocks (count : ℕ → ℕ → ℕ) (step : ℕ → ℕ) (along : ℕ → ℕ → ℤ → ℤ) : Type 0 where
  pub within : (len size : ℕ) → 0 < size → 0 < count len size → (count len size - 1) * step size + size ≤ len
  pub stride : (len size : ℕ) (stride : ℤ) → 2 ≤ count len size → along len size stride ≡ pos (step size) *ℤ stride

-- there is a length of a block for each axis, and a stride
pub record IsForEachAxis (shape block : List ℕ) (strides : List ℤ) : Type 0 where
  pub block_count : length shape ≡ length block
  pub stride_count : length shape ≡ length strides

pub next_axes : {len size : ℕ} {stride : ℤ} {shape block : List ℕ} {strides : List ℤ}
    → IsForEachAxis (len ∷ shape) (size ∷ block) (stride ∷ strides) → IsForEachAxis shape block strides
next_axes each =
    let blocks = each.block_count in
    let strides = each.stride_count in
    record { block_count = omega arith; stride_count = omega arith }

pub length-strides_along : (along : ℕ → ℕ → ℤ → ℤ) (shape block : List ℕ) (strides : List ℤ) → IsForEachAxis shape block strides
    → length (strides_along along shape block strides) ≡ length shape
length-strides_along along [] block strides each = refl
length-strides_along along (len ∷ shape) [] strides each = let count = each.block_count in absurd (omega arith)
length-strides_along along (len ∷ shape) (size ∷ block) [] each = let count = each.stride_count in absurd (omega arith)
length-strides_along along (len ∷ shape) (size ∷ block) (stride ∷ strides) each =
    ap suc (length-strides_along along shape block strides (next_axes each))

module _ (count : ℕ → ℕ → ℕ) (step : ℕ → ℕ) (along : ℕ → ℕ → ℤ → ℤ) (blocks : AreBlocks count step along) where
  -- a coordinate in a block is one of the axis
  below : (len size i j : ℕ) → i < count len size → j < size → i * step size + j < len
  below len size i j here there =
      let last = blocks.within len size (omega arith) (omega arith) in
      let before : i ≤ count len size - 1 = omega arith in
      let steps : i * step size ≤ (count len size - 1) * step size = mul-le-mul_right (step size) before in
      omega arith

  -- and lies where its source does
  offset : (len size i j : ℕ) (stride : ℤ) → i < count len size
      → (pos i *ℤ along len size stride) +ℤ (pos j *ℤ stride) ≡ pos (i * step size + j) *ℤ stride
  offset len size i j stride here = sym (times_sum (i * step size) j stride ∙ ap (λ z. z +ℤ (pos j *ℤ stride)) (sym first))
    where
      first : pos i *ℤ along len size stride ≡ pos (i * step size) *ℤ stride
      first = elim (cases_lt (count len size) 2) [
        | inl one ↦
            let none : i ≡ 0 = omega arith in
            rw none (omega (arith, ints))
        | inr more ↦ ap (λ z. pos i *ℤ z) (blocks.stride len size stride more) ∙ times_times i (step size) stride
      ]

  -- the source of an index in a block
  record SourceKept (shape block : List ℕ) (strides : List ℤ) (index inner : List ℕ) : Type 0 where
    pub within : is_index shape (sums (products index (map step block)) inner) ≡ true
    pub offset : offset_of (strides_along along shape block strides) index +ℤ offset_of strides inner
        ≡ offset_of strides (sums (products index (map step block)) inner)

  source_kept : (shape block : List ℕ) (strides : List ℤ) (index inner : List ℕ) → IsForEachAxis shape block strides
      → (is_index (elementwise count shape block) index ≡ true) × (is_index block inner ≡ true)
      → SourceKept shape block strides index inner
  source_kept [] [] strides [] [] each here = record { within = refl; offset = omega (arith, ints) }
  source_kept [] [] strides [] (j ∷ inner) each here = let inside = here.1 in absurd (cc)
  source_kept [] [] strides (i ∷ index) inner each here = let outer = here.0 in absurd (cc)
  source_kept [] (size ∷ block) strides index inner each here = let count = each.block_count in absurd (omega arith)
  source_kept (len ∷ shape) [] strides index inner each here = let count = each.block_count in absurd (omega arith)
  source_kept (len ∷ shape) (size ∷ block) [] index inner each here = let count = each.stride_count in absurd (omega arith)
  source_kept (len ∷ shape) (size ∷ block) (stride ∷ strides) [] inner each here = let outer = here.0 in absurd (cc)
  source_kept (len ∷ shape) (size ∷ block) (stride ∷ strides) (i ∷ index) [] each here = let inside = here.1 in absurd (cc)
  source_kept (len ∷ shape) (size ∷ block) (stride ∷ strides) (i ∷ index) (j ∷ inner) each here =
      let outer = and_parts (nat_lt i (count len size)) (is_index (elementwise count shape block) index) here.0 in
      let inside = and_parts (nat_lt j size) (is_index block inner) here.1 in
      let block_there = ltb-true i (count len size) outer.0 in
      let first = below len size i j block_there (ltb-true j size inside.0) in
      let rest = source_kept shape block strides index inner (next_axes each) (outer.1, inside.1) in
      let at = i * step size + j in
      record {
        within = and_from (nat_lt at len) (is_index shape (sums (products index (map step block)) inner)) (lt-ltb at len first) rest.within;
        offset = omega (arith, ints, offset len size i j stride block_there, rest.offset);
      }

  -- ---- the view of all indices of all blocks
  module _ (view : View) (v : IsView view) (block : List ℕ) (same : length block ≡ length view.shape) where
    abbrev counts : List ℕ
    counts = elementwise count view.shape block

    abbrev strides : List ℤ
    strides = strides_along along view.shape block view.strides

    abbrev n : ℕ
    n = length (map step block)

    n_is : n ≡ length view.shape
    n_is = length-map block step ∙ same

    counts_count : length counts ≡ n
    counts_count = length-elementwise count view.shape block (sym same) ∙ sym n_is

    each_axis : IsForEachAxis view.shape block view.strides
    each_axis = record { block_count = sym same; stride_count = v.valid.same_count }

    strides_count : length strides ≡ n
    strides_count = length-strides_along along view.shape block view.strides each_axis ∙ sym n_is

    keeps : KeepsPlaces (block_source (map step block)) view (blocks_of counts strides block view)
    keeps index here =
        let parts = rw counts_count at (is_index-append counts block index here) in
        let long = length_of_index (counts ++ block) index here in
        let kept = source_kept view.shape block view.strides (take n index) (drop n index) each_axis parts in
        let some : strides_of_blocks (counts ++ block) (strides ++ view.strides) ≡ strides ++ view.strides =
        ap (λ empty. cond empty (replicate (length (counts ++ block)) (pos 0)) (strides ++ view.strides))
        (nonempty_from_index (counts ++ block) index here) in
        let split = rw strides_count at (offset_of-append strides view.strides index
        (omega (arith, strides_count, counts_count, length-append counts block))) in
        (kept.within, ap (λ z. pos view.start +ℤ z) (ap (λ s. offset_of s index) some ∙ split ∙ kept.offset))

    -- it is a view of the same data, where its size fits
    pub IsViewOf-blocks : nonzero_size (counts ++ block) ≤ limit
        → IsViewOf (block_source (map step block)) view (blocks_of counts strides block view)
    IsViewOf-blocks fits =
        let counts_all : length (counts ++ block) ≡ length (strides ++ view.strides) = omega (
          arith,
          length-append counts block,
          length-append strides view.strides,
          counts_count,
          strides_count,
          same,
          v.valid.same_count,
        ) in
        IsViewOf-kept (IsView-where_some (block_source (map step block)) (counts ++ block) (strides ++ view.strides) v
        (λ some. counts_all) fits keeps) keeps
