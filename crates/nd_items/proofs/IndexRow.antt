-- A row of indices: each of its coordinates makes an index, which the flat index counts once.
use Rattle.std.proofs.Common.{◌≡◌, ℕ, zero, suc, ◌+◌, ◌-◌, ◌<◌, ◌≤◌, true, List, [], ◌∷◌, get_or, length, set}
use Rattle.std.proofs.Common.{refl, sym, ap, subst, ◌∙◌, arith, inl, inr, replicate}
use Rattle.std.specs.List.{All}
use Rattle.std.specs.Prelude.{nat_lt}
use Rattle.std.proofs.lemmas.Bool.{and_from, and_parts, cases_Bool, lt-ltb, ltb-true}
use Rattle.std.proofs.lemmas.List.{set-get_or}
use Rattle.std.proofs.lemmas.List.Elements.{All-head}
use Rattle.ndarray_layout.specs.declared.Order.TheVariants.{RowMajor}
use Rattle.ndarray_layout.specs.FlatIndex.{flat_index, index_of_flat}
use Rattle.ndarray_layout.specs.Indices.{is_index}
use Rattle.ndarray_layout.specs.IndicesLeft.{indices_left}
use Rattle.ndarray_layout.specs.Size.{is_empty, size}
use Rattle.ndarray_layout.proofs.Laws.FlatIndex.{flat_index-index_of_flat, flat_index-lt-size, index_of_flat-flat_index}
use Rattle.ndarray_layout.proofs.Laws.FlatIndex.{is_index-index_of_flat}
use Rattle.ndarray_layout.proofs.Laws.IndicesLeft.{indices_left-more}
use Rattle.ndarray_layout.proofs.Laws.IsIndex.{is_index-zeros, length_of_index}
use Rattle.ndarray_layout.proofs.Laws.Size.{size_of_empty}
use Rattle.nd_items.specs.declared.next_index.InRow.{InRow}
use Rattle.nd_items.specs.private.IndexRow.{IsRow, StandsInRow, left_from, row_len, row_start, with_last}

-- ---- another last coordinate
-- the flat index counts it once
flat_at : (shape index : List ℕ) (last coordinate : ℕ) → length shape ≡ last + 1 → length index ≡ last + 1
    → flat_index shape (set index last coordinate) ≡ flat_index shape (set index last 0) + coordinate
flat_at [] index last coordinate axes many = absurd (let no : ⊥ = omega (arith, axes) in no)
flat_at (len ∷ shape) [] last coordinate axes many = absurd (let no : ⊥ = omega (arith, many) in no)
flat_at (len ∷ []) (i ∷ []) zero coordinate axes many = omega arith
flat_at (len ∷ []) (i ∷ j ∷ index) zero coordinate axes many = absurd (let no : ⊥ = omega (arith, many) in no)
flat_at (len ∷ more ∷ shape) (i ∷ index) zero coordinate axes many = absurd (let no : ⊥ = omega (arith, axes) in no)
flat_at (len ∷ shape) (i ∷ index) (suc last) coordinate axes many =
    let rest = flat_at shape index last coordinate (omega (arith, axes)) (omega (arith, many)) in omega (arith, rest)

-- below the length of the axis it makes an index
index_at : (shape index : List ℕ) (last coordinate : ℕ) → length shape ≡ last + 1 → is_index shape index ≡ true
    → coordinate < get_or shape last 1 → is_index shape (set index last coordinate) ≡ true
index_at [] index last coordinate axes here below = absurd (let no : ⊥ = omega (arith, axes) in no)
index_at (len ∷ shape) [] last coordinate axes here below = absurd (cc)
index_at (len ∷ []) (i ∷ []) zero coordinate axes here below = and_from (nat_lt coordinate len) true (lt-ltb coordinate len below) refl
index_at (len ∷ []) (i ∷ j ∷ index) zero coordinate axes here below =
    let many = length_of_index (len ∷ []) (i ∷ j ∷ index) here in absurd (let no : ⊥ = omega (arith, many) in no)
index_at (len ∷ more ∷ shape) (i ∷ index) zero coordinate axes here below = absurd (let no : ⊥ = omega (arith, axes) in no)
index_at (len ∷ shape) (i ∷ index) (suc last) coordinate axes here below =
    let parts = and_parts (nat_lt i len) (is_index shape index) here in
    and_from (nat_lt i len) (is_index shape (set index last coordinate)) parts.0
    (index_at shape index last coordinate (omega (arith, axes)) parts.1 below)

-- that of an index is below it
below_at : (shape index : List ℕ) (last : ℕ) → length shape ≡ last + 1 → is_index shape index ≡ true
    → get_or index last 0 < get_or shape last 1
below_at [] index last axes here = absurd (let no : ⊥ = omega (arith, axes) in no)
below_at (len ∷ shape) [] last axes here = absurd (cc)
below_at (len ∷ shape) (i ∷ index) zero axes here = ltb-true i len (and_parts (nat_lt i len) (is_index shape index) here).0
below_at (len ∷ shape) (i ∷ index) (suc last) axes here =
    below_at shape index last (omega (arith, axes)) (and_parts (nat_lt i len) (is_index shape index) here).1

-- an index of its row
pub record InRowAt (shape index : List ℕ) (coordinate : ℕ) : Type 0 where
  pub here : is_index shape (with_last index coordinate) ≡ true
  pub flat : flat_index shape (with_last index coordinate) ≡ row_start shape index + coordinate

pub in_row : (shape index : List ℕ) (coordinate : ℕ) → is_index shape index ≡ true → coordinate < row_len shape
    → InRowAt shape index coordinate
in_row [] [] coordinate here below = record { here = refl; flat = omega (arith, below) }
in_row [] (i ∷ index) coordinate here below = absurd (cc)
in_row (len ∷ shape) index coordinate here below =
    let many = length_of_index (len ∷ shape) index here in
    let axes : length (len ∷ shape) ≡ length index - 1 + 1 = omega (arith, many) in
    let same = ap (λ n. get_or (len ∷ shape) (n - 1) 1) many in
    record {
      here = index_at (len ∷ shape) index (length index - 1) coordinate axes here (omega (arith, below, same));
      flat = flat_at (len ∷ shape) index (length index - 1) coordinate axes (omega (arith, many));
    }

-- the last coordinate
abbrev pub last_of : List ℕ → ℕ
last_of index = get_or index (length index - 1) 0

pub last_below : (shape index : List ℕ) → is_index shape index ≡ true → last_of index < row_len shape
last_below [] [] here = omega arith
last_below [] (i ∷ index) here = absurd (cc)
last_below (len ∷ shape) index here =
    let many = length_of_index (len ∷ shape) index here in
    let same = ap (λ n. get_or (len ∷ shape) (n - 1) 1) many in
    let below = below_at (len ∷ shape) index (length index - 1) (omega (arith, many)) here in omega (arith, below, same)

-- ---- the last index of a row
module _ (shape index : List ℕ) (here : is_index shape index ≡ true) {len : ℕ} (whole : len ≡ row_len shape) where
  pub some_in_row : 1 ≤ len
  some_in_row = let below = last_below shape index here in omega (arith, below, whole)

  module _ {last : List ℕ} (is : last ≡ with_last index (len - 1)) where
    end : InRowAt shape index (len - 1)
    end = in_row shape index (len - 1) here (omega (arith, some_in_row, whole))

    pub last_here : is_index shape last ≡ true
    last_here = ap (is_index shape) is ∙ end.here

    pub last_counts : flat_index shape last + 1 ≡ row_start shape index + len
    last_counts = let flat = ap (flat_index shape) is ∙ end.flat in omega (arith, flat, some_in_row)

-- ---- at an index
module _ (shape index : List ℕ) (here : is_index shape index ≡ true) where
  flat_here : flat_index shape index ≡ row_start shape index + last_of index
  flat_here =
      ap (flat_index shape) (sym (set-get_or index (length index - 1) 0))
      ∙ (in_row shape index (last_of index) here (last_below shape index here)).flat

  -- its row ends before the indices do
  pub row_within : row_start shape index + row_len shape ≤ size shape
  row_within =
      let below = last_below shape index here in
      let end = in_row shape index (row_len shape - 1) here (omega (arith, below)) in
      let fits = flat_index-lt-size shape (with_last index (row_len shape - 1)) end.here in omega (arith, fits, end.flat)

  -- with n left the iterator stands there
  module _ (at : InRow) (left : ℕ) (last : at.last ≡ last_of index) (len : at.len ≡ row_len shape)
      (counts : flat_index shape index + left ≡ size shape) where
    pub fits_left : at.len - at.last ≤ left
    fits_left = omega (arith, flat_here, row_within, last, len, counts)

    pub stands_at : at.after ≡ left - (at.len - at.last) → StandsInRow shape index at
    stands_at after = record {
      within = let below = last_below shape index here in omega (arith, below, last, len);
      row = λ some. record {
        here = here;
        whole = len;
        counts = omega (arith, flat_here, row_within, last, len, counts, after, last_below shape index here);
      };
    }

-- ---- the next index
-- the first of those that are left
pub first_is : (shape : List ℕ) (n m : ℕ) {index : List ℕ} → 0 < n → n ≤ size shape → m ≡ n - 1
    → index ≡ index_of_flat shape (size shape - n) → indices_left RowMajor shape n ≡ index ∷ indices_left RowMajor shape m
first_is shape n m {index = index} some fits fewer is =
    indices_left-more RowMajor shape n some fits
    ∙ ap (λ (first : List ℕ). first ∷ indices_left RowMajor shape (n - 1)) (sym is)
    ∙ ap (λ k. index ∷ indices_left RowMajor shape k) (sym fewer)

module _ (shape index : List ℕ) (at : InRow) (stands : StandsInRow shape index at) where
  -- in the row
  module _ (more : at.last < at.len) where
    row : IsRow shape index at
    row = stands.row (omega (arith, more))

    here : InRowAt shape index at.last
    here = in_row shape index at.last row.here (omega (arith, more, row.whole))

    pub next_in_row : {next : List ℕ} (after : InRow) → after.last ≡ at.last + 1 → after.len ≡ at.len → after.after ≡ at.after
        → next ≡ with_last index at.last
        → indices_left RowMajor shape (left_from at) ≡ next ∷ indices_left RowMajor shape (left_from after)
    next_in_row after last len rest is =
        let flat : size shape - left_from at ≡ row_start shape index + at.last = omega (arith, row.counts, more) in
        first_is shape (left_from at) (left_from after) (omega (arith, more)) (omega (arith, row.counts))
        (omega (arith, more, last, len, rest))
        (is ∙ sym (index_of_flat-flat_index shape (with_last index at.last) here.here)
        ∙ ap (index_of_flat shape) (here.flat ∙ sym flat))

  -- in the next row
  module _ (over : at.len ≤ at.last) (some : at.after ≡ 0 → ⊥) where
    all_after : left_from at ≡ at.after
    all_after = omega (arith, stands.within, over)

    ended : IsRow shape index at
    ended = stands.row (omega (arith, all_after, some))

    abbrev pub row_end : ℕ
    row_end = row_start shape index + at.len

    row_ends : row_end < size shape
    row_ends = omega (arith, ended.counts, some)

    -- which begins at an index
    module _ {next : List ℕ} (is : next ≡ index_of_flat shape (row_start shape index + at.len)) where
      pub next_here : is_index shape next ≡ true
      next_here = ap (is_index shape) is ∙ is_index-index_of_flat shape row_end row_ends

      pub next_many : length next ≡ length index
      next_many = length_of_index shape next next_here ∙ sym (length_of_index shape index ended.here)

      pub next_counts : flat_index shape next + at.after ≡ size shape
      next_counts =
          let flat = ap (flat_index shape) is ∙ flat_index-index_of_flat shape row_end row_ends in omega (arith, flat, ended.counts)

      pub next_first : (after : InRow) (entered : InRow) → left_from entered ≡ at.after → entered.last < entered.len
          → after.last ≡ entered.last + 1 → after.len ≡ entered.len → after.after ≡ entered.after → {first : List ℕ} → first ≡ next
          → indices_left RowMajor shape (left_from at) ≡ first ∷ indices_left RowMajor shape (left_from after)
      next_first after entered left more last len rest same_as =
          let same : size shape - left_from at ≡ row_end = omega (arith, all_after, ended.counts) in
          first_is shape (left_from at) (left_from after) (omega (arith, all_after, some)) (omega (arith, all_after, ended.counts))
          (omega (arith, all_after, left, more, last, len, rest)) (same_as ∙ is ∙ ap (index_of_flat shape) (sym same))

  -- what holds of the count of axes of each index that is left holds of the shape's and the row's
  pub holds_of_row : (P : ℕ → Type 0) → 0 < left_from at → All (λ left. P (length left)) (indices_left RowMajor shape (left_from at))
      → P (length index)
  holds_of_row P some all =
      let is = stands.row some in
      let k = size shape - left_from at in
      let fits = row_within shape index is.here in
      let first = first_is shape (left_from at) (left_from at - 1) {index = index_of_flat shape k} some
      (omega (arith, is.counts, stands.within)) refl refl in
      let many = length_of_index shape (index_of_flat shape k)
      (is_index-index_of_flat shape k (omega (arith, some, is.counts, stands.within))) in
      subst P (many ∙ sym (length_of_index shape index is.here))
      (All-head (λ left. P (length left)) (index_of_flat shape k) (indices_left RowMajor shape (left_from at - 1))
      (subst (All (λ left. P (length left))) first all))

-- ---- at first
-- zeros are an index of a shape that has one
pub zeros_here : (shape : List ℕ) → 0 < size shape → is_index shape (replicate (length shape) 0) ≡ true
zeros_here shape some = is_index-zeros shape (elim (cases_Bool (is_empty shape)) [
  | inl none ↦ absurd (omega (arith, size_of_empty shape none, some))
  | inr full ↦ full
])
