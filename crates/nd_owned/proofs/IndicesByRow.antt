-- The indices of a shape from one on, in row-major order: those of the rest of its row, and then the others.
use Rattle.std.proofs.Common.{◌≡◌, ℕ, zero, suc, ◌+◌, ◌-◌, ◌<◌, ◌≤◌, Bool, true, false, Some}
use Rattle.std.proofs.Common.{List, [], ◌∷◌, ◌++◌, get_or, length, map, drop, set}
use Rattle.std.proofs.Common.{refl, sym, ap, ◌∙◌, arith}
use Rattle.std.specs.List.{range_with_len}
use Rattle.std.specs.Prelude.{nat_lt}
use Rattle.std.proofs.lemmas.Bool.{false≢true, and_from, and_parts, lt-ltb, ltb-true}
use Rattle.std.proofs.lemmas.List.{drop_more, map-append, set-get_or}
use Rattle.ndarray_layout.specs.declared.Order.TheVariants.{RowMajor}
use Rattle.ndarray_layout.specs.FlatIndex.{flat_index, index_of_flat}
use Rattle.ndarray_layout.specs.Indices.{indices_in, is_index}
use Rattle.ndarray_layout.specs.Size.{size}
use Rattle.ndarray_layout.proofs.Laws.FlatIndex.{flat_index-index_of_flat, flat_index-lt-size, get_or-indices_in}
use Rattle.ndarray_layout.proofs.Laws.FlatIndex.{index_of_flat-flat_index, is_index-index_of_flat, length-indices_in}
use Rattle.nd_owned.specs.private.IndexRow.{IsNextRow, next_row_of, rest_of_row, with_last}
use Rattle.nd_owned.proofs.IndexRows.{length-rest_of_row}

-- an index has as many coordinates as there are axes
pub length_of_index : (shape index : List ℕ) → is_index shape index ≡ true → length index ≡ length shape
length_of_index [] [] here = refl
length_of_index [] (i ∷ index) here = absurd (cc)
length_of_index (len ∷ shape) [] here = absurd (cc)
length_of_index (len ∷ shape) (i ∷ index) here =
    let rest = length_of_index shape index (and_parts (nat_lt i len) (is_index shape index) here).1 in omega (arith, rest)

-- its flat index counts the last coordinate once
flat_at : (shape index : List ℕ) (last coordinate : ℕ) → length shape ≡ last + 1 → length index ≡ last + 1
    → flat_index shape (set index last coordinate) ≡ flat_index shape (set index last 0) + coordinate
flat_at [] index last coordinate axes many = absurd (let no : ⊥ = omega (arith, axes) in no)
flat_at (len ∷ shape) [] last coordinate axes many = absurd (let no : ⊥ = omega (arith, many) in no)
flat_at (len ∷ []) (i ∷ []) zero coordinate axes many = omega arith
flat_at (len ∷ []) (i ∷ j ∷ index) zero coordinate axes many = absurd (let no : ⊥ = omega (arith, many) in no)
flat_at (len ∷ more ∷ shape) (i ∷ index) zero coordinate axes many = absurd (let no : ⊥ = omega (arith, axes) in no)
flat_at (len ∷ shape) (i ∷ index) (suc last) coordinate axes many =
    let rest = flat_at shape index last coordinate (omega (arith, axes)) (omega (arith, many)) in omega (arith, rest)

-- with another last coordinate below the length of the axis it is an index
index_at : (shape index : List ℕ) (last coordinate : ℕ) → length shape ≡ last + 1 → is_index shape index ≡ true
    → coordinate < get_or shape last 0 → is_index shape (set index last coordinate) ≡ true
index_at [] index last coordinate axes here below = absurd (let no : ⊥ = omega (arith, axes) in no)
index_at (len ∷ shape) [] last coordinate axes here below = absurd (cc)
index_at (len ∷ []) (i ∷ []) zero coordinate axes here below = and_from (nat_lt coordinate len) true (lt-ltb coordinate len below) refl
index_at (len ∷ []) (i ∷ j ∷ index) zero coordinate axes here below =
    let many = length_of_index (len ∷ []) (i ∷ j ∷ index) here in absurd (let no : ⊥ = omega (arith, many) in no)
index_at (len ∷ more ∷ shape) (i ∷ index) zero coordinate axes here below = absurd (let no : ⊥ = omega (arith, axes) in no)
index_at (len ∷ shape) (i ∷ index) (suc last) coordinate axes here below =
    let parts = and_parts (nat_lt i len) (is_index shape index) here in
    and_from (nat_lt i len) (is_index shape (set index last coordinate)) parts.0
    (index_at shape index last coordinate (omega (arith, axes)) parts.1 below)

-- its last coordinate is below the length of the axis
last_below : (shape index : List ℕ) (last : ℕ) → length shape ≡ last + 1 → is_index shape index ≡ true
    → get_or index last 0 < get_or shape last 0
last_below [] index last axes here = absurd (let no : ⊥ = omega (arith, axes) in no)
last_below (len ∷ shape) [] last axes here = absurd (cc)
last_below (len ∷ shape) (i ∷ index) zero axes here = ltb-true i len (and_parts (nat_lt i len) (is_index shape index) here).0
last_below (len ∷ shape) (i ∷ index) (suc last) axes here =
    last_below shape index last (omega (arith, axes)) (and_parts (nat_lt i len) (is_index shape index) here).1

module _ (shape index : List ℕ) (some : 0 < length shape) (here : is_index shape index ≡ true) where
  abbrev pub last : ℕ
  last = length index - 1

  abbrev pub all : List (List ℕ)
  all = indices_in RowMajor shape

  abbrev pub len : ℕ
  len = get_or shape last 0

  abbrev pub base : ℕ
  base = flat_index shape (with_last index 0)

  many : length index ≡ length shape
  many = length_of_index shape index here

  axes : length shape ≡ last + 1
  axes = omega (arith, some, many)

  -- the flat index of one of its row, and that it is an index
  flat_in_row : (coordinate : ℕ) → flat_index shape (with_last index coordinate) ≡ base + coordinate
  flat_in_row coordinate = flat_at shape index last coordinate axes (omega (arith, some, many))

  in_row : (coordinate : ℕ) → coordinate < len → is_index shape (with_last index coordinate) ≡ true
  in_row coordinate below = index_at shape index last coordinate axes here below

  from : (count coordinate : ℕ) → coordinate + count ≡ len
      → drop (base + coordinate) all ≡ map (with_last index) (range_with_len coordinate count) ++ drop (base + len) all
  from zero coordinate ends = ap (λ k. drop (base + k) all) (let same : coordinate ≡ len = omega (arith, ends) in same)
  from (suc count) coordinate ends =
      let is = in_row coordinate (omega (arith, ends)) in
      let flat = flat_in_row coordinate in
      let fits = flat_index-lt-size shape (with_last index coordinate) is in
      let next : base + coordinate + 1 ≡ base + (coordinate + 1) = omega arith in
      drop_more all (base + coordinate) [] (omega (arith, flat, fits, length-indices_in RowMajor shape))
      ∙ ap (λ item. item ∷ drop (base + coordinate + 1) all)
      (ap (λ k. get_or all k []) (sym flat) ∙ get_or-indices_in RowMajor shape (flat_index shape (with_last index coordinate)) [] fits
      ∙ index_of_flat-flat_index shape (with_last index coordinate) is)
      ∙ ap (λ rest. with_last index coordinate ∷ rest)
      (ap (λ k. drop k all) next ∙ from count (coordinate + 1) (omega (arith, ends)))

  abbrev pub first : ℕ
  first = get_or index last 0

  below_len : first < len
  below_len = last_below shape index last axes here

  -- its own flat index
  pub flat_here : flat_index shape index ≡ base + first
  flat_here = ap (flat_index shape) (sym (set-get_or index last 0)) ∙ flat_in_row first

  pub rest_and_others : drop (flat_index shape index) all ≡ rest_of_row index len ++ drop (base + len) all
  rest_and_others = ap (λ k. drop k all) flat_here ∙ from (len - first) first (omega (arith, below_len))

  pub len_of_shape : len ≡ get_or shape (length shape - 1) 0
  len_of_shape = ap (λ n. get_or shape (n - 1) 0) many

  pub some_below : 1 ≤ len
  some_below = omega (arith, below_len)

  -- the last one of its row, and the one after it
  pub last_of_row : is_index shape (with_last index (len - 1)) ≡ true
  last_of_row = in_row (len - 1) (omega (arith, below_len))

  pub flat_of_last : flat_index shape (with_last index (len - 1)) + 1 ≡ next_row_of shape index
  flat_of_last = let flat = flat_in_row (len - 1) in omega (arith, flat, below_len)

  pub row_within : next_row_of shape index ≤ size shape
  row_within = let fits = flat_index-lt-size shape (with_last index (len - 1)) last_of_row in omega (arith, fits, flat_of_last)

  pub row_counts : flat_index shape index + length (rest_of_row index len) ≡ next_row_of shape index
  row_counts = omega (arith, flat_here, below_len, length-rest_of_row index len)

  pub goes_on : flat_index shape index < next_row_of shape index
  goes_on = omega (arith, flat_here, below_len)

  pub next_row_is : (next : List ℕ) → flat_index shape (with_last index (len - 1)) + 1 < size shape
      → next ≡ index_of_flat shape (flat_index shape (with_last index (len - 1)) + 1) → IsNextRow shape index next
  next_row_is next below is =
      let flat = flat_index shape (with_last index (len - 1)) + 1 in record {
        here = ap (is_index shape) is ∙ is_index-index_of_flat shape flat below;
        flat = ap (flat_index shape) is ∙ flat_index-index_of_flat shape flat below ∙ flat_of_last;
      }

-- where a loop over rows stands: at an index, from which on n are left, or past the last one
pub record StandsAtRow (shape index : List ℕ) (has_row : Bool) (before : ℕ) : Type 0 where
  pub here : has_row ≡ true → (is_index shape index ≡ true) × (before ≡ flat_index shape index)
  pub ended : has_row ≡ false → size shape ≤ before

-- how many steps are left at most
abbrev pub rows_left : List ℕ → List ℕ → Bool → ℕ
rows_left shape index true = suc (size shape - flat_index shape index)
rows_left shape index false = 0

-- each row takes a step
pub fewer : (shape index next : List ℕ) (some : 0 < length shape) (here : is_index shape index ≡ true) (has more : Bool) → has ≡ true
    → (more ≡ true → IsNextRow shape index next) → rows_left shape next more < rows_left shape index has
fewer shape index next some here false more turn is = absurd (false≢true turn)
fewer shape index next some here true false turn is = omega arith
fewer shape index next some here true true turn is =
    let row = is refl in
    let fits = flat_index-lt-size shape next row.here in
    let on = goes_on shape index some here in omega (arith, row.flat, fits, on)

-- the indices from one on, each in its place
pub split_off : (shape index : List ℕ) (some : 0 < length shape) (here : is_index shape index ≡ true) (before : ℕ)
    → before ≡ flat_index shape index → map Some (drop before (indices_in RowMajor shape))
    ≡ map Some (rest_of_row index (len shape index some here)) ++ map Some (drop (next_row_of shape index) (indices_in RowMajor shape))
split_off shape index some here before is =
    ap (λ k. map Some (drop k (indices_in RowMajor shape))) is
    ∙ ap (map Some) (rest_and_others shape index some here)
    ∙ map-append Some (rest_of_row index (len shape index some here)) (drop (next_row_of shape index) (indices_in RowMajor shape))
