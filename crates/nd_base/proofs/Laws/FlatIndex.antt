-- Laws of flat indices: the indices of a shape and the numbers below its size stand for one another.
use Rattle.std.proofs.Common.{◌≡◌, ℕ, zero, suc, ◌+◌, ◌*◌, ◌/◌, ◌%◌, ◌<◌, Some, true, List, [], ◌∷◌, length, get_or, replicate, reverse}
use Rattle.std.proofs.Common.{refl}
use Rattle.std.proofs.Common.{sym, ap, ◌∙◌, arith}
use Rattle.std.specs.List.{slice_get}
use Rattle.std.specs.Prelude.{nat_lt}
use Rattle.std.proofs.lemmas.Bool.{and_from, and_parts, lt-ltb, ltb-true}
use Rattle.std.proofs.lemmas.List.{get_or-map, length-map}
use Rattle.std.proofs.lemmas.Nat.{div_below, mod_below, div-add-mod', div-mul-add, mod-mul-add, mul-add-lt}
use Rattle.std.proofs.lemmas.Option.{slice_get-get_or}
use Rattle.nd_base.specs.declared.order.Order.{Order}
use Rattle.nd_base.specs.declared.order.Order.TheVariants.{RowMajor, ColumnMajor}
use Rattle.nd_base.proofs.Laws.Definitions.{as_read, indices, indices_in, is_index, index_of_flat}
use Rattle.nd_base.proofs.Laws.Definitions.{index_of_flat_in, flat_index, flat_index_in, size}
use Rattle.nd_base.proofs.IndicesByFirstAxis.{length_indices, get_or_rows}
use Rattle.nd_base.proofs.Laws.AsRead.{as_read-as_read, as_read-replicate, is_index-as_read, length-as_read, size-as_read}
use Rattle.nd_base.proofs.Laws.Size.{size-reverse}

-- a number below a product, by its quotient and its remainder
record IsSplit (len rest r : ℕ) : Type 0 where
  first : r / rest < len
  later : r % rest < rest
  whole : r / rest * rest + r % rest ≡ r

split : (len rest r : ℕ) → r < len * rest → IsSplit len rest r
split len zero r h = absurd (omega arith)
split len (suc rest) r h = record {
  first = div_below r (suc rest) len (omega arith) h;
  later = mod_below r (suc rest) (omega arith);
  whole = div-add-mod' r (suc rest);
}

-- ---- in row-major order
-- the item of flat index r
get_or-indices : (shape : List ℕ) (r : ℕ) (d : List ℕ) → r < size shape → get_or (indices shape) r d ≡ index_of_flat shape r
get_or-indices [] zero d h = refl
get_or-indices [] (suc r) d h = absurd (omega arith)
get_or-indices (len ∷ lens) r d h =
    let parts = split len (size lens) r h in
    let counts = length_indices lens in
    let k = r / size lens in
    let j = r % size lens in
    ap (λ n. get_or (indices (len ∷ lens)) n d) (sym (ap (λ m. k * m + j) counts ∙ parts.whole))
    ∙ get_or_rows (indices lens) len k j d parts.first (omega (arith, parts.later))
    ∙ ap (λ index. k ∷ index) (get_or-indices lens j d parts.later)

-- it is an index of the shape
pub is_index-index_of_flat : (shape : List ℕ) (r : ℕ) → r < size shape → is_index shape (index_of_flat shape r) ≡ true
is_index-index_of_flat [] r h = refl
is_index-index_of_flat (len ∷ lens) r h =
    let parts = split len (size lens) r h in
    and_from (nat_lt (r / size lens) len) (is_index lens (index_of_flat lens (r % size lens))) (lt-ltb (r / size lens) len parts.first)
    (is_index-index_of_flat lens (r % size lens) parts.later)

-- and its flat index is r
pub flat_index-index_of_flat : (shape : List ℕ) (r : ℕ) → r < size shape → flat_index shape (index_of_flat shape r) ≡ r
flat_index-index_of_flat [] r h = omega arith
flat_index-index_of_flat (len ∷ lens) r h =
    let parts = split len (size lens) r h in
    ap (λ n. r / size lens * size lens + n) (flat_index-index_of_flat lens (r % size lens) parts.later) ∙ parts.whole

-- an index flat indices below the size
pub flat_index-lt-size : (shape index : List ℕ) → is_index shape index ≡ true → flat_index shape index < size shape
flat_index-lt-size [] index h = omega arith
flat_index-lt-size (len ∷ lens) [] h = absurd (cc)
flat_index-lt-size (len ∷ lens) (i ∷ index) h =
    let parts = and_parts (nat_lt i len) (is_index lens index) h in
    omega (arith, mul-add-lt i (size lens) (flat_index lens index) len (ltb-true i len parts.0) (flat_index-lt-size lens index parts.1))

-- and is the one at its flat index
pub index_of_flat-flat_index : (shape index : List ℕ) → is_index shape index ≡ true → index_of_flat shape (flat_index shape index) ≡ index
index_of_flat-flat_index [] [] h = refl
index_of_flat-flat_index [] (i ∷ index) h = absurd (cc)
index_of_flat-flat_index (len ∷ lens) [] h = absurd (cc)
index_of_flat-flat_index (len ∷ lens) (i ∷ index) h =
    let parts = and_parts (nat_lt i len) (is_index lens index) h in
    let below = flat_index-lt-size lens index parts.1 in
    ap (λ k. k ∷ index_of_flat lens (flat_index (len ∷ lens) (i ∷ index) % size lens))
    (div-mul-add i (size lens) (flat_index lens index) below)
    ∙ ap (λ r. i ∷ index_of_flat lens r) (mod-mul-add i (size lens) (flat_index lens index) below)
    ∙ ap (λ xs. i ∷ xs) (index_of_flat-flat_index lens index parts.1)

-- ---- in an order: by the axes as they are read
in_size : (order : Order) (shape : List ℕ) (r : ℕ) → r < size shape → r < size (as_read order shape)
in_size order shape r h = omega (arith, size-as_read order shape)

-- as many as the size of the shape
pub length-indices_in : (order : Order) (shape : List ℕ) → length (indices_in order shape) ≡ size shape
length-indices_in RowMajor shape = length_indices shape
length-indices_in ColumnMajor shape = length-map (indices (reverse shape)) reverse ∙ length_indices (reverse shape) ∙ size-reverse shape

-- the item of flat index r
pub get_or-indices_in : (order : Order) (shape : List ℕ) (r : ℕ) (d : List ℕ) → r < size shape
    → get_or (indices_in order shape) r d ≡ index_of_flat_in order shape r
get_or-indices_in RowMajor shape r d h = get_or-indices shape r d h
get_or-indices_in ColumnMajor shape r d h =
    let within = in_size ColumnMajor shape r h in
    get_or-map reverse (indices (reverse shape)) r [] d (omega (arith, within, length_indices (reverse shape)))
    ∙ ap reverse (get_or-indices (reverse shape) r [] within)

pub slice_get-indices_in : (order : Order) (shape : List ℕ) (r : ℕ) → r < size shape
    → slice_get (indices_in order shape) r ≡ Some (index_of_flat_in order shape r)
slice_get-indices_in order shape r h =
    slice_get-get_or (indices_in order shape) r [] (omega (arith, length-indices_in order shape))
    ∙ ap Some (get_or-indices_in order shape r [] h)

module _ (order : Order) (shape : List ℕ) where
  -- it is an index of the shape
  pub is_index-index_of_flat_in : (r : ℕ) → r < size shape → is_index shape (index_of_flat_in order shape r) ≡ true
  is_index-index_of_flat_in r h =
      let read = index_of_flat (as_read order shape) r in
      sym (is_index-as_read order shape (as_read order read))
      ∙ ap (is_index (as_read order shape)) (as_read-as_read order read)
      ∙ is_index-index_of_flat (as_read order shape) r (in_size order shape r h)

  -- and its flat index is r
  pub flat_index_in-index_of_flat_in : (r : ℕ) → r < size shape → flat_index_in order shape (index_of_flat_in order shape r) ≡ r
  flat_index_in-index_of_flat_in r h =
      ap (flat_index (as_read order shape)) (as_read-as_read order (index_of_flat (as_read order shape) r))
      ∙ flat_index-index_of_flat (as_read order shape) r (in_size order shape r h)

  -- an index flat indices below the size
  pub flat_index_in-lt-size : (index : List ℕ) → is_index shape index ≡ true → flat_index_in order shape index < size shape
  flat_index_in-lt-size index h =
      let below = flat_index-lt-size (as_read order shape) (as_read order index) (is_index-as_read order shape index ∙ h) in
      omega (arith, size-as_read order shape)

  -- and is the one at its flat index
  pub index_of_flat_in-flat_index_in : (index : List ℕ) → is_index shape index ≡ true
      → index_of_flat_in order shape (flat_index_in order shape index) ≡ index
  index_of_flat_in-flat_index_in index h =
      ap (as_read order) (index_of_flat-flat_index (as_read order shape) (as_read order index) (is_index-as_read order shape index ∙ h))
      ∙ as_read-as_read order index

  -- so two indices of equal flat index are one
  pub same_from_flat_index_in : (index other : List ℕ) → is_index shape index ≡ true → is_index shape other ≡ true
      → flat_index_in order shape index ≡ flat_index_in order shape other → index ≡ other
  same_from_flat_index_in index other h g e =
      sym (index_of_flat_in-flat_index_in index h)
      ∙ ap (index_of_flat_in order shape) e
      ∙ index_of_flat_in-flat_index_in other g

-- ---- the first index
-- zeros are of flat index 0
pub flat_index-zeros : (shape : List ℕ) → flat_index shape (replicate (length shape) 0) ≡ 0
flat_index-zeros [] = refl
flat_index-zeros (len ∷ lens) = omega (arith, flat_index-zeros lens)

-- so zeros are of flat index 0 in each order
pub flat_index_in-zeros : (order : Order) (shape : List ℕ) → flat_index_in order shape (replicate (length shape) 0) ≡ 0
flat_index_in-zeros order shape =
    ap (flat_index (as_read order shape))
    (as_read-replicate order (length shape) 0 ∙ ap (λ n. replicate n 0) (sym (length-as_read order shape)))
    ∙ flat_index-zeros (as_read order shape)
