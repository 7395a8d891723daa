-- Laws of the strides that a shape has by itself: each index lies at its flat index.
use Rattle.std.proofs.Common.{◌≡◌, ℕ, zero, suc, ◌+◌, ◌-◌, ◌<◌, ◌≤◌, pos, ◌+ℤ◌, ◌*ℤ◌, true, false, List, [], ◌∷◌, length}
use Rattle.std.proofs.Common.{cond, get_or, map, take, drop, replicate, reverse, inl, inr, refl, sym, ap, ◌∙◌, arith}
use Rattle.std.proofs.lemmas.Bool.{and_parts, cases_Bool, cond-true, cond-false, cond_both, or_parts}
use Rattle.std.proofs.lemmas.Int.{ints}
use Rattle.std.proofs.lemmas.List.{drop_at, ext_get_or, get_or-replicate, get_or-reverse, length-drop, length-map, length-replicate}
use Rattle.std.proofs.lemmas.List.{length-reverse, reverse-append, reverse-reverse, take-append-drop}
use Rattle.std.proofs.lemmas.List.FromFn.{length-map-range_with_len, get_or-map-range_with_len}
use Rattle.nd_base.specs.declared.order.Order.TheVariants.{ColumnMajor}
use Rattle.nd_base.proofs.Laws.Definitions.{below, is_index, offset_of, flat_index, flat_index_in, is_empty, limit, nonzero_size}
use Rattle.nd_base.proofs.Laws.Definitions.{size}
use Rattle.nd_base.proofs.Laws.IsIndex.{is_index-reverse, length_of_index, nonempty_from_index}
use Rattle.nd_base.proofs.Laws.Lists.{map-reverse}
use Rattle.nd_base.proofs.Laws.NonzeroSize.{size_le_nonzero_size}
use Rattle.nd_base.proofs.Laws.Offset.{offset_of-reverse}
use Rattle.nd_base.proofs.Laws.Size.{is_empty-reverse, size-reverse, size_drop_le}
use Rattle.nd_dim.specs.Strides.{size_after, size_until, default_strides, fortran_strides}

-- ---- a number for each axis, and 0 for each where there is no index
module _ (lens : List ℕ) (of : ℕ → ℕ) where
  abbrev own : List ℕ
  own = cond (is_empty lens) (replicate (length lens) 0) (map of (below (length lens)))

  own_count : length own ≡ length lens
  own_count = cond_both (is_empty lens) _ _ (λ xs. length xs ≡ length lens) (λ e. length-replicate (length lens) 0)
      (λ e. length-map-range_with_len of 0 (length lens))

  own_at : (axis : ℕ) → is_empty lens ≡ false → axis < length lens → get_or own axis 0 ≡ of axis
  own_at axis some h = ap (λ xs. get_or xs axis 0) (cond-false _ _ _ some)
      ∙ get_or-map-range_with_len of 0 (length lens) axis axis 0 h (omega arith)

  own_zero : (axis : ℕ) → is_empty lens ≡ true → axis < length lens → get_or own axis 0 ≡ 0
  own_zero axis none h = ap (λ xs. get_or xs axis 0) (cond-true _ _ _ none) ∙ get_or-replicate (length lens) axis 0 0 h

-- ---- in row-major order
-- the default stride of an axis of a shape with an index
pub default_at : (lens : List ℕ) (axis : ℕ) → is_empty lens ≡ false → axis < length lens
    → get_or (default_strides lens) axis 0 ≡ size_after lens axis
default_at lens axis some h = own_at lens (size_after lens) axis some h

-- one default stride for each axis
pub default_count : (lens : List ℕ) → length (default_strides lens) ≡ length lens
default_count lens = own_count lens (size_after lens)

-- a default stride is no greater than the limit that the size is held to
pub default_small : (lens : List ℕ) (k : ℕ) → nonzero_size lens ≤ limit → k < length lens → get_or (default_strides lens) k 0 ≤ limit
default_small lens k top h = elim (cases_Bool (is_empty lens)) [
  | inl none ↦ omega (arith, own_zero lens (size_after lens) k none h)
  | inr some ↦
      let is = default_at lens k some h in
      let less = size_drop_le lens (k + 1) some in
      omega (arith, size_le_nonzero_size lens)
]

-- the first axis moves by the size of the others, which have the default strides of their own
pub default_cons : (len : ℕ) (lens : List ℕ) → is_empty (len ∷ lens) ≡ false
    → default_strides (len ∷ lens) ≡ size lens ∷ default_strides lens
default_cons len lens some =
    ext_get_or 0 (default_strides (len ∷ lens)) (size lens ∷ default_strides lens)
    (default_count (len ∷ lens) ∙ ap suc (sym (default_count lens))) (λ k h. by k (omega (arith, default_count (len ∷ lens))))
  where
    by : (k : ℕ) → k < length (len ∷ lens) → get_or (default_strides (len ∷ lens)) k 0 ≡ get_or (size lens ∷ default_strides lens) k 0
    by zero h = default_at (len ∷ lens) 0 some h
    by (suc k) h =
        let next : suc k + 1 ≡ suc (k + 1) = omega arith in
        default_at (len ∷ lens) (suc k) some h
        ∙ ap (λ a. size (drop a (len ∷ lens))) next
        ∙ sym (default_at lens k (or_parts _ _ some).1 (omega arith))

-- the default strides place each index at its flat index
pub offset_of-default_strides : (shape index : List ℕ) → is_index shape index ≡ true
    → offset_of (map pos (default_strides shape)) index ≡ pos (flat_index shape index)
offset_of-default_strides [] [] h = refl
offset_of-default_strides [] (i ∷ index) h = absurd (cc)
offset_of-default_strides (len ∷ lens) [] h = absurd (cc)
offset_of-default_strides (len ∷ lens) (i ∷ index) h =
    let rest = offset_of-default_strides lens index (and_parts _ _ h).1 in
    ap (λ strides. offset_of (map pos strides) (i ∷ index)) (default_cons len lens (nonempty_from_index (len ∷ lens) (i ∷ index) h))
    ∙ ap (λ z. (pos i *ℤ pos (size lens)) +ℤ z) rest
    ∙ omega (arith, ints)

-- ---- in column-major order
-- the stride by columns of an axis of a shape with an index
pub fortran_at : (lens : List ℕ) (axis : ℕ) → is_empty lens ≡ false → axis < length lens
    → get_or (fortran_strides lens) axis 0 ≡ size_until lens axis
fortran_at lens axis some h = own_at lens (size_until lens) axis some h

-- one stride by columns for each axis
pub fortran_count : (lens : List ℕ) → length (fortran_strides lens) ≡ length lens
fortran_count lens = own_count lens (size_until lens)

drop-reverse : (k : ℕ) (xs : List ℕ) → drop (length xs - k) (reverse xs) ≡ reverse (take k xs)
drop-reverse k xs =
    ap (λ ys. drop (length xs - k) (reverse ys)) (sym (take-append-drop k xs))
    ∙ ap (drop (length xs - k)) (reverse-append (take k xs) (drop k xs))
    ∙ drop_at (reverse (drop k xs)) (reverse (take k xs)) (length xs - k) (length-reverse (drop k xs) ∙ length-drop k xs)

-- where there is no index all strides are 0
pub zero_at : (lens : List ℕ) (k : ℕ) → is_empty lens ≡ true → k < length lens
    → (get_or (default_strides lens) k 0 ≡ 0) × (get_or (fortran_strides lens) k 0 ≡ 0)
zero_at lens k none h = (own_zero lens (size_after lens) k none h, own_zero lens (size_until lens) k none h)

-- they are the default ones of the axes read from the back
pub fortran_by_default : (shape : List ℕ) → fortran_strides shape ≡ reverse (default_strides (reverse shape))
fortran_by_default shape =
    let back = default_strides (reverse shape) in
    let count = default_count (reverse shape) ∙ length-reverse shape in
    ext_get_or 0 (fortran_strides shape) (reverse back) (fortran_count shape ∙ sym count ∙ sym (length-reverse back)) (λ k h.
    let within : k < length shape = omega (arith, fortran_count shape) in
    let other = length back - 1 - k in
    let there : other < length (reverse shape) = omega (arith, length-reverse shape, count) in
    let flipped = get_or-reverse back k 0 (omega (arith, count)) in
    elim (cases_Bool (is_empty shape)) [
      | inl none ↦ (zero_at shape k none within).1 ∙ sym (flipped ∙ (zero_at (reverse shape) other (is_empty-reverse shape ∙ none) there).0)
      | inr some ↦
          let after : other + 1 ≡ length shape - k = omega (arith, count) in
          fortran_at shape k some within
          ∙ sym (flipped
          ∙ default_at (reverse shape) other (is_empty-reverse shape ∙ some) there
          ∙ ap (λ a. size (drop a (reverse shape))) after
          ∙ ap size (drop-reverse k shape)
          ∙ size-reverse (take k shape))
    ])

-- and the other way round
pub default_by_fortran : (shape : List ℕ) → default_strides shape ≡ reverse (fortran_strides (reverse shape))
default_by_fortran shape =
    sym (ap reverse (fortran_by_default (reverse shape))
    ∙ reverse-reverse (default_strides (reverse (reverse shape)))
    ∙ ap default_strides (reverse-reverse shape))

-- the strides by columns place each index at its flat index by columns
pub offset_of-fortran_strides : (shape index : List ℕ) → is_index shape index ≡ true
    → offset_of (map pos (fortran_strides shape)) index ≡ pos (flat_index_in ColumnMajor shape index)
offset_of-fortran_strides shape index h =
    let back = map pos (default_strides (reverse shape)) in
    let long = length-map (default_strides (reverse shape)) pos ∙ default_count (reverse shape) ∙ length-reverse shape
    ∙ sym (length_of_index shape index h) ∙ sym (length-reverse index) in
    ap (λ strides. offset_of (map pos strides) index) (fortran_by_default shape)
    ∙ ap (λ strides. offset_of strides index) (map-reverse pos (default_strides (reverse shape)))
    ∙ ap (offset_of (reverse back)) (sym (reverse-reverse index))
    ∙ offset_of-reverse back (reverse index) long
    ∙ offset_of-default_strides (reverse shape) (reverse index) (is_index-reverse shape index ∙ h)
