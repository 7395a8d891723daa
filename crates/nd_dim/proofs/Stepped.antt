-- The step at one axis, where a shape begins with the axis that moves fastest: the coordinates before it are at their ends and become 0.
use Rattle.std.proofs.Common.{◌≡◌, ℕ, ◌+◌, ◌-◌, ◌*◌, ◌<◌, ◌≤◌, true, List, [], ◌∷◌, ◌++◌, length, get_or, set, take, drop, replicate}
use Rattle.std.proofs.Common.{reverse, refl, sym, ap, ap₂, subst, ◌∙◌, arith, append_assoc}
use Rattle.std.proofs.lemmas.Bool.{and_from, and_parts, lt-ltb}
use Rattle.std.proofs.lemmas.List.{append-nil, drop_all, drop_more, get_or-append-add, length-drop, length-replicate, length-reverse}
use Rattle.std.proofs.lemmas.List.{length-take-le, replicate_more, reverse-append, reverse-reverse, set_at, take-append-drop}
use Rattle.std.proofs.lemmas.List.{take_all, take_more}
use Rattle.nd_base.specs.declared.order.Order.TheVariants.{ColumnMajor}
use Rattle.nd_base.proofs.Laws.Definitions.{is_index, index_of_flat, index_of_flat_in, flat_index, flat_index_in, size}
use Rattle.nd_base.proofs.Laws.FlatIndex.{index_of_flat-flat_index, flat_index-lt-size, flat_index-zeros}
use Rattle.nd_base.proofs.Laws.IsIndex.{coordinate_of_index, is_index-reverse, is_index-zeros, length_of_index, nonempty_from_index}
use Rattle.nd_base.proofs.Laws.Lists.{reverse-replicate, reverse_parts}
use Rattle.nd_base.proofs.Laws.Size.{size-reverse, size_take_more}

-- ---- the step of one coordinate, where those after it are at their ends
record IsStepped (shape index stepped : List ℕ) : Type 0 where
  within : is_index shape stepped ≡ true
  flat_indices : flat_index shape stepped ≡ flat_index shape index + 1

module _ (back rest : List ℕ) (full : flat_index back rest + 1 ≡ size back) (len i : ℕ) (more : i + 1 < len) where
  stepped : (front index : List ℕ) → length index ≡ length front → is_index (front ++ len ∷ back) (index ++ i ∷ rest) ≡ true
      → IsStepped (front ++ len ∷ back) (index ++ i ∷ rest) (index ++ (i + 1) ∷ replicate (length back) 0)
  stepped [] [] count here =
      let parts = and_parts _ _ here in
      let first = flat_index-zeros back in
      let one : (i + 1) * size back ≡ i * size back + size back = omega arith in
      let zeros = is_index-zeros back (nonempty_from_index back rest parts.1) in
      record { within = and_from _ _ (lt-ltb (i + 1) len more) zeros; flat_indices = omega (arith, full, first, one) }
  stepped [] (j ∷ index) count here = absurd (omega arith)
  stepped (n ∷ front) [] count here = absurd (omega arith)
  stepped (n ∷ front) (j ∷ index) count here =
      let parts = and_parts _ _ here in
      let later = stepped front index (omega arith) parts.1 in
      record { within = and_from _ _ parts.0 later.within; flat_indices = omega (arith, later.flat_indices) }

-- the index that the step makes is the one of the next flat index
next_is : {shape old new : List ℕ} → IsStepped shape old new
    → (flat_index shape old + 1 < size shape) × (new ≡ index_of_flat shape (flat_index shape old + 1))
next_is {shape = shape} {new = new} step = (
  omega (arith, step.flat_indices, flat_index-lt-size shape new step.within),
  sym (ap (index_of_flat shape) (sym step.flat_indices) ∙ index_of_flat-flat_index shape new step.within),
)

-- ---- along the axes, the fastest one first
-- before an axis the coordinates of an index were at their ends, and are 0
pub record IsCarried (axis : ℕ) (shape old index : List ℕ) : Type 0 where
  here : is_index shape old ≡ true
  written : index ≡ replicate axis 0 ++ drop axis old
  ended : flat_index (reverse (take axis shape)) (reverse (take axis old)) + 1 ≡ size (take axis shape)

pub carried_first : (shape old : List ℕ) → is_index shape old ≡ true → IsCarried 0 shape old old
carried_first shape old here = record { here = here; written = refl; ended = refl }

-- the axes before one come after it where they are read from the back
parts_of : (xs : List ℕ) (k : ℕ) → k < length xs → reverse xs ≡ reverse (drop (k + 1) xs) ++ get_or xs k 0 ∷ reverse (take k xs)
parts_of xs k below =
    ap reverse (sym (take-append-drop k xs) ∙ ap (λ ys. take k xs ++ ys) (drop_more xs k 0 below))
    ∙ reverse_parts (take k xs) (get_or xs k 0) (drop (k + 1) xs)

-- one axis more before
before_more : (xs : List ℕ) (k : ℕ) → k < length xs → reverse (take (k + 1) xs) ≡ get_or xs k 0 ∷ reverse (take k xs)
before_more xs k below = ap reverse (take_more xs k 0 below) ∙ reverse-append (take k xs) (get_or xs k 0 ∷ [])

module _ {k : ℕ} {shape old index : List ℕ} (below : k < length shape) (at : IsCarried k shape old index) where
  in_old : k < length old
  in_old = omega (arith, length_of_index shape old at.here)

  split : index ≡ replicate k 0 ++ get_or old k 0 ∷ drop (k + 1) old
  split = at.written ∙ ap (λ ys. replicate k 0 ++ ys) (drop_more old k 0 in_old)

  write : (coordinate : ℕ) → set index k coordinate ≡ replicate k 0 ++ coordinate ∷ drop (k + 1) old
  write coordinate =
      ap (λ xs. set xs k coordinate) split
      ∙ set_at (replicate k 0) (get_or old k 0) (drop (k + 1) old) coordinate k (length-replicate k 0)

  same : get_or index k 0 ≡ get_or old k 0
  same =
      let position : k ≡ length (replicate {A = ℕ} k 0) + 0 = omega (arith, length-replicate {A = ℕ} k 0) in
      ap₂ (λ xs n. get_or xs n 0) split position ∙ get_or-append-add (replicate k 0) (get_or old k 0 ∷ drop (k + 1) old) 0 0

  -- its coordinate is below its length
  pub carried_coordinate : get_or index k 0 < get_or shape k 0
  carried_coordinate = omega (arith, same, coordinate_of_index shape old k at.here below)

  -- a coordinate at its end becomes 0
  pub carried_more : get_or shape k 0 ≤ get_or index k 0 + 1 → IsCarried (k + 1) shape old (set index k 0)
  carried_more last =
      let rest = size (take k shape) in
      let end : get_or old k 0 + 1 ≡ get_or shape k 0 = omega (arith, same, carried_coordinate) in
      let whole : rest * get_or shape k 0 ≡ get_or old k 0 * rest + rest = ap (λ n. rest * n) (sym end) ∙ omega arith in
      record {
        here = at.here;
        written =
            write 0
            ∙ sym (append_assoc (replicate k 0) (0 ∷ []) (drop (k + 1) old))
            ∙ ap (λ xs. xs ++ drop (k + 1) old) (replicate_more k 0);
        ended =
            ap₂ (λ xs ys. flat_index xs ys + 1) (before_more shape k below) (before_more old k in_old)
            ∙ ap (λ n. get_or old k 0 * n + flat_index (reverse (take k shape)) (reverse (take k old)) + 1) (size-reverse (take k shape))
            ∙ omega (arith, at.ended, whole)
            ∙ sym (size_take_more shape k below);
      }

  -- the index with one more at the axis, as it is read from the back
  abbrev counted_to : List ℕ
  counted_to = reverse (drop (k + 1) old) ++ (get_or old k 0 + 1) ∷ replicate (length (reverse (take k shape))) 0

  counted : get_or index k 0 + 1 < get_or shape k 0 → IsStepped (reverse shape) (reverse old) counted_to
  counted more =
      let counts = length-reverse (drop (k + 1) old)
      ∙ (length-drop (k + 1) old ∙ ap (λ n. n - (k + 1)) (length_of_index shape old at.here) ∙ sym (length-drop (k + 1) shape))
      ∙ sym (length-reverse (drop (k + 1) shape)) in
      let full = at.ended ∙ sym (size-reverse (take k shape)) in
      let By : List ℕ → List ℕ → Type 0 = λ s i. is_index s i ≡ true → IsStepped s i counted_to in
      let split = stepped (reverse (take k shape)) (reverse (take k old)) full (get_or shape k 0) (get_or old k 0)
      (omega (arith, same, more)) (reverse (drop (k + 1) shape)) (reverse (drop (k + 1) old)) counts in
      subst (λ s. By s (reverse old)) (sym (parts_of shape k below)) (subst (By _) (sym (parts_of old k in_old)) split)
      (is_index-reverse shape old ∙ at.here)

  from_back : reverse counted_to ≡ set index k (get_or index k 0 + 1)
  from_back =
      let count : length (reverse (take k shape)) ≡ k =
      length-reverse (take k shape) ∙ length-take-le k shape (omega arith) in
      reverse_parts (reverse (drop (k + 1) old)) (get_or old k 0 + 1) (replicate (length (reverse (take k shape))) 0)
      ∙ ap₂ (λ xs ys. xs ++ (get_or old k 0 + 1) ∷ ys)
      (reverse-replicate (length (reverse (take k shape))) 0 ∙ ap (λ n. replicate n 0) count)
      (reverse-reverse (drop (k + 1) old))
      ∙ ap (λ n. replicate k 0 ++ (n + 1) ∷ drop (k + 1) old) (sym same)
      ∙ sym (write (get_or index k 0 + 1))

  -- another one is counted up, to the index of the next flat index
  pub carried_step : get_or index k 0 + 1 < get_or shape k 0
      → (flat_index_in ColumnMajor shape old + 1 < size shape)
      × (set index k (get_or index k 0 + 1) ≡ index_of_flat_in ColumnMajor shape (flat_index_in ColumnMajor shape old + 1))
  carried_step more =
      let next = next_is (counted more) in
      (omega (arith, next.0, size-reverse shape), sym from_back ∙ ap reverse next.1)

-- where all have turned, this was the last index and is the first
pub carried_end : {axis : ℕ} {shape old index : List ℕ} → axis ≡ length shape → IsCarried axis shape old index
    → (flat_index_in ColumnMajor shape old + 1 ≡ size shape) × (index ≡ replicate (length shape) 0)
carried_end {axis = axis} {shape = shape} {old = old} all at =
    let count = length_of_index shape old at.here in
    let whole : take axis shape ≡ shape = take_all axis shape (omega arith) in
    let whole_old : take axis old ≡ old = take_all axis old (omega arith) in (
      ap₂ (λ xs ys. flat_index (reverse xs) (reverse ys) + 1) (sym whole) (sym whole_old) ∙ at.ended ∙ ap size whole,
      at.written ∙ ap (λ xs. replicate axis 0 ++ xs) (drop_all axis old (omega arith)) ∙ append-nil (replicate axis 0)
          ∙ ap (λ n. replicate n 0) all,
    )
