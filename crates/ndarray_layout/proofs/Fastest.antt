-- A view by the axis that moves fastest in an order: its other axes are a view whose places begin the rows along that axis.
use Rattle.std.proofs.Common.{◌≡◌, ℕ, zero, suc, ◌+◌, ◌*◌, ◌-◌, ◌/◌, ◌%◌, ◌<◌, ◌≤◌, ℤ, pos, ◌+ℤ◌, ◌*ℤ◌, List, [], ◌∷◌, ◌++◌}
use Rattle.std.proofs.Common.{true, false, refl, sym, ap, ◌∙◌, arith, length-append, length, get_or, map, take}
use Rattle.std.proofs.Math.Nat.{div-one, mod-eq_of_lt}
use Rattle.std.proofs.Math.Seq.{get_or-append_seam, take-append_seam, take-length}
use Rattle.std.proofs.lemmas.Bool.{and_from, and_parts, lt-ltb, ltb-true}
use Rattle.std.proofs.lemmas.Int.{ints}
use Rattle.std.proofs.Math.IntN.{zero-*ℤ}
use Rattle.std.specs.Prelude.{max, nat_lt}
use Rattle.nd_base.proofs.Laws.IsIndex.{length_of_index}
use Rattle.std.proofs.lemmas.List.{length-map, map-append, reverse-append, take_more}
use Rattle.std.proofs.lemmas.Nat.{div-add-mod', mod_below, mod-mul-add, div-mul-add, mul-add-lt}
use Rattle.nd_base.specs.declared.order.Order.{Order}
use Rattle.nd_base.specs.declared.order.Order.TheVariants.{RowMajor, ColumnMajor}
use Rattle.nd_base.proofs.Laws.Definitions.{is_index, as_read, index_of_flat, index_of_flat_in, limit, nonzero_size, offset_of}
use Rattle.nd_base.proofs.Laws.Definitions.{size}
use Rattle.nd_base.proofs.Laws.NonzeroSize.{length_le_nonzero_size, nonzero_size-push, nonzero_size_of_other}
use Rattle.nd_base.proofs.Laws.Offset.{offset_of-push}
use Rattle.nd_base.proofs.Laws.AsRead.{as_read-as_read, length-as_read, nonzero_size-as_read, offset_of-as_read}
use Rattle.nd_base.proofs.Laws.AsRead.{size-as_read}
use Rattle.nd_base.proofs.Laws.Size.{size-push}
use Rattle.ndarray_layout.specs.Rows.{fastest_item, slower_items}
use Rattle.ndarray_layout.specs.View.{IsView, view_places}
use Rattle.ndarray_layout.specs.RowsLeft.{with_item}
use Rattle.ndarray_layout.specs.private.Fastest.{EndsIn}
use Rattle.ndarray_layout.proofs.matching.FlatOffsets.{length-index_of_flat}
use Rattle.ndarray_layout.proofs.ByRows.{by_last_axis, rows_from}
use Rattle.ndarray_layout.proofs.ReadView.{places-as_read}
use Rattle.ndarray_layout.proofs.BlockSteps.{is_index-joined}
use Rattle.ndarray_layout.proofs.Laws.Sources.{IsView-from_filled, at_least, is_index-at_least, nonzero_size-apart}

-- ---- lists with an item for each axis
-- read from the slowest axis on, the item of the fastest one is the last
read-with_item : {A : Type 0} (order : Order) (others : List A) (item : A)
    → as_read order (with_item order others item) ≡ as_read order others ++ item ∷ []
read-with_item RowMajor others item = refl
read-with_item ColumnMajor others item = reverse-append (item ∷ []) others

pub as_read-ends : {A : Type 0} {order : Order} {items others : List A} {item : A} → EndsIn order items others item
    → as_read order items ≡ as_read order others ++ item ∷ []
as_read-ends {order = order} {others = others} {item = item} e = ap (as_read order) e.is ∙ read-with_item order others item

-- the item of the fastest axis, and those of the others
slower-with_item : {A : Type 0} (order : Order) (others : List A) (item : A) → slower_items order (with_item order others item) ≡ others
slower-with_item RowMajor others item =
    let less : length (others ++ item ∷ []) - 1 ≡ length others = omega (arith, length-append others (item ∷ [])) in
    ap (λ n. take n (others ++ item ∷ [])) less ∙ take-append_seam others (item ∷ [])
slower-with_item ColumnMajor others item = refl

fastest-with_item : {A : Type 0} (order : Order) (others : List A) (item other : A)
    → fastest_item order (with_item order others item) other ≡ item
fastest-with_item RowMajor others item other =
    let less : length (others ++ item ∷ []) - 1 ≡ length others = omega (arith, length-append others (item ∷ [])) in
    ap (λ n. get_or (others ++ item ∷ []) n other) less ∙ get_or-append_seam others item [] other
fastest-with_item ColumnMajor others item other = refl

pub slower_items-ends : {A : Type 0} {order : Order} {items others : List A} {item : A} → EndsIn order items others item
    → slower_items order items ≡ others
slower_items-ends {order = order} {others = others} {item = item} e = ap (slower_items order) e.is ∙ slower-with_item order others item

pub fastest_item-ends : {A : Type 0} {order : Order} {items others : List A} {item : A} (other : A) → EndsIn order items others item
    → fastest_item order items other ≡ item
fastest_item-ends {order = order} {others = others} {item = item} other e =
    ap (λ items. fastest_item order items other) e.is ∙ fastest-with_item order others item other

-- which each list with an item has
pub ends_of_some : {A : Type 0} (order : Order) (items : List A) (other : A) → 0 < length items
    → EndsIn order items (slower_items order items) (fastest_item order items other)
ends_of_some RowMajor items other some =
    let last = length items - 1 in
    let all : length items ≡ last + 1 = omega arith in
    record { is = sym (take-length items) ∙ ap (λ n. take n items) all ∙ take_more items last other (omega arith) }
ends_of_some ColumnMajor [] other some = absurd (omega arith)
ends_of_some ColumnMajor (item ∷ items) other some = record { is = refl }

-- one item less
pub length-others : {A : Type 0} {order : Order} {items others : List A} {item : A} → EndsIn order items others item
    → length items ≡ length others + 1
length-others {order = order} {items = items} {others = others} {item = item} e =
    omega (
      arith,
      length-as_read order items,
      length-as_read order others,
      ap length (as_read-ends e),
      length-append (as_read order others) (item ∷ []),
    )

-- a function of each item
map-with_item : {A B : Type 0} (order : Order) (f : A → B) (others : List A) (item : A)
    → map f (with_item order others item) ≡ with_item order (map f others) (f item)
map-with_item RowMajor f others item = map-append f others (item ∷ [])
map-with_item ColumnMajor f others item = refl

pub EndsIn-map : {A B : Type 0} {order : Order} {items others : List A} {item : A} (f : A → B) → EndsIn order items others item
    → EndsIn order (map f items) (map f others) (f item)
EndsIn-map {order = order} {items = items} {others = others} {item = item} f e = record {
  is = ap (map f) e.is ∙ map-with_item order f others item;
}

-- the sizes
pub size-others : {order : Order} {shape lens : List ℕ} {len : ℕ} → EndsIn order shape lens len → size shape ≡ len * size lens
size-others {order} {shape} {lens} {len} e =
    sym (size-as_read order shape) ∙ ap size (as_read-ends e) ∙ size-push (as_read order lens) len
    ∙ ap (λ n. len * n) (size-as_read order lens)

pub len_le_nonzero_size : {order : Order} {shape lens : List ℕ} {len : ℕ} → EndsIn order shape lens len → len ≤ nonzero_size shape
len_le_nonzero_size {order} {shape} {lens} {len} e =
    omega (
      arith,
      nonzero_size-as_read order shape,
      ap nonzero_size (as_read-ends e),
      nonzero_size-push (as_read order lens) len,
      length_le_nonzero_size (len ∷ as_read order lens) 0,
    )

-- an index of the other axes is one with each coordinate of that one
is_index-with_item : (order : Order) (lens index : List ℕ) (len i : ℕ) → is_index lens index ≡ true → i < len
    → is_index (with_item order lens len) (with_item order index i) ≡ true
is_index-with_item RowMajor lens index len i here below =
    is_index-joined lens (len ∷ []) index (i ∷ []) here (and_from (nat_lt i len) true (lt-ltb i len below) refl)
is_index-with_item ColumnMajor lens index len i here below = and_from (nat_lt i len) (is_index lens index) (lt-ltb i len below) here

-- and lies as far on
offset_of-with_item : (order : Order) (strides : List ℤ) (index : List ℕ) (stride : ℤ) (i : ℕ) → length strides ≡ length index
    → offset_of (with_item order strides stride) (with_item order index i) ≡ (pos i *ℤ stride) +ℤ offset_of strides index
offset_of-with_item RowMajor strides index stride i e = offset_of-push strides index stride i e
offset_of-with_item ColumnMajor strides index stride i e = refl

-- ---- views
module _ (order : Order) {start : ℕ} {shape lens : List ℕ} {strides others : List ℤ} {len : ℕ} {stride : ℤ}
    (e : EndsIn order shape lens len) (g : EndsIn order strides others stride)
    (v : IsView (record { start = start; shape = shape; strides = strides })) where
  -- the other axes are a view
  pub IsView-others : IsView (record { start = start; shape = lens; strides = others })
  IsView-others =
      let source = λ (index : List ℕ). with_item order index 0 in
      let within = λ (index : List ℕ) (here : is_index (at_least 1 lens) index ≡ true).
      ap (λ all. is_index all (source index)) (ap (at_least 1) e.is ∙ map-with_item order (max 1) lens len)
      ∙ is_index-with_item order (at_least 1 lens) index (max 1 len) 0 here (omega arith) in
      let counts : length lens ≡ length others = omega (arith, length-others e, length-others g, v.valid.same_count) in
      let few = nonzero_size-apart source shape lens within (λ index other here there same.
      sym (slower-with_item order index 0) ∙ ap (slower_items order) same ∙ slower-with_item order other 0) in
      IsView-from_filled source v counts (omega (arith, few, v.valid.size_fits)) (λ index here.
      let long = length_of_index (at_least 1 lens) index here in
      let moved = offset_of-with_item order others index stride 0 (omega (arith, long, counts, length-map lens (max 1))) in
      (within index here, omega (arith, ints, ap (λ all. offset_of all (source index)) g.is, moved, zero-*ℤ stride)))

  -- and so is that axis alone, from the place of an index of the others
  pub IsView-along : {place : ℕ} (at : List ℕ) → is_index lens at ≡ true → 0 < len → pos place ≡ pos start +ℤ offset_of others at
      → IsView (record { start = place; shape = len ∷ []; strides = stride ∷ [] })
  IsView-along {place} at there some begins =
      IsView-from_filled (λ index. with_item order at (get_or index 0 0)) v refl fits along
    where
      fits : nonzero_size (len ∷ []) ≤ limit
      fits = omega (arith, nonzero_size_of_other len [] (λ none. omega (arith, none)), len_le_nonzero_size e, v.valid.size_fits)

      counts : length others ≡ length at
      counts = omega (arith, length_of_index lens at there, length-others e, length-others g, v.valid.same_count)

      along : (index : List ℕ) → is_index (at_least 1 (len ∷ [])) index ≡ true
          → (is_index (at_least 1 shape) (with_item order at (get_or index 0 0)) ≡ true)
          × (pos place +ℤ offset_of (stride ∷ []) index ≡ pos start +ℤ offset_of strides (with_item order at (get_or index 0 0)))
      along [] here = absurd (cc)
      along (i ∷ []) here = (
        ap (λ all. is_index all (with_item order at i)) (ap (at_least 1) e.is ∙ map-with_item order (max 1) lens len)
            ∙ is_index-with_item order (at_least 1 lens) at (max 1 len) i (is_index-at_least lens at there)
            (ltb-true i (max 1 len) (and_parts (nat_lt i (max 1 len)) true here).0),
        omega (
          arith,
          ints,
          begins,
          ap (λ all. offset_of all (with_item order at i)) g.is,
          offset_of-with_item order others at stride i counts,
        ),
      )
      along (i ∷ j ∷ index) here = let more = (and_parts (nat_lt i (max 1 len)) false here).1 in absurd (cc)

  -- whose places begin the rows
  pub places-others : view_places order (record { start = start; shape = shape; strides = strides })
      ≡ rows_from stride len (view_places order (record { start = start; shape = lens; strides = others }))
  places-others =
      let less : length lens ≡ length others = omega (arith, length-others e, length-others g, v.valid.same_count) in
      let read : length (as_read order lens) ≡ length (as_read order others) =
      omega (arith, less, length-as_read order lens, length-as_read order others) in
      sym (places-as_read order start shape strides v.valid.same_count)
      ∙ ap (λ xs. view_places RowMajor (record { start = start; shape = xs; strides = as_read order strides })) (as_read-ends e)
      ∙ ap (λ xs. view_places RowMajor (record { start = start; shape = as_read order lens ++ len ∷ []; strides = xs })) (as_read-ends g)
      ∙ by_last_axis (pos start) (as_read order lens) (as_read order others) len stride read
      ∙ ap (rows_from stride len) (places-as_read order start lens others less)

-- ---- flat indices
-- the coordinate of the last axis is a remainder
index_of_flat-push : (lens : List ℕ) (len r : ℕ) → r < size (lens ++ len ∷ [])
    → index_of_flat (lens ++ len ∷ []) r ≡ index_of_flat lens (r / len) ++ (r % len) ∷ []
index_of_flat-push [] len r h = ap (λ i. i ∷ []) (div-one r ∙ sym (mod-eq_of_lt (omega arith)))
index_of_flat-push (n ∷ lens) len r h =
    let rest = size (lens ++ len ∷ []) in
    let whole : rest ≡ len * size lens = size-push lens len in
    let some : (0 < len) × (0 < size lens) × (0 < rest) = factors n len (size lens) rest r h whole in
    let q = r / len in
    let i = r % len in
    let b = q / size lens in
    let a = q % size lens in
    let i_below : i < len = mod_below r len some.0 in
    let a_below : a < size lens = mod_below q (size lens) some.1 in
    let inner : a * len + i < rest = omega (arith, whole, mul-add-lt a len i (size lens) a_below i_below) in
    let is : r ≡ b * rest + (a * len + i) = parts len (size lens) rest r whole (div-add-mod' r len) (div-add-mod' q (size lens)) in
    let slow : r / rest ≡ b = ap (λ m. m / rest) is ∙ div-mul-add b rest (a * len + i) inner in
    let fast : r % rest ≡ a * len + i = ap (λ m. m % rest) is ∙ mod-mul-add b rest (a * len + i) inner in
    ap (λ m. m ∷ index_of_flat (lens ++ len ∷ []) (r % rest)) slow
    ∙ ap (λ m. b ∷ index_of_flat (lens ++ len ∷ []) m) fast
    ∙ ap (λ index. b ∷ index) (index_of_flat-push lens len (a * len + i) inner)
    ∙ ap (λ m. b ∷ (index_of_flat lens m ++ ((a * len + i) % len) ∷ [])) (div-mul-add a len i i_below)
    ∙ ap (λ m. b ∷ (index_of_flat lens a ++ m ∷ [])) (mod-mul-add a len i i_below)
  where
    factors : (n len s rest r : ℕ) → r < n * rest → rest ≡ len * s → (0 < len) × (0 < s) × (0 < rest)
    factors n zero s rest r h e = absurd (omega (arith, ap (λ m. n * m) e))
    factors n (suc len) zero rest r h e = absurd (omega (arith, ap (λ m. n * m) e))
    factors n (suc len) (suc s) rest r h e = (omega arith, omega arith, omega arith)

    parts : (len s rest r : ℕ) → rest ≡ len * s → r / len * len + r % len ≡ r → r / len / s * s + r / len % s ≡ r / len
        → r ≡ r / len / s * rest + (r / len % s * len + r % len)
    parts len s rest r whole one two =
        sym one ∙ ap (λ m. m * len + r % len) (sym two) ∙ omega (arith, ap (λ m. r / len / s * m) whole)

-- so the fastest axis moves by the remainder, and the others by the quotient
pub offset_of-flat_index : {order : Order} {shape lens : List ℕ} {strides others : List ℤ} {len : ℕ} {stride : ℤ} (r : ℕ)
    → EndsIn order shape lens len
    → EndsIn order strides others stride → length shape ≡ length strides → r < size shape
    → offset_of strides (index_of_flat_in order shape r)
    ≡ (pos (r % len) *ℤ stride) +ℤ offset_of others (index_of_flat_in order lens (r / len))
offset_of-flat_index {order} {shape} {lens} {strides} {others} {len} {stride} r e g count below =
    let index = index_of_flat (as_read order shape) r in
    let slow = index_of_flat (as_read order lens) (r / len) in
    let within : r < size (as_read order lens ++ len ∷ []) = omega (arith, size-as_read order shape, ap size (as_read-ends e)) in
    let is : index ≡ slow ++ (r % len) ∷ [] =
    ap (λ xs. index_of_flat xs r) (as_read-ends e) ∙ index_of_flat-push (as_read order lens) len r within in
    let counts : length (as_read order strides) ≡ length index =
    omega (arith, length-as_read order strides, length-as_read order shape, length-index_of_flat (as_read order shape) r) in
    let slow_counts : length (as_read order others) ≡ length slow =
    omega (
      arith,
      length-as_read order others,
      length-as_read order lens,
      length-index_of_flat (as_read order lens) (r / len),
      length-others e,
      length-others g,
    ) in
    ap (λ xs. offset_of xs (as_read order index)) (sym (as_read-as_read order strides))
    ∙ offset_of-as_read order (as_read order strides) index counts
    ∙ ap (λ xs. offset_of xs index) (as_read-ends g)
    ∙ ap (offset_of (as_read order others ++ stride ∷ [])) is
    ∙ offset_of-push (as_read order others) slow stride (r % len) slow_counts
    ∙ ap (λ z. (pos (r % len) *ℤ stride) +ℤ z) (sym (offset_of-as_read order (as_read order others) slow slow_counts)
    ∙ ap (λ xs. offset_of xs (as_read order slow)) (as_read-as_read order others))

-- ---- an index of a shape by its flat index
product_some : (a b r : ℕ) → r < a * b → 0 < a
product_some zero b r h = absurd (omega arith)
product_some (suc a) b r h = omega arith

pub some_coordinate : {order : Order} {shape lens : List ℕ} {len : ℕ} (r : ℕ) → EndsIn order shape lens len → r < size shape → 0 < len
some_coordinate {lens = lens} {len = len} r e below = product_some len (size lens) r (omega (arith, size-others e))
