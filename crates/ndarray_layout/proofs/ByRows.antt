-- The places of a layout, row by row: each row is what its last axis has from one place on.
use Rattle.std.proofs.Common.{◌≡◌, ℕ, zero, suc, ◌+◌, ℤ, pos, negsuc, ◌+ℤ◌, ◌*ℤ◌, List, [], ◌∷◌, ◌++◌, length, get_or, set, map, refl, sym}
use Rattle.std.proofs.Common.{ap, ◌∙◌, arith}
use Rattle.std.specs.List.{flat_map}
use Rattle.std.proofs.lemmas.Int.{ints}
use Rattle.std.proofs.lemmas.Grind.{flat_map-append}
use Rattle.std.proofs.lemmas.List.{append-nil, map-append}
use Rattle.nd_base.proofs.Laws.Definitions.{below, indices, offset_of}

-- the places of a row that begins at a place
abbrev pub row_from : ℤ → ℤ → ℕ → List ℤ
row_from place stride len = map (λ coordinate. place +ℤ (pos coordinate *ℤ stride)) (below len)

-- those of rows that begin at places, one row after another
abbrev pub rows_from : ℤ → ℕ → List ℤ → List ℤ
rows_from stride len starts = flat_map (λ start. row_from start stride len) starts

-- how far indices lie from a place
abbrev pub places_from : ℤ → List ℤ → List (List ℕ) → List ℤ
places_from place strides xs = map (λ index. place +ℤ offset_of strides index) xs

-- where it holds of each coordinate of the first axis, it holds of all of them
by_coordinates : (f g : List ℕ → ℤ) (row : ℤ → List ℤ) (whole cut : List (List ℕ))
    → ((i : ℕ) → map f (map (λ index. i ∷ index) whole) ≡ flat_map row (map g (map (λ index. i ∷ index) cut)))
    → (coordinates : List ℕ) → map f (flat_map (λ i. map (λ index. i ∷ index) whole) coordinates)
    ≡ flat_map row (map g (flat_map (λ i. map (λ index. i ∷ index) cut) coordinates))
by_coordinates f g row whole cut each [] = refl
by_coordinates f g row whole cut each (i ∷ coordinates) =
    let more = flat_map (λ i. map (λ index. i ∷ index) whole) coordinates in
    let one = map (λ index. i ∷ index) cut in
    let others = flat_map (λ i. map (λ index. i ∷ index) cut) coordinates in
    map-append f (map (λ index. i ∷ index) whole) more
    ∙ ap (λ xs. xs ++ map f more) (each i)
    ∙ ap (λ xs. flat_map row (map g one) ++ xs) (by_coordinates f g row whole cut each coordinates)
    ∙ sym (flat_map-append row (map g one) (map g others))
    ∙ ap (flat_map row) (sym (map-append g one others))

-- a coordinate of the first axis moves the place
moved : (place : ℤ) (i : ℕ) (stride : ℤ) (strides : List ℤ) (xs : List (List ℕ))
    → places_from place (stride ∷ strides) (map (λ index. i ∷ index) xs) ≡ places_from (place +ℤ (pos i *ℤ stride)) strides xs
moved place i stride strides [] = refl
moved place i stride strides (x ∷ xs) =
    let here : place +ℤ offset_of (stride ∷ strides) (i ∷ x) ≡ (place +ℤ (pos i *ℤ stride)) +ℤ offset_of strides x = omega (arith, ints) in
    rw (here, moved place i stride strides xs) refl

no_step : {place : ℤ} (stride : ℤ) → place +ℤ ((pos 0 *ℤ stride) +ℤ pos 0) ≡ place
no_step (pos n) = omega (arith, ints)
no_step (negsuc n) = omega (arith, ints)

-- an axis by itself is one row
one_row : (place stride : ℤ) (coordinates : List ℕ)
    → places_from place (stride ∷ []) (flat_map (λ i. (i ∷ []) ∷ []) coordinates)
    ≡ map (λ coordinate. place +ℤ (pos coordinate *ℤ stride)) coordinates
one_row place stride [] = refl
one_row place stride (coordinate ∷ coordinates) =
    let here : place +ℤ ((pos coordinate *ℤ stride) +ℤ pos 0) ≡ place +ℤ (pos coordinate *ℤ stride) = omega (arith, ints) in
    rw (here, one_row place stride coordinates) refl

-- and so each axis before the last one moves whole rows
pub by_rows : (place : ℤ) (shape : List ℕ) (strides : List ℤ) (last : ℕ) → length shape ≡ last + 1 → length strides ≡ last + 1
    → places_from place strides (indices shape)
    ≡ flat_map (λ start. row_from start (get_or strides last (pos 0)) (get_or shape last 0))
    (places_from place strides (indices (set shape last 1)))
by_rows place [] strides last long also = absurd (omega arith)
by_rows place (len ∷ shape) [] last long also = absurd (omega arith)
by_rows place (len ∷ []) (stride ∷ []) zero long also =
    one_row place stride (below len)
    ∙ ap (λ start. row_from start stride len) (sym (no_step stride))
    ∙ sym (append-nil (row_from (place +ℤ ((pos 0 *ℤ stride) +ℤ pos 0)) stride len))
by_rows place (len ∷ (l ∷ shape)) (stride ∷ strides) zero long also = absurd (omega arith)
by_rows place (len ∷ []) (stride ∷ (s ∷ strides)) zero long also = absurd (omega arith)
by_rows place (len ∷ shape) (stride ∷ strides) (suc last) long also =
    let row = λ (start : ℤ). row_from start (get_or strides last (pos 0)) (get_or shape last 0) in
    let cut = indices (set shape last 1) in
    let f = λ (index : List ℕ). place +ℤ offset_of (stride ∷ strides) index in
    by_coordinates f f row (indices shape) cut
    (λ i. moved place i stride strides (indices shape)
    ∙ by_rows (place +ℤ (pos i *ℤ stride)) shape strides last (omega arith) (omega arith)
    ∙ ap (flat_map row) (sym (moved place i stride strides cut)))
    (below len)

-- the same of shapes without the last axis: each of their places begins a row
pub by_last_axis : (place : ℤ) (lens : List ℕ) (strides : List ℤ) (len : ℕ) (stride : ℤ) → length lens ≡ length strides
    → places_from place (strides ++ stride ∷ []) (indices (lens ++ len ∷ []))
    ≡ flat_map (λ start. row_from start stride len) (places_from place strides (indices lens))
by_last_axis place [] [] len stride count =
    let here : place +ℤ pos 0 ≡ place = omega (arith, ints) in
    one_row place stride (below len)
    ∙ ap (λ start. row_from start stride len) (sym here)
    ∙ sym (append-nil (row_from (place +ℤ pos 0) stride len))
by_last_axis place [] (s ∷ strides) len stride count = absurd (omega arith)
by_last_axis place (n ∷ lens) [] len stride count = absurd (omega arith)
by_last_axis place (n ∷ lens) (s ∷ strides) len stride count =
    let row = λ (start : ℤ). row_from start stride len in
    by_coordinates (λ index. place +ℤ offset_of (s ∷ (strides ++ stride ∷ [])) index) (λ index. place +ℤ offset_of (s ∷ strides) index) row
    (indices (lens ++ len ∷ [])) (indices lens)
    (λ i. moved place i s (strides ++ stride ∷ []) (indices (lens ++ len ∷ []))
    ∙ by_last_axis (place +ℤ (pos i *ℤ s)) lens strides len stride (omega arith)
    ∙ ap (flat_map row) (sym (moved place i s strides (indices lens))))
    (below n)
