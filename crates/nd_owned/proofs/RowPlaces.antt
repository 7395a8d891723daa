-- The places of rows: how many there are, where the next one lies, and what a copy of neighbours reads and writes.
use Rattle.std.proofs.Common.{◌≡◌, ◌≢◌, ℕ, zero, suc, ◌+◌, ◌*◌, ◌<◌, ◌≤◌, ◌-◌, ℤ, pos, negsuc, ◌+ℤ◌, ◌*ℤ◌, Some, List, [], ◌∷◌, ◌++◌}
use Rattle.std.proofs.Common.{length, get_or, set, map, take, drop, add-one, append_assoc, refl, sym, ap, subst, ◌∙◌, arith}
use Rattle.std.specs.List.{All, AllPairs, Contains}
use Rattle.std.specs.Prelude.{slice_get}
use Rattle.std.proofs.lemmas.Int.{ints}
use Rattle.std.proofs.lemmas.List.{drop-drop, drop_at, length-append, length-take-le, map-append, take-append-drop, take_at, take_more}
use Rattle.std.proofs.lemmas.List.FromFn.{take-map-range_with_len}
use Rattle.std.proofs.lemmas.Option.{slice_get-get_or}
use Rattle.ndarray_layout.specs.Bounds.{IsInBounds}
use Rattle.ndarray_layout.specs.Rows.{row_places}
use Rattle.ndarray_layout.proofs.Laws.Rows.{get_or-row_places, length-row_places, row_more}
use Rattle.nd_lent.specs.Items.{item_at_place}
use Rattle.nd_lent.specs.Written.{HasSet}
use Rattle.nd_owned.specs.private.Written.{HasWritten}
use Rattle.nd_lent.proofs.Laws.Lists.{IsItem, all_first, pairs_first}
use Rattle.nd_owned.proofs.Placed.{both_written, one_written}
use Rattle.nd_lent.proofs.Laws.RowItems.{neighbours_within, read_neighbours}

-- ---- a row
-- its first places
pub take-row_places : (start : ℕ) (stride : ℤ) (len coordinate : ℕ) → coordinate ≤ len
    → take coordinate (row_places start stride len) ≡ row_places start stride coordinate
take-row_places start stride len coordinate within = take-map-range_with_len (λ n. pos start +ℤ (pos n *ℤ stride)) 0 len coordinate within

-- the place after another one
one_more_step : (coordinate : ℕ) (stride : ℤ) → pos (coordinate + 1) *ℤ stride ≡ (pos coordinate *ℤ stride) +ℤ stride
one_more_step coordinate (pos s) = omega (arith, ints)
one_more_step coordinate (negsuc s) = omega (arith, ints)

pub next_there : (start coordinate : ℕ) {place : ℕ} (stride : ℤ) → pos place ≡ pos start +ℤ (pos coordinate *ℤ stride)
    → pos place +ℤ stride ≡ pos start +ℤ (pos (coordinate + 1) *ℤ stride)
next_there start coordinate stride is = omega (arith, ints, one_more_step coordinate stride)

-- the place of a coordinate of a row
pub record IsAtCoordinate (start : ℕ) (stride : ℤ) (coordinate place : ℕ) : Type 0 where
  pub is : pos place ≡ pos start +ℤ (pos coordinate *ℤ stride)

pub at_coordinate : (start : ℕ) (stride : ℤ) (coordinate : ℕ) {place : ℕ} → pos place ≡ pos start +ℤ (pos coordinate *ℤ stride)
    → IsAtCoordinate start stride coordinate place
at_coordinate start stride coordinate here = record { is = here }

-- one item more of a row that is read
pub read_more : {X : Type 0} (first old : List X) {stored new : List X} {start : ℕ} {stride : ℤ} {coordinate place : ℕ} {x : X}
    → IsItem stored place x → IsAtCoordinate start stride coordinate place → new ≡ old ++ x ∷ []
    → map Some old ≡ map Some first ++ map (item_at_place stored) (row_places start stride coordinate)
    → map Some new ≡ map Some first ++ map (item_at_place stored) (row_places start stride (coordinate + 1))
read_more first old {stored} {start = start} {stride} {coordinate} {place} {x} item at pushed before =
    let so_far = map (item_at_place stored) (row_places start stride coordinate) in
    let last : Some x ≡ item_at_place stored (pos start +ℤ (pos coordinate *ℤ stride)) = ap Some item.is
    ∙ sym (slice_get-get_or stored place x item.below) ∙ ap (item_at_place stored) at.is in
    ap (map Some) pushed
    ∙ map-append Some old (x ∷ [])
    ∙ ap (λ items. items ++ Some x ∷ []) before
    ∙ append_assoc (map Some first) so_far (Some x ∷ [])
    ∙ ap (λ item. map Some first ++ (so_far ++ item ∷ [])) last
    ∙ ap (λ items. map Some first ++ items)
    (sym (map-append (item_at_place stored) (row_places start stride coordinate) ((pos start +ℤ (pos coordinate *ℤ stride)) ∷ []))
    ∙ ap (map (item_at_place stored)) (sym (row_more start stride coordinate)))

-- an item after the first one
pub after_first : {X : Type 0} {items others : List X} {first x : X} (i : ℕ) → items ≡ first ∷ others → x ≡ get_or others i x
    → x ≡ get_or items (i + 1) x
after_first {others} {first} {x} i cut is = is ∙ ap (λ n. get_or (first ∷ others) n x) (sym (add-one i)) ∙ ap (λ xs. get_or xs (i + 1) x)
    (sym cut)

-- one item more of a row that is written
pub write_more : {X : Type 0} (count : ℕ) {start : ℕ} {stride : ℤ} {coordinate place : ℕ} {items old mid : List X} {x : X}
    → All (IsInBounds count) (row_places start stride (length items))
    → AllPairs (λ one other. one ≢ other) (row_places start stride (length items)) → IsItem items coordinate x → place < length mid
    → IsAtCoordinate start stride coordinate place → HasWritten (row_places start stride coordinate) (take coordinate items) old mid
    → HasWritten (row_places start stride (coordinate + 1)) (take (coordinate + 1) items) old (set mid place x)
write_more count {start} {stride} {coordinate} {place} {items} {old} {mid} {x} in_bounds distinct item within at before =
    let all = row_places start stride (length items) in
    let first = row_places start stride coordinate in
    let last = pos start +ℤ (pos coordinate *ℤ stride) in
    let others = drop (coordinate + 1) all in
    let cut : all ≡ (first ++ last ∷ []) ++ others =
    sym (take-append-drop (coordinate + 1) all)
    ∙ ap (λ places. places ++ others) (take-row_places start stride (length items) (coordinate + 1)
    (omega (arith, item.below)) ∙ row_more start stride coordinate) in
    let here : HasWritten (last ∷ []) (x ∷ []) mid (set mid place x) = subst (λ z. HasWritten (z ∷ []) (x ∷ []) mid (set mid place x)) at.is
    (one_written within) in
    let both : HasWritten (first ++ last ∷ []) (take coordinate items ++ x ∷ []) old (set mid place x) =
    subst (λ xs. HasSet (first ++ last ∷ []) xs old (set mid place x)) (sym (map-append Some (take coordinate items) (x ∷ [])))
    (both_written count
    (all_first (IsInBounds count) first (last ∷ []) (all_first (IsInBounds count) (first ++ last ∷ []) others
    (subst (All (IsInBounds count)) cut in_bounds)))
    (pairs_first (λ one other. one ≢ other) (first ++ last ∷ []) others (subst (AllPairs (λ one other. one ≢ other)) cut distinct)) before
    here) in
    let more : take (coordinate + 1) items ≡ take coordinate items ++ x ∷ [] = take_more items coordinate x item.below
    ∙ ap (λ y. take coordinate items ++ y ∷ []) (sym item.is) in
    subst (λ places. HasWritten places (take (coordinate + 1) items) old (set mid place x)) (sym (row_more start stride coordinate))
    (subst (λ done. HasWritten (first ++ last ∷ []) done old (set mid place x)) (sym more) both)

-- so is one along a stride of 1
pub copied_within : (count start : ℕ) {stride : ℤ} (len : ℕ) → All (IsInBounds count) (row_places start stride len) → stride ≡ pos 1
    → 0 < len
    → start + len ≤ count
copied_within count start len in_bounds one some =
    neighbours_within count start len some (subst (λ s. All (IsInBounds count) (row_places start s len)) one in_bounds)

-- what is before and after items that are put in place of others
got_outside : {X : Type 0} (old items : List X) (start stop place : ℕ) → (stop ≡ start + length items) × (stop ≤ length old)
    → (start ≤ place → place < stop → ⊥) → slice_get (take start old ++ (items ++ drop stop old)) place ≡ slice_get old place
got_outside old [] zero zero place at outside = refl
got_outside old [] zero (suc stop) place at outside = absurd (omega arith)
got_outside old (i ∷ items) zero zero place at outside = absurd (omega arith)
got_outside [] (i ∷ items) zero (suc stop) place at outside = absurd (omega arith)
got_outside (x ∷ old) (i ∷ items) zero (suc stop) zero at outside = absurd (outside (omega arith) (omega arith))
got_outside (x ∷ old) (i ∷ items) zero (suc stop) (suc place) at outside =
    got_outside old items zero stop place (omega arith) (λ low high. outside (omega arith) (omega arith))
got_outside [] items (suc start) stop place at outside = absurd (omega arith)
got_outside (x ∷ old) items (suc start) zero place at outside = absurd (omega arith)
got_outside (x ∷ old) items (suc start) (suc stop) zero at outside = refl
got_outside (x ∷ old) items (suc start) (suc stop) (suc place) at outside =
    got_outside old items start stop place (omega arith) (λ low high. outside (omega arith) (omega arith))

put_in : {X : Type 0} {old : List X} (items : List X) (start : ℕ) → start + length items ≤ length old
    → HasWritten (row_places start (pos 1) (length items)) items old (take start old ++ (items ++ drop (start + length items) old))
put_in {old = old} items start within =
    let new = take start old ++ (items ++ drop (start + length items) old) in
    let front : length (take start old) ≡ start = length-take-le start old (omega arith) in
    let long : start + length items ≤ length new = omega (
      arith,
      front,
      length-append (take start old)
          (items ++ drop (start + length items) old),
      length-append items (drop (start + length items) old),
    ) in
    let there : take (length items) (drop start new) ≡ items =
    ap (take (length items)) (drop_at (take start old) (items ++ drop (start + length items) old) start front)
    ∙ take_at items (drop (start + length items) old) (length items) refl in
    record {
      written = read_neighbours new start (length items) long ∙ ap (map Some) there;
      others = λ place spared. got_outside old items start (start + length items) place (refl, within)
          (λ low high. spared (at_coordinate place low high));
    }
  where
    at_coordinate : (place : ℕ) → start ≤ place → place < start + length items
        → Contains (row_places start (pos 1) (length items)) (pos place)
    at_coordinate place low high =
        let coordinate = place - start in
        let under : coordinate < length items = omega arith in
        let same : start + coordinate * 1 ≡ place = omega arith in (
          coordinate,
          omega (arith, length-row_places start (pos 1) (length items)),
          get_or-row_places start (pos 1) (length items) coordinate
              (pos place) under ∙ ap pos same,
        )

-- items in place of neighbours
pub write_neighbours : {X : Type 0} {old : List X} (items : List X) (start : ℕ) → start + length items ≤ length old
    → HasWritten (row_places start (pos 1) (length items)) items old (take start old ++ (items ++ drop (length items) (drop start old)))
write_neighbours {old = old} items start within = subst (λ others. HasWritten (row_places start (pos 1) (length items)) items old
    (take start old ++ (items ++ others))) (sym (drop-drop (length items) start old)) (put_in items start within)
