-- Laws of the places of rows, and of the items there.
use Rattle.std.proofs.Common.{◌≡◌, ℕ, zero, suc, ◌+◌, ◌*◌, ◌<◌, ◌≤◌, ℤ, pos, negsuc, ◌+ℤ◌, ◌*ℤ◌, Some}
use Rattle.std.proofs.Common.{List, ◌∷◌, length, map, take, drop, refl, sym, ap, subst, ◌∙◌, arith}
use Rattle.std.specs.List.{All, range_with_len}
use Rattle.std.specs.Prelude.{slice_get}
use Rattle.std.proofs.lemmas.Int.{ints}
use Rattle.ndarray_layout.specs.Bounds.{IsInBounds}
use Rattle.ndarray_layout.specs.Rows.{row_places}
use Rattle.ndarray_layout.proofs.Laws.Rows.{get_or-row_places, length-row_places}
use Rattle.nd_access.specs.Items.{item_at_place}
use Rattle.nd_access.proofs.Laws.Neighbours.{got_between}

-- ---- where the places of a row lie

-- each place of a row that lies in bounds does
pub coordinate_in_bounds : (count start : ℕ) (stride : ℤ) (len coordinate : ℕ) → All (IsInBounds count) (row_places start stride len)
    → coordinate < len
    → IsInBounds count (pos start +ℤ (pos coordinate *ℤ stride))
coordinate_in_bounds count start stride len coordinate in_bounds below =
    subst (IsInBounds count) (get_or-row_places start stride len coordinate (pos 0) below)
    (in_bounds coordinate (pos 0) (omega (arith, length-row_places start stride len)))

-- the first place
pub start_there : {start : ℕ} (stride : ℤ) → pos start ≡ pos start +ℤ (pos 0 *ℤ stride)
start_there (pos s) = omega (arith, ints)
start_there (negsuc s) = omega (arith, ints)

-- where it has one, it begins there
pub begins : (count start : ℕ) (stride : ℤ) (len : ℕ) → All (IsInBounds count) (row_places start stride len) → 0 < len → start < count
begins count start stride len in_bounds some = subst (IsInBounds count) (sym (start_there stride))
    (coordinate_in_bounds count start stride len 0 in_bounds
    some)

-- ---- a row of neighbours

at_neighbours : {X : Type 0} (xs : List X) (start a n : ℕ)
    → map (item_at_place xs) (map (λ coordinate. pos start +ℤ (pos coordinate *ℤ pos 1)) (range_with_len a n))
    ≡ map (slice_get xs) (range_with_len (start + a) n)
at_neighbours xs start a zero = refl
at_neighbours xs start a (suc n) =
    let here : start + a * 1 ≡ start + a = omega arith in
    let next : start + (a + 1) ≡ start + a + 1 = omega arith in
    ap (λ items. slice_get xs (start + a * 1) ∷ items) (at_neighbours xs start (a + 1) n ∙ ap (λ m. map (slice_get xs) (range_with_len m n))
    next)
    ∙ ap (λ m. slice_get xs m ∷ map (slice_get xs) (range_with_len (start + a + 1) n)) here

-- what stands there
pub read_neighbours : {X : Type 0} (xs : List X) (start len : ℕ) → start + len ≤ length xs
    → map (item_at_place xs) (row_places start (pos 1) len) ≡ map Some (take len (drop start xs))
read_neighbours xs start len within =
    let from : start + 0 ≡ start = omega arith in
    at_neighbours xs start 0 len ∙ ap (λ m. map (slice_get xs) (range_with_len m len)) from ∙ got_between xs start len within

-- where the last place of a row is in bounds, the row is
pub neighbours_within : (count start len : ℕ) → 0 < len → All (IsInBounds count) (row_places start (pos 1) len) → start + len ≤ count
neighbours_within count start zero some in_bounds = absurd (omega arith)
neighbours_within count start (suc len) some in_bounds =
    let last : start + len * 1 < count = coordinate_in_bounds count start (pos 1) (suc len) len in_bounds (omega arith) in
    omega arith
