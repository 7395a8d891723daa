-- One axis of a layout: read, changed, removed or inserted.
use Rattle.std.proofs.Common.{◌≡◌, ℕ, zero, suc, ◌<◌, ◌≤◌, ℤ, pos, ◌+ℤ◌, ◌*ℤ◌, List, [], ◌∷◌, length, get_or, map, set, Some, refl, sym}
use Rattle.std.proofs.Common.{ap, ◌∙◌, arith}
use Rattle.std.specs.List.{insert, remove}
use Rattle.std.specs.Prelude.{slice_get}
use Rattle.std.proofs.Math.IntN.{zero-*ℤ}
use Rattle.std.proofs.Math.ListN.{get_or-map}
use Rattle.std.proofs.lemmas.Int.{ints}
use Rattle.std.proofs.lemmas.Option.{get_or_from_slice_get}
use Rattle.nd_base.proofs.Laws.Definitions.{all_signed, signed}
use Rattle.ndarray_layout.proofs.AxisByAxis.{AreCoordinatesApart, AxisHasSources, along-own, at_coordinate, one_new_axis, same_axes}
use Rattle.ndarray_layout.proofs.AxisByAxis.{same_axis}
use Rattle.ndarray_layout.proofs.Laws.Sources.{HasOwnSources}

-- ---- lists with an item for each axis
-- the length and the stride of an axis, as they are read
pub length_read : (shape : List ℕ) (axis : ℕ) {len : ℕ} → slice_get shape axis ≡ Some len → len ≡ get_or shape axis 0
length_read shape axis {len} e = sym (get_or_from_slice_get shape axis len 0 e)

pub stride_read : (strides : List ℕ) (axis : ℕ) {stride : ℕ} → slice_get strides axis ≡ Some stride
    → signed stride ≡ get_or (all_signed strides) axis (pos 0)
stride_read strides axis e = ap signed (length_read strides axis e) ∙ sym (get_or-map signed strides axis 0)

-- its first coordinate lies where it begins
pub first_coordinate : (start : ℕ) (stride : ℤ) → pos start +ℤ (pos 0 *ℤ stride) ≡ pos start
first_coordinate start stride = omega (arith, ints, zero-*ℤ stride)

-- an item removed or inserted
pub remove-insert : {X : Type 0} (xs : List X) (axis : ℕ) (x : X) → axis ≤ length xs → remove (insert xs axis x) axis ≡ xs
remove-insert xs zero x h = refl
remove-insert [] (suc axis) x h = absurd (omega arith)
remove-insert (y ∷ xs) (suc axis) x h = ap (λ rest. y ∷ rest) (remove-insert xs axis x (omega arith))

pub map-insert : {X Y : Type 0} (f : X → Y) (xs : List X) (axis : ℕ) (x : X) → map f (insert xs axis x) ≡ insert (map f xs) axis (f x)
map-insert f xs zero x = refl
map-insert f [] (suc axis) x = refl
map-insert f (y ∷ xs) (suc axis) x = ap (λ rest. f y ∷ rest) (map-insert f xs axis x)

pub map-remove : {X Y : Type 0} (f : X → Y) (xs : List X) (axis : ℕ) → map f (remove xs axis) ≡ remove (map f xs) axis
map-remove f [] zero = refl
map-remove f [] (suc axis) = refl
map-remove f (x ∷ xs) zero = refl
map-remove f (x ∷ xs) (suc axis) = ap (λ rest. f x ∷ rest) (map-remove f xs axis)

-- ---- one axis changed
-- there is such an axis, and a stride for each
pub record HasAxis (shape : List ℕ) (strides : List ℤ) (axis : ℕ) : Type 0 where
  pub counts : length shape ≡ length strides
  pub there : axis < length shape

-- it has other coordinates
pub set_axis : {at : ℕ → ℕ} (shape : List ℕ) (strides : List ℤ) (axis : ℕ) {len : ℕ} {stride moved : ℤ} → HasAxis shape strides axis
    → AxisHasSources at (get_or shape axis 0) (get_or strides axis (pos 0)) moved len stride → AreCoordinatesApart at len
    → HasOwnSources (λ index. set index axis (at (get_or index axis 0))) shape strides moved (set shape axis len) (set strides axis stride)
set_axis [] strides axis has on apart = let there = has.there in absurd (omega arith)
set_axis (n ∷ shape) [] axis has on apart = let counts = has.counts in absurd (omega arith)
set_axis (n ∷ shape) (s ∷ strides) zero has on apart =
    let counts = has.counts in
    along-own on apart (same_axes (omega arith)) (omega (arith, ints)) (λ i index. refl)
set_axis (n ∷ shape) (s ∷ strides) (suc axis) has on apart =
    let counts = has.counts in
    let there = has.there in
    same_axis (set_axis shape strides axis (record { counts = omega arith; there = omega arith }) on apart) (λ i index. refl)

-- it is gone, at one coordinate
pub remove_axis : (shape : List ℕ) (strides : List ℤ) (axis : ℕ) {i : ℕ} → HasAxis shape strides axis → i < get_or shape axis 0
    → HasOwnSources (λ index. insert index axis i) shape strides (pos i *ℤ get_or strides axis (pos 0)) (remove shape axis)
    (remove strides axis)
remove_axis [] strides axis has below = let there = has.there in absurd (omega arith)
remove_axis (n ∷ shape) [] axis has below = let counts = has.counts in absurd (omega arith)
remove_axis (n ∷ shape) (s ∷ strides) zero has below =
    let counts = has.counts in
    at_coordinate below (same_axes (omega arith)) (omega (arith, ints)) (λ index. refl)
remove_axis (n ∷ shape) (s ∷ strides) (suc axis) has below =
    let counts = has.counts in
    let there = has.there in
    same_axis (remove_axis shape strides axis (record { counts = omega arith; there = omega arith }) below) (λ i index. refl)

-- there is one more, of length 1
pub insert_axis : (shape : List ℕ) (strides : List ℤ) (axis : ℕ) (stride : ℤ) → length shape ≡ length strides → axis ≤ length shape
    → HasOwnSources (λ index. remove index axis) shape strides (pos 0) (insert shape axis 1) (insert strides axis stride)
insert_axis shape strides zero stride counts within = one_new_axis stride (same_axes counts) (λ i index. refl)
insert_axis [] strides (suc axis) stride counts within = absurd (omega arith)
insert_axis (n ∷ shape) [] (suc axis) stride counts within = absurd (omega arith)
insert_axis (n ∷ shape) (s ∷ strides) (suc axis) stride counts within =
    same_axis (insert_axis shape strides axis stride (omega arith) (omega arith)) (λ i index. refl)
