-- Pairs of items at the places of two views of one shape, in the order of another two.
use Rattle.std.proofs.Common.{◌≡◌, ℤ, Option, List, [], ◌∷◌, map, refl, sym, ap, subst, ◌∙◌}
use Rattle.std.specs.List.{zip}
use Rattle.std.specs.List.Sorted.{IsPermutation}
use Rattle.std.specs.Option.{option_zip}
use Rattle.std.proofs.lemmas.List.Sorted.{IsPermutation-map, IsPermutation-refl}
use Rattle.ndarray_layout.specs.declared.Order.TheVariants.{RowMajor}
use Rattle.ndarray_layout.specs.Indices.{indices_in}
use Rattle.ndarray_layout.specs.Nearest.{pairs_of_places}
use Rattle.ndarray_layout.specs.View.{View, place_at, view_places}
use Rattle.nd_access.specs.Items.{ArrayValue, item_at_place}
use Rattle.nd_access.specs.Mapped.{row_major_items}
use Rattle.nd_access.specs.Written.{Maps}
use Rattle.nd_access.specs.Zipped.{pairs_of, row_major_pairs}
use Rattle.nd_access.specs.Pairs.{ZipsAt, view_pairs}
use Rattle.nd_access.proofs.Laws.IndexItems.{items_in}

-- ---- the places of two views of one shape
-- the pairs in another order are those of the places in that order
pub pairs_of_maps : {X Y : Type 0} (f : ℤ → Option X) (g : ℤ → Option Y) (xs ys : List ℤ)
    → pairs_of (map f xs) (map g ys) ≡ map (λ (both : ℤ × ℤ). option_zip (f both.0) (g both.1)) (zip xs ys)
pairs_of_maps f g [] ys = refl
pairs_of_maps f g (x ∷ xs) [] = refl
pairs_of_maps f g (x ∷ xs) (y ∷ ys) = ap (λ pairs. option_zip (f x) (g y) ∷ pairs) (pairs_of_maps f g xs ys)

module _ {T U : Type 0} (items : List T) (others : List U) where
  pub pairs_moved : (view source nearest beside : View)
      → IsPermutation (pairs_of_places nearest beside) (pairs_of_places view source)
      → IsPermutation (view_pairs items nearest others beside) (view_pairs items view others source)
  pairs_moved view source nearest beside moved =
      let both : ℤ × ℤ → Option (T × U) = λ both. option_zip (item_at_place items both.0) (item_at_place others both.1) in
      subst (λ all. IsPermutation all (view_pairs items view others source))
      (sym (pairs_of_maps (item_at_place items) (item_at_place others) (view_places RowMajor nearest) (view_places RowMajor beside)))
      (subst (IsPermutation (map both (pairs_of_places nearest beside)))
      (sym (pairs_of_maps (item_at_place items) (item_at_place others) (view_places RowMajor view) (view_places RowMajor source)))
      (IsPermutation-map both (pairs_of_places nearest beside) (pairs_of_places view source) moved))

-- where the other items and their view are lent
pub pairs_of_lent : {T U : Type 0} (items : List T) (view : View) {others lent : List U} {source shown : View} → lent ≡ others
    → shown ≡ source → view_pairs items view lent shown ≡ view_pairs items view others source
pairs_of_lent items view {others} {shown = shown} same is =
    ap (λ lent. view_pairs items view lent shown) same ∙ ap (view_pairs items view others) is

pub maps_of_lent : {F T U : Type 0} {call : F → T × U → T → F → Type 0} {f : F} (view : View) {source shown : View} {others lent : List U}
    {old new : List T} → lent ≡ others → shown ≡ source → Maps call f (view_places RowMajor view) (view_pairs old view lent shown) old new
    → Maps call f (view_places RowMajor view) (view_pairs old view others source) old new
maps_of_lent {call = call} {f} view {old = old} {new} same is =
    subst (λ pairs. Maps call f (view_places RowMajor view) pairs old new) (pairs_of_lent old view same is)

-- those of two arrays are those of their indices
pub pairs_in_order : {T U : Type 0} (array : ArrayValue T) (other : ArrayValue U)
    → view_pairs array.items array.view other.items other.view ≡ row_major_pairs array other
pairs_in_order array other =
    ap (λ items. pairs_of items (map (item_at_place other.items) (view_places RowMajor other.view))) (items_in RowMajor array)
    ∙ ap (pairs_of (row_major_items array)) (items_in RowMajor other)

-- in row-major order
pub zips_in_order : {F T U : Type 0} {call : F → T × U → T → F → Type 0} {f : F} {view source : View} {others : List U} {old new : List T}
    → view.shape ≡ source.shape → Maps call f (view_places RowMajor view) (view_pairs old view others source) old new
    → ZipsAt call f view others source old new
zips_in_order {call = call} {f} {view} {source} {others} {old} {new} same run =
    let indices = indices_in RowMajor view.shape in
    record {
      indices = indices;
      each_once = IsPermutation-refl indices;
      run = subst (λ shape. Maps call f (view_places RowMajor view) (pairs_of (map (item_at_place old) (view_places RowMajor view))
          (map (item_at_place others) (map (place_at source) (indices_in RowMajor shape)))) old new) (sym same) run;
    }

-- where the other items and their view are lent
pub zips_of_lent : {F T U : Type 0} {call : F → T × U → T → F → Type 0} {f : F} {view source shown : View} {others lent : List U}
    {old new : List T} → lent ≡ others → shown ≡ source → ZipsAt call f view lent shown old new → ZipsAt call f view others source old new
zips_of_lent {call = call} {f} {view} {shown = shown} {others = others} {old = old} {new = new} items is has =
    subst (λ source. ZipsAt call f view others source old new) is (subst (λ items. ZipsAt call f view items shown old new) items has)
