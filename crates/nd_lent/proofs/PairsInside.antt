-- Calls of a closure at pairs, each of which calls another closure at the second item and writes at the first what it returns.
use Rattle.std.proofs.Common.{◌≡◌, ℤ, Option, Some, None, List, [], ◌∷◌, length, map, refl, sym, ap, subst, ◌∙◌, arith}
use Rattle.std.specs.Borrow.{Bor, MutBor}
use Rattle.std.specs.Fn.{Called, CalledAt, Mut, Takes}
use Rattle.std.specs.Iterator.{ActsAsAt, CallableOnAllAt, Yields}
use Rattle.std.specs.List.{FoldsTo}
use Rattle.std.specs.List.Sorted.{IsPermutation}
use Rattle.std.specs.Option.{option_map, option_zip}
use Rattle.std.specs.Prelude.{zip}
use Rattle.std.proofs.lemmas.List.{length-map}
use Rattle.std.proofs.lemmas.List.Sorted.{IsPermutation-map, IsPermutation-refl}
use Rattle.std.proofs.lemmas.Option.{none-some}
use Rattle.std.proofs.lemmas.Simd.{zip2_of_maps}
use Rattle.std.proofs.lemmas.Slice.Zip.{seconds-zip}
use Rattle.ndarray_layout.specs.declared.Order.TheVariants.{RowMajor}
use Rattle.ndarray_layout.specs.Indices.{indices_in}
use Rattle.ndarray_layout.specs.Size.{size}
use Rattle.ndarray_layout.specs.View.{place_at, view_places}
use Rattle.ndarray_layout.proofs.Laws.View.{length-view_places}
use Rattle.nd_loops.specs.AnyOrder.{CallsMakeArrayInSomeOrder, InAnyOrder}
use Rattle.nd_access.specs.HasItems.{HasItemsOf}
use Rattle.nd_access.specs.Items.{ArrayValue, item_at, item_at_place}
use Rattle.nd_access.specs.Mapped.{CallsMake, Makes, gives, row_major_items}
use Rattle.nd_access.specs.Written.{Maps}
use Rattle.nd_access.specs.Zipped.{CallableOnEachPair, CalledAtPair, pairs_of}
use Rattle.nd_access.specs.Pairs.{ZipsAt, view_pairs}
use Rattle.nd_lent.proofs.ArrayMaps.{changed, made_in_some_order, mapped, ran_over}
use Rattle.nd_access.proofs.Laws.IndexItems.{items_in}
use Rattle.nd_access.proofs.Laws.Permuted.{made_of_permuted}

-- ---- the second items of pairs
second_is : {X Y : Type 0} (x : Option X) (y : Option Y) {both : X × Y} → option_zip x y ≡ Some both → y ≡ Some both.1
second_is None y {both} is = absurd (none-some both is)
second_is (Some x) None {both} is = absurd (none-some both is)
second_is (Some x) (Some y) is = ap (λ pair. elim pair [ None ↦ Some y | Some both ↦ Some both.1 ]) is

-- the first pair is that of the first items
record IsFirst {X Y : Type 0} (xs : List (Option X)) (ys : List (Option Y)) (both : X × Y) (left : List (Option (X × Y))) : Type 0 where
  others : List (Option X)
  beside : List (Option Y)
  count : length others ≡ length beside
  first : ys ≡ Some both.1 ∷ beside
  rest : left ≡ pairs_of others beside

first_pair : {X Y : Type 0} (xs : List (Option X)) (ys : List (Option Y)) {both : X × Y} {left : List (Option (X × Y))}
    → length xs ≡ length ys → pairs_of xs ys ≡ Some both ∷ left → IsFirst xs ys both left
first_pair [] [] count is = cc
first_pair [] (y ∷ ys) count is = absurd (omega arith)
first_pair (x ∷ xs) [] count is = absurd (omega arith)
first_pair (x ∷ xs) (y ∷ ys) {both} {left} count is =
    let same : option_zip x y ≡ Some both = cc in
    let rest : left ≡ pairs_of xs ys = cc in
    record { others = xs; beside = ys; count = omega (arith, count); first = ap (λ y. y ∷ ys) (second_is x y same); rest = rest }

-- pairs come where the second items do
record ComesBeside {X Y : Type 0} (ys : List (Option Y)) (pairs : List (X × Y)) (left : List (Option (X × Y))) : Type 0 where
  others : List (Option X)
  beside : List (Option Y)
  count : length others ≡ length beside
  rest : left ≡ pairs_of others beside
  yields : Yields gives ys (map (λ (pair : X × Y). pair.1) pairs) beside

comes_beside : {X Y : Type 0} (xs : List (Option X)) (ys : List (Option Y)) → length xs ≡ length ys → (pairs : List (X × Y))
    (left : List (Option (X × Y))) → Yields gives (pairs_of xs ys) pairs left → ComesBeside ys pairs left
comes_beside xs ys count [] left yields =
    record { others = xs; beside = ys; count = count; rest = sym yields; yields = refl }
comes_beside xs ys count (both ∷ pairs) left (next, first, yields) =
    let one = first_pair xs ys count first in
    let more = comes_beside one.others one.beside one.count pairs left (subst (λ s. Yields gives s pairs left) one.rest yields) in
    record {
      others = more.others;
      beside = more.beside;
      count = more.count;
      rest = more.rest;
      yields = (one.beside, one.first, more.yields);
    }

-- pairs in another order
record ArePairs {X Y : Type 0} (ys : List (Option Y)) (pairs : List (Option (X × Y))) : Type 0 where
  firsts : List (Option X)
  seconds : List (Option Y)
  count : length firsts ≡ length seconds
  are : pairs ≡ pairs_of firsts seconds
  moved : IsPermutation seconds ys

pairs_zipped : {X Y : Type 0} (xs : List (Option X)) (ys : List (Option Y))
    → pairs_of xs ys ≡ map (λ (both : Option X × Option Y). option_zip both.0 both.1) (zip xs ys)
pairs_zipped [] ys = refl
pairs_zipped (x ∷ xs) [] = refl
pairs_zipped (x ∷ xs) (y ∷ ys) = ap (λ pairs. option_zip x y ∷ pairs) (pairs_zipped xs ys)

pairs_permuted : {X Y : Type 0} (xs : List (Option X)) (ys : List (Option Y)) → length xs ≡ length ys → (pairs : List (Option (X × Y)))
    → IsPermutation pairs (pairs_of xs ys) → ArePairs ys pairs
pairs_permuted {X} {Y} xs ys count pairs moved =
    let both : Option X × Option Y → Option (X × Y) = λ both. option_zip both.0 both.1 in
    let first : Option X × Option Y → Option X = λ both. both.0 in
    let second : Option X × Option Y → Option Y = λ both. both.1 in
    let made = made_of_permuted both (zip xs ys) pairs (subst (IsPermutation pairs) (pairs_zipped xs ys) moved) in
    record {
      firsts = map first made.source;
      seconds = map second made.source;
      count = length-map made.source first ∙ sym (length-map made.source second);
      are = made.is ∙ sym (zip2_of_maps option_zip first second made.source refl refl);
      moved = subst (IsPermutation (map second made.source)) (seconds-zip xs ys (sym count))
          (IsPermutation-map second made.source (zip xs ys) made.each_once);
    }

-- ---- calls: `inside` reads the other closure from the state of the one at pairs
module _ {F C T U : Type 0} (g : Mut F (Bor U × Unit {0}) T)
    (other : Mut C (MutBor T × (Bor U × Unit {0})) (Unit {0} × (MutBor T × Unit {0}))) (inside : C → F)
    (says : (s t : C) (stored left : MutBor T) (item : Bor U) → Called other s (stored, (item, tt)) (tt, (left, tt)) t
    → Called g (inside s) (item, tt) left.now (inside t)) where
  called_inside : (s t : C) (pair : T × U) (y : T) → CalledAtPair other s pair y t → CalledAt g (inside s) pair.1 y (inside t)
  called_inside s t pair y called = record {
    shown = called.beside.0;
    shows = called.shows.1;
    called = subst (λ y. Called g (inside s) (called.beside.0, tt) y (inside t)) called.leaves
        (says s t called.shown called.left called.beside.0 called.called);
  }

  calls_inside : (pairs : List (T × U)) (s t : C) → FoldsTo (λ p pair q. (y : T) × CalledAtPair other p pair y q) s pairs t
      → FoldsTo (λ p u q. (y : T) × CalledAt g p u y q) (inside s) (map (λ (pair : T × U). pair.1) pairs) (inside t)
  calls_inside [] s t calls = ap inside calls
  calls_inside (pair ∷ pairs) s t (next, (y, called), more) =
      (inside next, (y, called_inside s next pair y called), calls_inside pairs next t more)

  -- it may be called at pairs where the other one may be at the second items
  pub callable_inside : ((s : C) (stored : MutBor T) (item : Bor U) → Takes g (inside s) (item, tt) → Takes other s (stored, (item, tt)))
      → (xs : List (Option T)) (us : List (Option U)) → length xs ≡ length us → (s : C)
      → CallableOnAllAt gives g us (inside s) → CallableOnEachPair other (pairs_of xs us) s
  callable_inside asks xs us count s callable = record {
    at = λ pairs t q pair rest yields calls step stored beside same is.
        let so_far = comes_beside xs us count pairs t yields in
        let one = first_pair so_far.others so_far.beside so_far.count (sym so_far.rest ∙ step) in
        asks q stored beside.0 (callable.at (map (λ (pair : T × U). pair.1) pairs) so_far.beside (inside q) pair.1 one.beside so_far.yields
        (calls_inside pairs s q calls) one.first beside.0 is);
  }

  -- and what it made of pairs the other one made of the second items
  makes_inside : (xs : List (Option T)) (us : List (Option U)) (made : List (Option T)) (s t : C) → length xs ≡ length us
      → FoldsTo (Makes (CalledAtPair other)) s (zip (pairs_of xs us) made) t
      → FoldsTo (Makes (λ p x y q. CalledAt g p x y q)) (inside s) (zip us made) (inside t)
  makes_inside [] [] made s t count calls = ap inside calls
  makes_inside [] (u ∷ us) made s t count calls = absurd (omega arith)
  makes_inside (x ∷ xs) [] made s t count calls = absurd (omega arith)
  makes_inside (x ∷ xs) (u ∷ us) [] s t count calls = ap inside calls
  makes_inside (None ∷ xs) (u ∷ us) (y ∷ made) s t count calls = absurd calls.1
  makes_inside (Some x ∷ xs) (None ∷ us) (y ∷ made) s t count calls = absurd calls.1
  makes_inside (Some x ∷ xs) (Some u ∷ us) (None ∷ made) s t count calls = absurd calls.1
  makes_inside (Some x ∷ xs) (Some u ∷ us) (Some y ∷ made) s t count (next, called, more) =
      (inside next, called_inside s next (x, u) y called, makes_inside xs us made next t (omega (arith, count)) more)

  pub maps_inside : {places : List ℤ} (xs : List (Option T)) (us : List (Option U)) {old new : List T} {s : C} → length xs ≡ length us
      → Maps (CalledAtPair other) s places (pairs_of xs us) old new
      → Maps (λ p x y q. CalledAt g p x y q) (inside s) places us old new
  maps_inside {places} xs us {old} {new} {s} count run = record {
    ran = record {
      last = inside run.ran.last;
      calls = makes_inside xs us (map (item_at_place new) places) s run.ran.last count run.ran.calls;
    };
    others = run.others;
  }

  -- ---- of the items of two arrays of one shape
  module _ (to : ArrayValue T) (source : ArrayValue U) (same : to.view.shape ≡ source.view.shape) where
    as_many : length (row_major_items to) ≡ length (row_major_items source)
    as_many =
        ap length (sym (items_in RowMajor to))
        ∙ length-map (view_places RowMajor to.view) (item_at_place to.items)
        ∙ length-view_places RowMajor to.view
        ∙ ap size same
        ∙ sym (length-view_places RowMajor source.view)
        ∙ sym (length-map (view_places RowMajor source.view) (item_at_place source.items))
        ∙ ap length (items_in RowMajor source)

    module _ (asks : (s : C) (stored : MutBor T) (item : Bor U) → Takes g (inside s) (item, tt) → Takes other s (stored, (item, tt))) where
      pub callable_in_order : {s : C} → CallableOnAllAt gives g (row_major_items source) (inside s)
          → CallableOnEachPair other (pairs_of (row_major_items to) (row_major_items source)) s
      callable_in_order {s} callable = callable_inside asks (row_major_items to) (row_major_items source) as_many s callable

      pub callable_in_any_order : {s : C} → InAnyOrder (λ items. CallableOnAllAt gives g items (inside s)) (row_major_items source)
          → InAnyOrder (λ pairs. CallableOnEachPair other pairs s) (pairs_of (row_major_items to) (row_major_items source))
      callable_in_any_order {s} callable pairs moved =
          let all = pairs_permuted (row_major_items to) (row_major_items source) as_many pairs moved in
          subst (λ pairs. CallableOnEachPair other pairs s) (sym all.are)
          (callable_inside asks all.firsts all.seconds all.count s (callable all.seconds all.moved))

    module _ {new : List T} {s : C} (has : ZipsAt (CalledAtPair other) s to.view source.items source.view to.items new) where
      abbrev call_inside : F → U → T → F → Type 0
      call_inside = λ p x y q. CalledAt g p x y q

      run_inside : Maps call_inside (inside s) (map (place_at to.view) has.indices)
          (map (item_at_place source.items) (map (place_at source.view) has.indices)) to.items new
      run_inside = maps_inside (map (item_at_place to.items) (map (place_at to.view) has.indices))
          (map (item_at_place source.items) (map (place_at source.view) has.indices))
          (length-map (map (place_at to.view) has.indices) (item_at_place to.items)
          ∙ length-map has.indices (place_at to.view)
          ∙ sym (length-map has.indices (place_at source.view))
          ∙ sym (length-map (map (place_at source.view) has.indices) (item_at_place source.items)))
          has.run

      pub made_inside : CallsMakeArrayInSomeOrder call_inside (inside s) source (changed to new)
      made_inside = made_in_some_order to new has.indices has.each_once refl call_inside source same refl run_inside

      pub mapped_inside : (h : U → T) → ActsAsAt g (inside s) h
          → HasItemsOf (λ index. option_map h (item_at source index)) to (changed to new)
      mapped_inside h acts = mapped to new has.indices has.each_once refl call_inside source same refl run_inside h acts

    -- where the calls are made in row-major order
    pub ran_inside : {new : List T} {s : C} → Maps (CalledAtPair other) s (view_places RowMajor to.view)
        (view_pairs to.items to.view source.items source.view) to.items new
        → CallsMake (λ p x y q. CalledAt g p x y q) (inside s) (row_major_items source) (row_major_items (changed to new))
    ran_inside {new} {s} run =
        let indices = indices_in RowMajor to.view.shape in
        let call : F → U → T → F → Type 0 = λ p x y q. CalledAt g p x y q in
        let given = map (item_at_place source.items) (view_places RowMajor source.view) in
        let these : given ≡ map (item_at_place source.items) (map (place_at source.view) indices) =
        ap (λ shape. map (item_at_place source.items) (map (place_at source.view) (indices_in RowMajor shape))) (sym same) in
        let made = row_major_items (changed to new) in
        subst (λ shape. CallsMake call (inside s) (map (item_at source) (indices_in RowMajor shape)) made) same
        (ran_over to new indices (IsPermutation-refl indices) refl call source same these
        (maps_inside (map (item_at_place to.items) (view_places RowMajor to.view)) given
        (ap length (items_in RowMajor to) ∙ as_many ∙ ap length (sym (items_in RowMajor source))) run))
