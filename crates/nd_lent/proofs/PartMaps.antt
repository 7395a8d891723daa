-- What calls of a closure at the places of a view leave at its indices, where each place has a call, in some order.
use Rattle.std.proofs.Common.{◌≡◌, ℕ, zero, suc, ℤ, true, Option, Some, None, List, [], ◌∷◌, length, map, refl, sym, ap}
use Rattle.std.proofs.Common.{subst, ◌∙◌, arith}
use Rattle.std.specs.Borrow.{MutBor}
use Rattle.std.specs.Fn.{CalledAtMut, Mut}
use Rattle.std.specs.List.{Contains, FoldsTo}
use Rattle.std.specs.Option.{option_map}
use Rattle.std.specs.Prelude.{zip}
use Rattle.std.proofs.lemmas.List.{length-map}
use Rattle.std.proofs.lemmas.List.Sorted.{Contains-permutation, IsPermutation-refl, IsPermutation-sym}
use Rattle.std.proofs.lemmas.Option.{none-some}
use Rattle.ndarray_layout.specs.declared.Order.TheVariants.{RowMajor}
use Rattle.ndarray_layout.specs.Indices.{indices_in, is_index}
use Rattle.ndarray_layout.specs.View.{place_at, view_places}
use Rattle.ndarray_layout.proofs.Laws.Indices.{Contains-indices_in}
use Rattle.ndarray_layout.proofs.Laws.Lists.{Contains-map}
use Rattle.nd_loops.specs.AnyOrder.{CallsMakeArrayInSomeOrder}
use Rattle.nd_access.specs.HasItems.{HasItemsOf, KeepsSpare}
use Rattle.nd_access.specs.Items.{ArrayValue, item_at, item_at_place}
use Rattle.nd_access.specs.Mapped.{ActsAsAtMut, Makes, CallsMake, row_major_items}
use Rattle.nd_access.specs.Written.{Maps}
use Rattle.nd_access.specs.MapsTo.{MapsAt}
use Rattle.nd_lent.proofs.ArrayMaps.{made_in_some_order, mapped as all_mapped, spare as all_spare}
use Rattle.nd_loops.proofs.Laws.Moved.{AreMoved, all_moved}
use Rattle.nd_lent.proofs.Laws.FlatItems.{item_of_index}
use Rattle.nd_access.proofs.Laws.IndexItems.{items_in}
pub use Rattle.nd_lent.proofs.ArrayMaps.{changed}

-- a call is made at no item that is missing
pub some_given : {F X Y : Type 0} (call : F → X → Y → F → Type 0) (given : List (Option X)) (made : List (Option Y)) (p last : F)
    → length given ≡ length made → FoldsTo (Makes call) p (zip given made) last → Contains given None → ⊥
some_given call [] made p last count calls (k, below, is) = absurd (omega (arith, below))
some_given call (x ∷ given) [] p last count calls here = absurd (omega (arith, count))
some_given call (None ∷ given) (y ∷ made) p last count calls here = calls.1
some_given call (Some x ∷ given) (None ∷ made) p last count calls here = calls.1
some_given call (Some x ∷ given) (Some y ∷ made) p last count calls (zero, below, is) = none-some x (sym is)
some_given call (Some x ∷ given) (Some y ∷ made) p last count (next, called, more) (suc k, below, is) =
    some_given call given made next last (omega (arith, count)) more (k, omega (arith, below), is)

-- ---- the items of a view
module _ {F T : Type 0} (g : Mut F (MutBor T × Unit {0}) (Unit {0} × (MutBor T × Unit {0}))) (old : ArrayValue T) (new : List T) where
  abbrev call : F → T → T → F → Type 0
  call = λ p x y q. CalledAtMut g p x tt q y

  abbrev all : List ℤ
  all = view_places RowMajor old.view

  module _ {f : F} where
    -- in row-major order
    pub ran_over : Maps call f all (map (item_at_place old.items) all) old.items new
        → CallsMake call f (row_major_items old) (row_major_items (changed old new))
    ran_over run =
        subst (λ given. CallsMake call f given (row_major_items (changed old new))) (items_in RowMajor old)
        (subst (CallsMake call f (map (item_at_place old.items) all)) (items_in RowMajor (changed old new)) run.ran)

    pub in_order : Maps call f all (map (item_at_place old.items) all) old.items new → MapsAt call f all old.items new
    in_order run = record { places = all; each_once = IsPermutation-refl all; run = run }

    module _ (has : MapsAt call f all old.items new) where
      abbrev places : List ℤ
      places = has.places

      abbrev given : List (Option T)
      given = map (item_at_place old.items) places

      abbrev made : List (Option T)
      made = map (item_at_place new) places

      as_many : length given ≡ length made
      as_many = length-map places (item_at_place old.items) ∙ sym (length-map places (item_at_place new))

      listed : (index : List ℕ) → is_index old.view.shape index ≡ true → Contains places (place_at old.view index)
      listed index here =
          Contains-permutation all places (place_at old.view index) (IsPermutation-sym places all has.each_once)
          (Contains-map (place_at old.view) (indices_in RowMajor old.view.shape) (Contains-indices_in RowMajor old.view.shape index here))

      -- the indices that the calls are made at
      all_places : AreMoved old.view places
      all_places = all_moved old.view places has.each_once

      these : given ≡ map (item_at_place old.items) (map (place_at old.view) all_places.indices)
      these = ap (map (item_at_place old.items)) all_places.are

      pub some_order : CallsMakeArrayInSomeOrder call f old (changed old new)
      some_order = made_in_some_order old new all_places.indices all_places.once all_places.are call old refl these has.run

      pub spare : KeepsSpare old (changed old new)
      spare = all_spare old new all_places.indices all_places.once all_places.are call old refl these has.run

      pub mapped : (h : T → T) → ActsAsAtMut g f h
          → HasItemsOf (λ index. option_map h (item_at old index)) old (changed old new)
      mapped h acts =
          all_mapped old new all_places.indices all_places.once all_places.are call old refl these has.run h
          (λ x y f' called. acts x tt f' y called)

      -- each index has an item
      there : (index : List ℕ) → is_index old.view.shape index ≡ true → item_at old index ≡ None → ⊥
      there index here missing =
          some_given call given made f has.run.ran.last as_many has.run.ran.calls
          (subst (Contains given) (sym (item_of_index old index here) ∙ missing)
          (Contains-map (item_at_place old.items) places (listed index here)))

      -- and where it is overwritten, another one
      pub overwritten : (item : T) → ActsAsAtMut g f (λ x. item) → HasItemsOf (λ index. Some item) old (changed old new)
      overwritten item acts =
          let has_mapped = mapped (λ x. item) acts in
          record {
            view = refl;
            items = λ index here. has_mapped.items index here ∙ written (item_at old index) (there index here);
            spare = spare;
          }
        where
          written : (before : Option T) → (before ≡ None → ⊥) → option_map (λ x. item) before ≡ Some item
          written None some = absurd (some refl)
          written (Some x) some = refl
