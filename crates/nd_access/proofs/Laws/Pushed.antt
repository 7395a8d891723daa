-- What calls of a closure at one item after another have appended to a list, and what is left to append.
use Rattle.std.proofs.Common.{◌≡◌, ℕ, ◌+◌, ◌<◌, Option, Some, None, List, [], ◌∷◌, ◌++◌, length, get_or, map, drop, refl, sym, ap}
use Rattle.std.proofs.Common.{append_assoc, subst, ◌∙◌, arith}
use Rattle.std.specs.List.{FoldsTo}
use Rattle.std.specs.Option.{option_map}
use Rattle.std.specs.Prelude.{zip}
use Rattle.std.specs.Iterator.{CallableAtEachTurn}
use Rattle.std.proofs.lemmas.List.{append-nil, drop_more, get_or-map, length-append, length-map, map-append}
use Rattle.ndarray_layout.proofs.Laws.Rows.{length-row_places}
use Rattle.nd_access.specs.Items.{item_at_place}
use Rattle.nd_access.specs.LentRow.{RowValue, places_of, row_items}
use Rattle.nd_access.specs.Mapped.{CallsMake, Makes, gives}
use Rattle.nd_access.specs.Pushed.{HasPushed}
use Rattle.nd_access.proofs.Laws.MapsTo.{acted, callable_after, callable_at_first, callable_at_others}
use Rattle.nd_access.proofs.Laws.MapsTo.{callable_in_part, then_folded, zip_both}

module _ {F X Y : Type 0} {call : F → X → Y → F → Type 0} where
  -- ---- one list of items after another
  pub none_pushed : {f : F} {old : List Y} → HasPushed call f [] old old f
  none_pushed {old = old} = record { made = []; are = sym (append-nil old); count = refl; calls = refl }

  pub one_pushed : {f last : F} {x : X} {old : List Y} (y : Y) → call f x y last → HasPushed call f (Some x ∷ []) old (old ++ y ∷ []) last
  one_pushed {last = last} y called = record { made = y ∷ []; are = refl; count = refl; calls = (last, called, refl) }

  pub both_pushed : {f next last : F} {given more : List (Option X)} {old mid new : List Y} → HasPushed call f given old mid next
      → HasPushed call next more mid new last → HasPushed call f (given ++ more) old new last
  both_pushed {f} {next} {last} {given} {more} {old} first then =
      let pairs : zip (given ++ more) (map Some (first.made ++ then.made))
      ≡ zip given (map Some first.made) ++ zip more (map Some then.made) =
      ap (zip (given ++ more)) (map-append Some first.made then.made)
      ∙ zip_both given more (map Some first.made) (map Some then.made) (sym (length-map first.made Some ∙ first.count)) in
      record {
        made = first.made ++ then.made;
        are = then.are ∙ ap (λ items. items ++ then.made) first.are ∙ append_assoc old first.made then.made;
        count = omega (
          arith,
          length-append first.made then.made,
          length-append given more,
          first.count,
          then.count,
        );
        calls = subst (λ pairs. FoldsTo (Makes call) f pairs last) (sym pairs)
            (then_folded (Makes call) f next last (zip given (map Some first.made)) (zip more (map Some then.made)) first.calls then.calls);
      }

-- ---- what is left of items: once the results at them are appended, those at all are, and the closure may be called at them
module _ {F X Y : Type 0} (call : F → X → Y → F → Type 0) (Q : F → X → Type 0) (f : F) (all : List (Option X)) (old : List Y) where
  pub record AreLeft (left : List (Option X)) (now : List Y) (here : F) : Type 0 where
    pub then : (new : List Y) (last : F) → HasPushed call here left now new last → HasPushed call f all old new last
    pub callable : CallableAtEachTurn gives (λ p x q. (y : Y) × call p x y q) Q left here

module _ {F X Y : Type 0} {call : F → X → Y → F → Type 0} {Q : F → X → Type 0} {f : F} {all : List (Option X)} {old : List Y} where
  pub all_left : {left : List (Option X)} → left ≡ all → CallableAtEachTurn gives (λ p x q. (y : Y) × call p x y q) Q all f
      → AreLeft call Q f all old left old f
  all_left {left} is callable =
      subst (λ items. AreLeft call Q f all old items old f) (sym is) (record { then = λ new last pushed. pushed; callable = callable })

  module _ {left : List (Option X)} {now : List Y} {here : F} where
    pub takes_first : {others : List (Option X)} {x : X} → left ≡ Some x ∷ others → AreLeft call Q f all old left now here → Q here x
    takes_first first are = callable_at_first first are.callable

    pub first_pushed : {others : List (Option X)} {x : X} {q : F} {new : List Y} (y : Y) → left ≡ Some x ∷ others
        → call here x y q → new ≡ now ++ y ∷ [] → AreLeft call Q f all old left now here → AreLeft call Q f all old others new q
    first_pushed {others} {x} {q} {new} y first called is are = record {
      then = λ end last pushed. are.then end last (subst (λ items. HasPushed call here items now end last) (sym first)
          (both_pushed (one_pushed y called) (subst (λ items. HasPushed call q others items end last) is pushed)));
      callable = callable_at_others first are.callable q (y, called);
    }

    pub part_callable : (given others : List (Option X)) → left ≡ given ++ others → AreLeft call Q f all old left now here
        → CallableAtEachTurn gives (λ p x q. (y : Y) × call p x y q) Q given here
    part_callable given others first are =
        callable_in_part given others
        (subst (λ items. CallableAtEachTurn gives (λ p x q. (y : Y) × call p x y q) Q items here) first are.callable)

    pub part_pushed : {given others : List (Option X)} {new : List Y} {q : F} → left ≡ given ++ others → HasPushed call here given now new q
        → AreLeft call Q f all old left now here → AreLeft call Q f all old others new q
    part_pushed {given} {others} {new} {q} first pushed are = record {
      then = λ end last more. are.then end last (subst (λ items. HasPushed call here items now end last) (sym first)
          (both_pushed pushed more));
      callable = callable_after (λ p q x y called. (y, called)) here q given (map Some pushed.made) others
          (sym (length-map pushed.made Some ∙ pushed.count)) pushed.calls
          (subst (λ items. CallableAtEachTurn gives (λ p x q. (y : Y) × call p x y q) Q items here) first are.callable);
    }

  pub all_pushed : {left : List (Option X)} {now : List Y} {here : F} → left ≡ [] → AreLeft call Q f all old left now here
      → HasPushed call f all old now here
  all_pushed {left} {now} {here} none are =
      are.then now here (subst (λ items. HasPushed call here items now now here) (sym none) none_pushed)

-- ---- the items from one on
pub left_from : {X : Type 0} (items : List (Option X)) (i : ℕ) {x : X} → i < length items → get_or items i None ≡ Some x
    → drop i items ≡ Some x ∷ drop (i + 1) items
left_from items i below is = drop_more items i None below ∙ ap (λ item. item ∷ drop (i + 1) items) is

pub left_of_slice : {X : Type 0} (items : List X) (i : ℕ) {x : X} → i < length items → x ≡ get_or items i x
    → drop i (map Some items) ≡ Some x ∷ drop (i + 1) (map Some items)
left_of_slice items i {x} below is =
    left_from (map Some items) i (omega (arith, length-map items Some)) (get_or-map Some items i x None below ∙ ap Some (sym is))

-- ---- the items of a row
pub length-row_items : {X : Type 0} (row : RowValue X) → length (row_items row) ≡ row.row.len
length-row_items row =
    length-map (places_of row.row) (item_at_place row.items) ∙ length-row_places row.row.start row.row.stride row.row.len

-- ---- a list of all results
module _ {F X Y : Type 0} {call : F → X → Y → F → Type 0} {f : F} {given : List (Option X)} {old new : List Y} (none : old ≡ [])
    (run : (last : F) × HasPushed call f given old new last) where
  results : new ≡ run.1.made
  results = run.1.are ∙ ap (λ items. items ++ run.1.made) none

  listed : FoldsTo (Makes call) f (zip given (map Some new)) run.0
  listed = subst (λ made. FoldsTo (Makes call) f (zip given (map Some made)) run.0) (sym results) run.1.calls

  pub count_listed : length new ≡ length given
  count_listed = ap length results ∙ run.1.count

  pub ran_listed : {all : List (Option X)} → given ≡ all → CallsMake call f all (map Some new)
  ran_listed is = subst (λ items. CallsMake call f items (map Some new)) is (record { last = run.0; calls = listed })

  pub mapped_listed : {all : List (Option X)} → given ≡ all → (h : X → Y)
      → ((x : X) (y : Y) (f' : F) → call f x y f' → (f' ≡ f) × (y ≡ h x)) → map Some new ≡ map (option_map h) all
  mapped_listed is h acts =
      acted call h acts given (map Some new) f run.0 refl (sym (length-map new Some ∙ count_listed)) listed ∙ ap (map (option_map h)) is
