-- Calls of a closure at items and what stands beside them, each of which calls another closure at a part of these.
use Rattle.std.proofs.Common.{◌≡◌, ℤ, Option, Some, None, List, [], ◌∷◌, length, map, refl, sym, ap, subst, ◌∙◌, arith}
use Rattle.std.specs.Borrow.{MutBor}
use Rattle.std.specs.Fn.{Called, Mut, Takes}
use Rattle.std.specs.Iterator.{CallableAtEachTurn, Yields}
use Rattle.std.specs.List.{FoldsTo}
use Rattle.std.specs.Option.{option_map, option_zip}
use Rattle.std.specs.Prelude.{zip}
use Rattle.nd_access.specs.Items.{item_at_place}
use Rattle.nd_access.specs.Mapped.{Makes, gives}
use Rattle.nd_access.specs.Written.{Maps}
use Rattle.nd_access.specs.Zipped.{CallableBesideEach, CalledBeside, pairs_of}

-- ---- the part of each
-- all of it
pub all_given : {X : Type 0} (given : List (Option X)) → map (option_map (λ one. one)) given ≡ given
all_given [] = refl
all_given (None ∷ given) = ap (λ given. None ∷ given) (all_given given)
all_given (Some x ∷ given) = ap (λ given. Some x ∷ given) (all_given given)

-- the item, beside nothing
item_alone : {T : Type 0} (item : Option T) → option_map (λ one. one.0) (option_zip item (Some (tt {0}))) ≡ item
item_alone None = refl
item_alone (Some x) = refl

pub items_alone : {T X : Type 0} (items : List (Option T)) (xs : List X) → length items ≡ length xs
    → map (option_map (λ one. one.0)) (pairs_of items (map (λ x. Some (tt {0})) xs)) ≡ items
items_alone [] [] count = refl
items_alone [] (x ∷ xs) count = absurd (omega arith)
items_alone (item ∷ items) [] count = absurd (omega arith)
items_alone (item ∷ items) (x ∷ xs) count =
    let alone = map (option_map (λ one. one.0)) (pairs_of items (map (λ x. Some (tt {0})) xs)) in
    ap (λ item. item ∷ alone) (item_alone item) ∙ ap (λ rest. item ∷ rest) (items_alone items xs (omega (arith, count)))

yields_parts : {X Y : Type 0} (part : X → Y) (given : List (Option X)) (xs : List X) (left : List (Option X)) → Yields gives given xs left
    → Yields gives (map (option_map part) given) (map part xs) (map (option_map part) left)
yields_parts part given [] left yields = ap (map (option_map part)) yields
yields_parts part given (x ∷ xs) left (next, first, more) =
    (map (option_map part) next, ap (map (option_map part)) first, yields_parts part next xs left more)

-- ---- `inside` reads the other closure from the state of the one that calls it
module _ {F C T X V A : Type 0} (value : A → V) (g : Mut C (MutBor T × A) (Unit {0} × (MutBor T × Unit {0})))
    (call : F → X → T → F → Type 0) (inside : C → F) (part : T × V → X)
    (says : (s t : C) (shown left : MutBor T) (beside : A) → Called g s (shown, beside) (tt, (left, tt)) t
    → call (inside s) (part (shown.now, value beside)) left.now (inside t)) where
  called_inside : (s t : C) (one : T × V) (y : T) → CalledBeside value g s one y t → call (inside s) (part one) y (inside t)
  called_inside s t one y called =
      subst (λ y. call (inside s) (part one) y (inside t)) called.leaves
      (subst (λ x. call (inside s) (part (x, one.1)) called.left.now (inside t)) called.shows.0
      (subst (λ v. call (inside s) (part (called.shown.now, v)) called.left.now (inside t)) called.shows.1
      (says s t called.shown called.left called.beside called.called)))

  calls_inside : (ones : List (T × V)) (s t : C) → FoldsTo (λ p one q. (y : T) × CalledBeside value g p one y q) s ones t
      → FoldsTo (λ p x q. (y : T) × call p x y q) (inside s) (map part ones) (inside t)
  calls_inside [] s t calls = ap inside calls
  calls_inside (one ∷ ones) s t (next, (y, called), more) =
      (inside next, (y, called_inside s next one y called), calls_inside ones next t more)

  -- it may be called at each where the other one may be at the part of each
  pub callable_inside : {takes : F → X → Type 0}
      → ((s : C) (shown : MutBor T) (beside : A) → takes (inside s) (part (shown.now, value beside)) → Takes g s (shown, beside))
      → (given : List (Option (T × V))) {parts : List (Option X)} {s : C} → map (option_map part) given ≡ parts
      → CallableAtEachTurn gives (λ p x q. (y : T) × call p x y q) takes parts (inside s) → CallableBesideEach value g given s
  callable_inside {takes} asks given {s = s} are callable = record {
    at = λ ones left q one rest yields calls step shown beside same is.
        asks q shown beside
        (subst (λ x. takes (inside q) (part (x, value beside))) (sym same)
        (subst (λ v. takes (inside q) (part (one.0, v))) (sym is)
        (callable.at (map part ones) (map (option_map part) left) (inside q) (part one) (map (option_map part) rest)
        (subst (λ parts. Yields gives parts (map part ones) (map (option_map part) left)) are (yields_parts part given ones left yields))
        (calls_inside ones s q calls) (ap (map (option_map part)) step))));
  }

  -- and what it made of each the other one made of the parts
  makes_inside : (given : List (Option (T × V))) (made : List (Option T)) (s t : C)
      → FoldsTo (Makes (CalledBeside value g)) s (zip given made) t
      → FoldsTo (Makes call) (inside s) (zip (map (option_map part) given) made) (inside t)
  makes_inside [] made s t calls = ap inside calls
  makes_inside (one ∷ given) [] s t calls = ap inside calls
  makes_inside (None ∷ given) (y ∷ made) s t calls = absurd calls.1
  makes_inside (Some one ∷ given) (None ∷ made) s t calls = absurd calls.1
  makes_inside (Some one ∷ given) (Some y ∷ made) s t (next, called, more) =
      (inside next, called_inside s next one y called, makes_inside given made next t more)

  pub maps_inside : {places : List ℤ} (given : List (Option (T × V))) {parts : List (Option X)} {old new : List T} {s : C}
      → map (option_map part) given ≡ parts → Maps (CalledBeside value g) s places given old new
      → Maps call (inside s) places parts old new
  maps_inside {places} given {new = new} {s = s} are run = record {
    ran = record {
      last = inside run.ran.last;
      calls = subst (λ parts. FoldsTo (Makes call) (inside s) (zip parts (map (item_at_place new) places)) (inside run.ran.last)) are
          (makes_inside given (map (item_at_place new) places) s run.ran.last run.ran.calls);
    };
    others = run.others;
  }
