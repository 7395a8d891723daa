-- Two items of groups that share an index: what is known of the groups so far.
use Rattle.std.proofs.Common.{◌≡◌, ◌≢◌, ℕ, ◌+◌, ◌-◌, ◌<◌, ◌≤◌, inl, inr, None, List, [], ◌∷◌, length, get_or, map, drop}
use Rattle.std.proofs.Common.{sym, ap, subst, ◌∙◌, refl, arith}
use Rattle.std.specs.List.{All, AllPairs, between}
use Rattle.std.specs.Option.{option_or}
use Rattle.std.specs.Prelude.{IsSomeAnd, slice_get}
use Rattle.std.proofs.lemmas.Option.{slice_get-get_or, slice_get_past}
use Rattle.std.proofs.lemmas.Bool.{cases_lt}
use Rattle.std.proofs.lemmas.List.{get_or-drop, get_or-map, get_or-take, length-map, length-take-le, length-drop}
use Rattle.std.proofs.lemmas.List.Elements.{All-drop, All-head, All-tail, All-take}
use Rattle.nd_slice.proofs.Definitions.{AreApart, Fit, Intersect, IntersectAt, SliceInfoElem, slices_fault}
use Rattle.nd_slice.proofs.SlicesInGroups.{nothing}
use Rattle.nd_slice.specs.SlicesInGroups.{AreApartAcross, AreInGroups, HasNoFault, elems_at, group_at}
use Rattle.nd_slice.specs.declared.slices_in_groups.Grouped.{Grouped}

abbrev pub elems_of : Grouped → List SliceInfoElem
elems_of item = item.elems.now

-- what is known of an item that a list has
some_at : {X : Type 0} (xs : List X) (i : ℕ) (d : X) (P : X → Type 0) → IsSomeAnd (slice_get xs i) P → (i < length xs) × P (get_or xs i d)
some_at xs i d P h = elim (cases_lt i (length xs)) [
  | inl below ↦ (below, subst (λ o. IsSomeAnd o P) (slice_get-get_or xs i d below) h)
  | inr past ↦ absurd (subst (λ o. IsSomeAnd o P) (slice_get_past xs i past) h)
]

-- the item at a position
pub elems_at_is : (items : List Grouped) (k : ℕ) → k < length items → elems_at items k ≡ (get_or items k nothing).elems.now
elems_at_is items k below = get_or-map elems_of items k nothing [] below

-- those from one position up to another
module _ (items : List Grouped) (from to : ℕ) (within : to ≤ length items) where
  pub length-part : from ≤ to → length (map elems_of (between from to items)) ≡ to - from
  length-part order =
      length-map (between from to items) elems_of
      ∙ length-take-le (to - from) (drop from items) (omega (arith, within, order, length-drop from items))

  pub part_at : (k : ℕ) → from + k < to → get_or (map elems_of (between from to items)) k [] ≡ elems_at items (from + k)
  part_at k below =
      let long = length-take-le (to - from) (drop from items) (omega (arith, within, below, length-drop from items)) in
      get_or-map elems_of (between from to items) k nothing [] (omega (arith, below, long))
      ∙ ap elems_of (get_or-take (to - from) (drop from items) k nothing (omega (arith, below)) ∙ get_or-drop from items k nothing)
      ∙ sym (elems_at_is items (from + k) (omega (arith, below, within)))

module _ (fit : Fit) (shape : List ℕ) where
  fault_of_all : (items : List Grouped) → All (HasNoFault fit shape) items → slices_fault fit shape (map elems_of items) ≡ None
  fault_of_all [] all = refl
  fault_of_all (item ∷ items) all =
      ap (λ fault. option_or fault (slices_fault fit shape (map elems_of items))) (All-head (HasNoFault fit shape) item items all)
      ∙ fault_of_all items (All-tail (HasNoFault fit shape) item items all)

  pub part_fits : (items : List Grouped) (from to : ℕ) → All (HasNoFault fit shape) items
      → slices_fault fit shape (map elems_of (between from to items)) ≡ None
  part_fits items from to all =
      fault_of_all (between from to items)
      (All-take (HasNoFault fit shape) (to - from) (drop from items) (All-drop (HasNoFault fit shape) from items all))

  module _ (items : List Grouped) where
    -- no two of the items from one position up to another share an index
    abbrev pub AreApartWithin : ℕ → ℕ → Type 0
    AreApartWithin from to = (i j : ℕ) → from ≤ i → i < j → j < to → AreApart fit shape (elems_at items i) (elems_at items j)

    pub within_part : (from to : ℕ) → to ≤ length items → AllPairs (AreApart fit shape) (map elems_of (between from to items))
        → AreApartWithin from to
    within_part from to within all i j first before below =
        let long : length (map elems_of (between from to items)) ≡ to - from =
        length-part items from to within (omega (arith, first, before, below)) in
        let one : get_or (map elems_of (between from to items)) (i - from) [] ≡ elems_at items i =
        part_at items from to within (i - from) (omega (arith, first, before, below))
        ∙ ap (elems_at items) (omega (arith, first)) in
        let other : get_or (map elems_of (between from to items)) (j - from) [] ≡ elems_at items j =
        part_at items from to within (j - from) (omega (arith, first, before, below))
        ∙ ap (elems_at items) (omega (arith, first, before)) in
        subst (λ slice. AreApart fit shape slice (elems_at items j)) one
        (subst (AreApart fit shape (get_or (map elems_of (between from to items)) (i - from) [])) other
        (all (i - from) (j - from) [] (omega (arith, first, before)) (omega (arith, first, before, below, long))))

    pub shared_part : (from to i j : ℕ) → from ≤ to → to ≤ length items
        → IntersectAt fit shape (map elems_of (between from to items)) i j
        → (i < j) × (from + j < to) × Intersect fit shape (elems_at items (from + i)) (elems_at items (from + j))
    shared_part from to i j order within found =
        let slices = map elems_of (between from to items) in
        let long = length-part items from to within order in
        let one = some_at slices i [] (λ slice. IsSomeAnd (slice_get slices j) (Intersect fit shape slice)) found.1 in
        let other = some_at slices j [] (Intersect fit shape (get_or slices i [])) one.1 in
        let below : from + j < to = omega (arith, other.0, long, order) in (
          found.0,
          below,
          subst (λ slice. Intersect fit shape slice (elems_at items (from + j)))
              (part_at items from to within i (omega (arith, found.0, below)))
              (subst (Intersect fit shape (get_or slices i [])) (part_at items from to within j below) other.1),
        )

    -- no two before a group share an index, their groups are others, and the group goes up to a position
    pub record GroupsBefore (from to : ℕ) : Type 0 where
      pub begun : from ≤ to
      pub apart : AreApartWithin 0 from
      pub across : (i j : ℕ) → i < from → from ≤ j → j < length items → group_at items i ≢ group_at items j
      pub same : (k : ℕ) → from ≤ k → k < to → group_at items k ≡ group_at items from

    across_at : AreApartAcross fit shape items → (i j : ℕ) → i < j → j < length items → group_at items i ≢ group_at items j
        → AreApart fit shape (elems_at items i) (elems_at items j)
    across_at across i j before below ne =
        let under : i < length items = omega (arith, before, below) in
        subst (λ slice. AreApart fit shape slice (elems_at items j)) (sym (elems_at_is items i under))
        (subst (AreApart fit shape (get_or items i nothing).elems.now) (sym (elems_at_is items j below))
        (across i j nothing before below (λ e. ne (get_or-map (λ (item : Grouped). item.group) items i nothing 0 under ∙ e
        ∙ sym (get_or-map (λ (item : Grouped). item.group) items j nothing 0 below)))))

    pub apart_up_to : (from to : ℕ) → AreApartAcross fit shape items → to ≤ length items → GroupsBefore from to
        → AreApartWithin from to → AreApartWithin 0 to
    apart_up_to from to across within known group i j first before below = elim (cases_lt j from) [
      | inl earlier ↦ known.apart i j first before earlier
      | inr later ↦ elim (cases_lt i from) [
        | inl earlier ↦ across_at across i j before (omega (arith, below, within))
            (known.across i j earlier later (omega (arith, below, within)))
        | inr both ↦ group i j both before below
      ]
    ]

    -- the next item is of another group
    pub group_ends : (from to : ℕ) → AreInGroups items → AreApartAcross fit shape items → to < length items → GroupsBefore from to
        → AreApartWithin from to → group_at items to ≢ group_at items from → GroupsBefore to (to + 1)
    group_ends from to order across within known group other = record {
      begun = omega arith;
      apart = apart_up_to from to across (omega (arith, within)) known group;
      across = λ i j before after below. elim (cases_lt i from) [
        | inl earlier ↦ known.across i j earlier (omega (arith, known.begun, after)) below
        | inr later ↦ λ e.
            let is = known.same i later before in
            let low = order.in_order i to before within in
            elim (cases_lt to j) [
              | inl more ↦ other (omega (arith, is, e, low, order.in_order to j more below))
              | inr at ↦ other (subst (λ k. group_at items k ≡ group_at items from) {x = j} (omega (arith, at, after)) (sym e ∙ is))
            ]
      ];
      same = λ k first last. ap (group_at items) (omega (arith, first, last));
    }

    -- the next item is of the same group
    pub group_goes_on : (from to : ℕ) → GroupsBefore from to → group_at items to ≡ group_at items from → GroupsBefore from (to + 1)
    group_goes_on from to known is = record {
      begun = omega (arith, known.begun);
      apart = known.apart;
      across = known.across;
      same = λ k first last. elim (cases_lt k to) [
        | inl before ↦ known.same k first before
        | inr at ↦ subst (λ n. group_at items n ≡ group_at items from) {x = to} (omega (arith, at, last)) is
      ];
    }

    pub no_group : GroupsBefore 0 0
    no_group = record {
      begun = omega arith;
      apart = λ i j first before below. absurd (omega (arith, below));
      across = λ i j before. absurd (omega (arith, before));
      same = λ k first last. absurd (omega (arith, last));
    }

-- one group is in order
pub in_one_group : (items : List Grouped) → All (λ item. item.group ≡ 0) items → AreInGroups items
in_one_group items all = record {
  in_order = λ i j before below.
      let under : i < length items = omega (arith, before, below) in
      omega (arith, get_or-map (λ (item : Grouped). item.group) items i nothing 0 under, all i nothing under);
}
