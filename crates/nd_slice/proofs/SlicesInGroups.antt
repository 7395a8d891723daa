-- Slices in groups: what sorting them and cutting the groups leaves true.
use Rattle.std.proofs.Common.{◌≡◌, ◌≢◌, ℕ, ◌+◌, ◌<◌, ◌≤◌, ◌⊎◌, ◌++◌, inl, inr, false, None, List, [], ◌∷◌, length, get_or, map}
use Rattle.std.proofs.Common.{sym, ap, subst, ◌∙◌, refl, arith, nat_cmp, is_lt}
use Rattle.std.specs.List.{All, AllPairs}
use Rattle.std.specs.List.Sorted.{IsPermutation, IsSortedByKey}
use Rattle.std.specs.Ordering.{ordering_then}
use Rattle.std.proofs.lemmas.Bool.{cases_lt}
use Rattle.std.proofs.lemmas.Bool.Decides.{nat_tests}
use Rattle.std.proofs.lemmas.Cmp.{nat_cmp_total, on_total, then_total}
use Rattle.std.proofs.lemmas.List.{get_or-map, get_or_append_left, get_or_push, length-map, map_push}
use Rattle.std.proofs.lemmas.List.Elements.{All-map}
use Rattle.std.proofs.lemmas.List.Sorted.{All-permutation, IsPermutation-map, ranks_by, sorted_far}
use Rattle.nd_slice.proofs.Definitions.{AreApart, Fit, SliceInfoElem, argument_fault}
use Rattle.nd_slice.proofs.GroupsCut.{CutSoFar, new_group, same_group}
use Rattle.nd_slice.proofs.Laws.Intersect.{intersect_symmetric}
use Rattle.nd_slice.proofs.Laws.RangesApart.{apart_by_remainder, apart_past}
use Rattle.nd_slice.proofs.Permuted.{all_pairs_permuted}
use Rattle.nd_slice.specs.SlicesInGroups.{AreApartAcross, AreSorted, HasNoFault, IsCut, IsOnAxis, end_at, group_at, kept, named, start_at}
use Rattle.nd_slice.specs.declared.slices_in_groups.Grouped.{Grouped}

-- ---- what a function makes of the items of a list
module _ {X Y : Type 0} (f : X → Y) where
  pub all_of_map : (P : Y → Type 0) (xs : List X) → All P (map f xs) → All (λ x. P (f x)) xs
  all_of_map P xs all = λ k d below.
      subst P (get_or-map f xs k d (f d) below) (all k (f d) (omega (arith, below, length-map xs f)))

  pub all_pairs_of_map : (R : Y → Y → Type 0) (xs : List X) → AllPairs R (map f xs) → AllPairs (λ x y. R (f x) (f y)) xs
  all_pairs_of_map R xs all = λ i j d before below.
      subst (λ x. R x (f (get_or xs j d))) (get_or-map f xs i d (f d) (omega (arith, before, below)))
      (subst (R (get_or (map f xs) i (f d))) (get_or-map f xs j d (f d) below)
      (all i j (f d) before (omega (arith, below, length-map xs f))))

  pub map_all_pairs : (R : Y → Y → Type 0) (xs : List X) → AllPairs (λ x y. R (f x) (f y)) xs → AllPairs R (map f xs)
  map_all_pairs R [] all = λ i j d before below. absurd (omega (arith, below))
  map_all_pairs R (x ∷ xs) all = λ i j d before below.
      let under : j < length (x ∷ xs) = omega (arith, below, length-map (x ∷ xs) f) in
      subst (λ y. R y (get_or (map f (x ∷ xs)) j d)) (sym (get_or-map f (x ∷ xs) i x d (omega (arith, before, under))))
      (subst (R (f (get_or (x ∷ xs) i x))) (sym (get_or-map f (x ∷ xs) j x d under)) (all i j x before under))

-- ---- slices that are sorted
not_after : (g h s t : ℕ) → is_lt (ordering_then (nat_cmp h g) (nat_cmp t s)) ≡ false → h ≤ g → (g ≤ h) × (s ≤ t)
not_after g h s t is low = (grind (arith, nat_tests), grind (arith, nat_tests))

in_order_by_test : (g h s t : ℕ) → is_lt (ordering_then (nat_cmp h g) (nat_cmp t s)) ≡ false → (g < h) ⊎ ((g ≡ h) × (s ≤ t))
in_order_by_test g h s t is = elim (cases_lt g h) [
  | inl less ↦ inl less
  | inr low ↦ let both = not_after g h s t is low in inr (omega (arith, low, both.0), both.1)
]

abbrev pub key_of : Grouped → ℕ × ℕ
key_of item = (item.group, item.start)

sorted_from : (d : Grouped) (items : List Grouped)
    → IsSortedByKey key_of (λ x y. ordering_then (nat_cmp x.0 y.0) (nat_cmp x.1 y.1)) items → AreSorted items
sorted_from d items sorted = record {
  in_order = λ i j before below.
      let total = then_total (on_total (λ (p : ℕ × ℕ). p.0) nat_cmp_total) (on_total (λ (p : ℕ × ℕ). p.1) nat_cmp_total) in
      let far = sorted_far (λ x y. is_lt (ordering_then (nat_cmp (key_of x).0 (key_of y).0) (nat_cmp (key_of x).1 (key_of y).1)))
      (ranks_by total key_of) items sorted i j d (omega (arith, before)) below in
      let under : i < length items = omega (arith, before, below) in
      rw (
        get_or-map (λ (item : Grouped). item.group) items i d 0 under,
        get_or-map (λ (item : Grouped). item.group) items j d 0 below,
        get_or-map (λ (item : Grouped). item.start) items i d 0 under,
        get_or-map (λ (item : Grouped). item.start) items j d 0 below,
      )
      (in_order_by_test (get_or items i d).group (get_or items j d).group (get_or items i d).start (get_or items j d).start far);
}

pub sorted_by_key : (items : List Grouped)
    → IsSortedByKey key_of (λ x y. ordering_then (nat_cmp x.0 y.0) (nat_cmp x.1 y.1)) items → AreSorted items
sorted_by_key [] sorted = record { in_order = λ i j before below. absurd (omega (arith, below)) }
sorted_by_key (item ∷ items) sorted = sorted_from item (item ∷ items) sorted

-- ---- one more item in a group
-- its numbers
pub record IsItem (items : List Grouped) (index group start end : ℕ) : Type 0 where
  pub below : index < length items
  pub group_is : group_at items index ≡ group
  pub start_is : start_at items index ≡ start
  pub end_is : end_at items index ≡ end

-- what stands past the end of a list
abbrev pub nothing : Grouped
nothing = record { group = 0; start = 0; end = 0; position = 0; elems = record { ref_ptr = (0, 0); now = [] } }

pub is_item : (items : List Grouped) (index : ℕ) (d : Grouped) → index < length items
    → IsItem items index (get_or items index d).group (get_or items index d).start (get_or items index d).end
is_item items index d below = record {
  below = below;
  group_is = get_or-map (λ (item : Grouped). item.group) items index d 0 below;
  start_is = get_or-map (λ (item : Grouped). item.start) items index d 0 below;
  end_is = get_or-map (λ (item : Grouped). item.end) items index d 0 below;
}

module _ (items old : List Grouped) (index : ℕ) (item : Grouped) (count : length old ≡ index) where
  pushed_before : (i : ℕ) → i < index → group_at (old ++ item ∷ []) i ≡ group_at old i
  pushed_before i before =
      ap (λ xs. get_or xs i 0) (map_push (λ (one : Grouped). one.group) old item)
      ∙ get_or_append_left (map (λ (one : Grouped). one.group) old) (item.group ∷ []) 0 i
      (omega (arith, before, count, length-map old (λ (one : Grouped). one.group)))

  pushed_at : group_at (old ++ item ∷ []) index ≡ item.group
  pushed_at =
      ap (λ xs. get_or xs index 0) (map_push (λ (one : Grouped). one.group) old item)
      ∙ get_or_push (map (λ (one : Grouped). one.group) old) item.group 0 index (length-map old (λ (one : Grouped). one.group) ∙ count)

  abbrev pub So : ℕ → (ℕ → ℕ) → ℕ → ℕ → ℕ → Type 0
  So = CutSoFar (group_at items) (start_at items) (end_at items) (length items)

  module _ (sorted : AreSorted items) (number last reach group start end far : ℕ) (so_far : So index (group_at old) number last reach)
      (is : IsItem items index group start end) (reaches : end ≤ far) where
    pub begin_group : (group ≢ last) ⊎ (reach ≤ start) → (next its : ℕ) → next ≡ number + 1 → its ≡ group → item.group ≡ next
        → So (index + 1) (group_at (old ++ item ∷ [])) next its far
    begin_group cuts next its next_is its_is numbered =
        subst (λ n. So (index + 1) (group_at (old ++ item ∷ [])) n its far) (sym next_is)
        (subst (λ g. So (index + 1) (group_at (old ++ item ∷ [])) (number + 1) g far) (is.group_is ∙ sym its_is)
        (new_group (group_at items) (start_at items) (end_at items) (length items) sorted.in_order index (group_at old)
        (group_at (old ++ item ∷ [])) number last reach so_far
        (elim cuts [ inl other ↦ inl (λ e. other (sym is.group_is ∙ e)) | inr past ↦ inr (omega (arith, past, is.start_is)) ])
        (record { same = pushed_before; at = pushed_at ∙ numbered ∙ next_is; below = is.below }) far (omega (arith, reaches, is.end_is))))

    pub stay_in_group : group ≡ last → reach ≤ far → (next its : ℕ) → next ≡ number → its ≡ last → item.group ≡ next
        → So (index + 1) (group_at (old ++ item ∷ [])) next its far
    stay_in_group same further next its next_is its_is numbered =
        subst (λ n. So (index + 1) (group_at (old ++ item ∷ [])) n its far) (sym next_is)
        (subst (λ g. So (index + 1) (group_at (old ++ item ∷ [])) number g far) (sym its_is)
        (same_group (group_at items) (start_at items) (end_at items) (length items) sorted.in_order index (group_at old)
        (group_at (old ++ item ∷ [])) number last reach so_far (is.group_is ∙ same)
        (record { same = pushed_before; at = pushed_at ∙ numbered ∙ next_is; below = is.below }) far further
        (omega (arith, reaches, is.end_is))))

-- ---- slices of different groups stay apart
module _ (fit : Fit) (shape : List ℕ) where
  -- slices that fit do so in any order
  pub fit_moved : (xs ys : List Grouped) → IsPermutation (map named xs) (map named ys) → All (HasNoFault fit shape) xs
      → All (HasNoFault fit shape) ys
  fit_moved xs ys moved all =
      let P : ℕ × List SliceInfoElem → Type 0 = λ one. argument_fault fit shape one.1 ≡ None in
      all_of_map named P ys (All-permutation P (map named xs) (map named ys) moved (All-map P named xs all))

  abbrev AreApartIn : ℕ × (ℕ × List SliceInfoElem) → ℕ × (ℕ × List SliceInfoElem) → Type 0
  AreApartIn one other = one.0 ≢ other.0 → AreApart fit shape one.1.1 other.1.1

  across_kept : (xs ys : List Grouped) → map kept ys ≡ map kept xs → AreApartAcross fit shape xs → AreApartAcross fit shape ys
  across_kept xs ys same across =
      all_pairs_of_map kept AreApartIn ys (subst (AllPairs AreApartIn) (sym same) (map_all_pairs kept AreApartIn xs across))

  across_moved : (xs ys : List Grouped) → IsPermutation xs ys → AreApartAcross fit shape xs → AreApartAcross fit shape ys
  across_moved xs ys moved across =
      all_pairs_permuted (λ (x y : Grouped). x.group ≢ y.group → AreApart fit shape x.elems.now y.elems.now)
      (λ x y apart ne shared. apart (λ e. ne (sym e)) (intersect_symmetric fit shape y.elems.now x.elems.now shared)) xs ys moved across

  pub named_of_kept : (xs ys : List Grouped) → map kept ys ≡ map kept xs → map named ys ≡ map named xs
  named_of_kept [] [] same = refl
  named_of_kept [] (y ∷ ys) same = absurd (omega (arith, ap length same))
  named_of_kept (x ∷ xs) [] same = absurd (omega (arith, ap length same))
  named_of_kept (x ∷ xs) (y ∷ ys) same =
      let none = kept x in
      let first : kept y ≡ kept x = ap (λ zs. get_or zs 0 none) same in
      let rest : map kept ys ≡ map kept xs = ap (λ zs. rest_of zs) same in
      ap (λ z. z.1 ∷ map named ys) first ∙ ap (λ zs. named x ∷ zs) (named_of_kept xs ys rest)
    where
      rest_of : List (ℕ × (ℕ × List SliceInfoElem)) → List (ℕ × (ℕ × List SliceInfoElem))
      rest_of [] = []
      rest_of (z ∷ zs) = zs

  -- one that ends before another begins is apart from it: by their ranges, or by their remainders
  apart_on : (axis by : ℕ) (one other : Grouped) → HasNoFault fit shape one → HasNoFault fit shape other → IsOnAxis fit shape axis by one
      → IsOnAxis fit shape axis by other → one.end ≤ other.start → AreApart fit shape one.elems.now other.elems.now
  apart_on axis by one other fits also on beside past = elim (cases_lt 0 by) [
    | inl some ↦
        let first = on.remainder some in
        let second = beside.remainder some in
        apart_by_remainder fit shape axis by one.elems.now other.elems.now fits also on.there first.0 second.0
        (λ same. absurd (omega (arith, past, first.1, first.2, second.1, same)))
    | inr none ↦
        let first = on.range (omega (arith, none)) in
        let second = beside.range (omega (arith, none)) in
        apart_past fit shape axis one.elems.now other.elems.now fits also
        (record { there = on.there; past = omega (arith, past, first.1, second.0) })
  ]

  -- those that are cut on an axis
  pub record AreCut (axis by : ℕ) (items new sorted cut : List Grouped) : Type 0 where
    pub kept_is : map kept new ≡ map kept items
    pub on_axis : All (IsOnAxis fit shape axis by) new
    pub moved : IsPermutation new sorted
    pub named_is : map named cut ≡ map named sorted
    pub is_cut : IsCut sorted cut

  module _ (axis by : ℕ) (items new sorted cut : List Grouped) (are : AreCut axis by items new sorted cut) where
    pub named_moved : IsPermutation (map named items) (map named cut)
    named_moved =
        subst (λ ns. IsPermutation ns (map named cut)) (named_of_kept items new are.kept_is)
        (subst (IsPermutation (map named new)) (sym are.named_is) (IsPermutation-map named new sorted are.moved))

    same_elems : (i : ℕ) (d : Grouped) → i < length sorted → (get_or sorted i d).elems.now ≡ (get_or cut i d).elems.now
    same_elems i d below =
        let count : length cut ≡ length sorted = sym (length-map cut named) ∙ ap length are.named_is ∙ length-map sorted named in
        ap (λ (one : ℕ × List SliceInfoElem). one.1) (sym (get_or-map named sorted i d (named d) below)
        ∙ ap (λ ns. get_or ns i (named d)) (sym are.named_is) ∙ get_or-map named cut i d (named d) (omega (arith, below, count)))

    pub apart_in_cut : All (HasNoFault fit shape) items → AreApartAcross fit shape items → AreApartAcross fit shape cut
    apart_in_cut fits across = λ i j d before below ne.
        let count : length cut ≡ length sorted = sym (length-map cut named) ∙ ap length are.named_is ∙ length-map sorted named in
        let over : j < length sorted = omega (arith, below, count) in
        let under : i < length sorted = omega (arith, before, over) in
        let one = get_or sorted i d in
        let other = get_or sorted j d in
        let in_sorted = across_moved new sorted are.moved (across_kept items new are.kept_is across) in
        let fit_sorted : All (HasNoFault fit shape) sorted =
        fit_moved new sorted (IsPermutation-map named new sorted are.moved)
        (all_of_map named (λ (z : ℕ × List SliceInfoElem). argument_fault fit shape z.1 ≡ None) new
        (subst (All (λ (z : ℕ × List SliceInfoElem). argument_fault fit shape z.1 ≡ None)) (sym (named_of_kept items new are.kept_is))
        (All-map (λ (z : ℕ × List SliceInfoElem). argument_fault fit shape z.1 ≡ None) named items fits))) in
        let axes : All (IsOnAxis fit shape axis by) sorted =
        All-permutation (IsOnAxis fit shape axis by) new sorted are.moved are.on_axis in
        let differ : group_at cut i ≢ group_at cut j = λ e. ne (
        sym (get_or-map (λ (item : Grouped). item.group) cut i d 0 (omega (arith, before, below))) ∙ e
        ∙ get_or-map (λ (item : Grouped). item.group) cut j d 0 below) in
        let apart : AreApart fit shape one.elems.now other.elems.now = elim (are.is_cut.parted i j before over differ) [
          | inl groups ↦ in_sorted i j d before over (λ e. groups (get_or-map (λ (item : Grouped). item.group) sorted i d 0 under ∙ e
              ∙ sym (get_or-map (λ (item : Grouped). item.group) sorted j d 0 over)))
          | inr past ↦ apart_on axis by one other (fit_sorted i d under) (fit_sorted j d over) (axes i d under) (axes j d over)
              (omega (
                arith,
                past,
                get_or-map (λ (item : Grouped). item.end) sorted i d 0 under,
                get_or-map (λ (item : Grouped). item.start) sorted j d 0 over,
              ))
        ] in
        subst (λ slice. AreApart fit shape slice (get_or cut j d).elems.now) (same_elems i d under)
        (subst (AreApart fit shape one.elems.now) (same_elems j d over) apart)
