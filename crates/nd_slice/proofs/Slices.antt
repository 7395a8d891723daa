-- Lists of slice arguments: their faults, each of them by its position, and their order along an axis.
use Rattle.std.proofs.Common.{◌≡◌, ℕ, ◌+◌, ◌-◌, ◌<◌, ◌≤◌, Bool, true, false, None, Some, List, [], ◌∷◌, length, get_or, map, drop}
use Rattle.std.proofs.Common.{sym, ap, subst, ◌∙◌, below_more, arith, max, min}
use Rattle.std.specs.List.{AllPairs}
use Rattle.std.specs.Prelude.{IfSome, IsSomeAnd, Option, slice_get}
use Rattle.std.proofs.lemmas.List.{drop_more, drop_all, get_or-map, get_or_default, length-map}
use Rattle.std.proofs.lemmas.Option.{slice_get-get_or}
use Rattle.nd_slice.proofs.Definitions.{AreApart, AreInOrder, Fit, Intersect, IntersectAt, IsPast, SliceInfoElem, argument_fault, end_on}
use Rattle.nd_slice.proofs.Definitions.{position_of}
use Rattle.nd_slice.proofs.Definitions.{slice_at, slices_fault, start_on}
use Rattle.nd_slice.proofs.Laws.Intersect.{intersect_symmetric}
use Rattle.nd_slice.proofs.Laws.SliceFault.{each_fits}
use Rattle.nd_slice.proofs.Laws.RangesApart.{apart_past}

-- ---- what a function makes of each item of a list
module _ {X Y : Type 0} (f : X → Y) (xs : List X) (i : ℕ) where
  -- what is left of it from one item on
  pub next : {x : X} → i < length xs → x ≡ get_or xs i x → drop i (map f xs) ≡ f x ∷ drop (i + 1) (map f xs)
  next {x} below is =
      drop_more (map f xs) i (f x) (omega (arith, length-map xs f, below))
      ∙ ap (λ y. y ∷ drop (i + 1) (map f xs)) (get_or-map f xs i x (f x) below ∙ ap f (sym is))

  pub ended : length xs ≤ i → drop i (map f xs) ≡ []
  ended end = drop_all i (map f xs) (omega (arith, length-map xs f, end))

  pub item_at : (d : Y) {x : X} → i < length xs → x ≡ get_or xs i x → f x ≡ get_or (map f xs) i d
  item_at d {x} below is = ap f is ∙ sym (get_or-map f xs i x d below)

-- ---- slices that fit
pub position_below : (backwards : Bool) (count turn : ℕ) → turn < count → position_of backwards count turn < count
position_below true count turn below = omega (arith, below)
position_below false count turn below = below

module _ (fit : Fit) (shape : List ℕ) (slices : List (List SliceInfoElem)) (backwards : Bool) where
  abbrev pub at : ℕ → List SliceInfoElem
  at turn = slice_at slices backwards turn

  pub fits_read : (turn : ℕ) → slices_fault fit shape slices ≡ None → turn < length slices → argument_fault fit shape (at turn) ≡ None
  fits_read turn none below =
      each_fits fit shape slices none (position_of backwards (length slices) turn) []
      (position_below backwards (length slices) turn below)

  -- ---- slices in order, with none of the first count that begins after a number
  pub record SoFar (axis count last : ℕ) : Type 0 where
    pub order : (i j : ℕ) → i ≤ j → j < count → start_on fit shape axis (at i) ≤ start_on fit shape axis (at j)
    pub before : (i : ℕ) → i < count → start_on fit shape axis (at i) ≤ last

  -- one more that begins there or later
  pub order_more : (axis count last : ℕ) → last ≤ start_on fit shape axis (at count) → SoFar axis count last
      → SoFar axis (count + 1) (start_on fit shape axis (at count))
  order_more axis count last later so_far =
      let start = λ (k : ℕ). start_on fit shape axis (at k) in
      let before : (i : ℕ) → i < count + 1 → start i ≤ start count =
      below_more (λ i. start i ≤ start count) count (λ i below. omega (arith, so_far.before i below, later)) (omega arith) in
      record {
        order = λ i j early below. below_more (λ k. i ≤ k → start i ≤ start k) count (λ k under first. so_far.order i k first under)
            (λ first. before i (omega (arith, first))) j below early;
        before = before;
      }

  -- a slice and a position, at or after another one, of slices that fit as it does
  pub record ReadAfter (slice : List SliceInfoElem) (here later : ℕ) : Type 0 where
    pub fits : argument_fault fit shape slice ≡ None
    pub none : slices_fault fit shape slices ≡ None
    pub after : here ≤ later
    pub below : later < length slices

  -- where one begins past a slice, each that is read after it does too
  apart_from_here : (axis : ℕ) (slice : List SliceInfoElem) (here later : ℕ) → AreInOrder fit shape axis slices backwards
      → IsPast fit shape axis slice (at here) → ReadAfter slice here later → AreApart fit shape slice (at later)
  apart_from_here axis slice here later order is read =
      apart_past fit shape axis slice (at later) read.fits (fits_read later read.none read.below)
      (record { there = is.there; past = omega (arith, is.past, order.in_order here later read.after read.below) })

  -- the same where it isn't known on which axis they are in order: where it is, the slice ends there, and the one at a position begins
  -- at that end or later
  pub record BeginsPast (axis : Option ℕ) (end : Option (ℕ × ℕ)) (slice : List SliceInfoElem) (here : ℕ) : Type 0 where
    pub order : IfSome axis (λ a. AreInOrder fit shape a slices backwards)
    pub end_on_axis : IfSome end (λ e. (axis ≡ Some e.0) × (e.0 < length shape) × (e.1 ≡ end_on fit shape e.0 slice))
    pub past : IsSomeAnd end (λ e. (e.0 < length shape) × (e.1 ≤ start_on fit shape e.0 (at here)))

  pub apart_in_order : (axis : Option ℕ) (end : Option (ℕ × ℕ)) (slice : List SliceInfoElem) (here later : ℕ)
      → BeginsPast axis end slice here → ReadAfter slice here later → AreApart fit shape slice (at later)
  apart_in_order axis None slice here later begins read = absurd begins.past
  apart_in_order axis (Some end) slice here later begins read =
      let known = begins.end_on_axis in
      apart_from_here end.0 slice here later
      (subst (λ a. IfSome a (λ number. AreInOrder fit shape number slices backwards)) known.0 begins.order)
      (record { there = begins.past.0; past = omega (arith, known.2, begins.past.1) }) read

-- ---- two slices by the order in which they are read
module _ (fit : Fit) (shape : List ℕ) (slices : List (List SliceInfoElem)) where
  -- those at any two positions are apart where each is apart from those that are read after it
  pub all_apart : (backwards : Bool) → ((turn later : ℕ) → turn < later → later < length slices
      → AreApart fit shape (slice_at slices backwards turn) (slice_at slices backwards later)) → AllPairs (AreApart fit shape) slices
  all_apart backwards apart i j d before below =
      subst (λ one. AreApart fit shape one (get_or slices j d)) (same i (omega (arith, before, below)))
      (subst (AreApart fit shape (get_or slices i [])) (same j below) (by backwards apart))
    where
      same : (k : ℕ) → k < length slices → get_or slices k [] ≡ get_or slices k d
      same k below = get_or_default slices k [] d below

      back : (k : ℕ) → k < length slices → k ≡ length slices - 1 - (length slices - 1 - k)
      back k below = omega (arith, below)

      by : (backwards : Bool) → ((turn later : ℕ) → turn < later → later < length slices
          → AreApart fit shape (slice_at slices backwards turn) (slice_at slices backwards later))
          → AreApart fit shape (get_or slices i []) (get_or slices j [])
      by false apart = apart i j before below
      by true apart = λ shared.
          apart (length slices - 1 - j) (length slices - 1 - i) (omega (arith, before, below)) (omega (arith, before, below))
          (subst (λ k. Intersect fit shape (get_or slices k []) (slice_at slices true (length slices - 1 - i))) (back j below)
          (subst (λ k. Intersect fit shape (get_or slices j []) (get_or slices k [])) (back i (omega (arith, before, below)))
          (intersect_symmetric fit shape (get_or slices i []) (get_or slices j []) shared)))

  -- two that share an index do at their positions, the less first
  pub shared_at : (one other : ℕ) → one < other → other < length slices
      → Intersect fit shape (get_or slices one []) (get_or slices other []) → IntersectAt fit shape slices one other
  shared_at one other order below shared = (
    order,
    subst (λ o. IsSomeAnd o (λ x. IsSomeAnd (slice_get slices other) (Intersect fit shape x)))
        (sym (slice_get-get_or slices one [] (omega (arith, order, below))))
        (subst (λ o. IsSomeAnd o (Intersect fit shape (get_or slices one []))) (sym (slice_get-get_or slices other [] below)) shared),
  )

  pub shared_read : (backwards : Bool) (turn later : ℕ) → turn < later → later < length slices
      → Intersect fit shape (slice_at slices backwards turn) (slice_at slices backwards later)
      → IntersectAt fit shape slices (min (position_of backwards (length slices) turn) (position_of backwards (length slices) later))
      (max (position_of backwards (length slices) turn) (position_of backwards (length slices) later))
  shared_read false turn later order below shared =
      let low : min turn later ≡ turn = omega (arith, order) in
      let high : max turn later ≡ later = omega (arith, order) in
      rw (low, high) (shared_at turn later order below shared)
  shared_read true turn later order below shared =
      let one = length slices - 1 - turn in
      let other = length slices - 1 - later in
      let low : min one other ≡ other = omega (arith, order) in
      let high : max one other ≡ one = omega (arith, order) in
      rw (low, high) (shared_at other one (omega (arith, order, below)) (omega (arith, order, below))
      (intersect_symmetric fit shape (get_or slices one []) (get_or slices other []) shared))
