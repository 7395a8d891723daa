-- Strides that keep the places of a layout, its axes read from the slowest on, are there exactly where no joint is bad.
use Rattle.std.proofs.Common.{◌≡◌, ℕ, zero, suc, ◌+◌, ◌*◌, ◌/◌, ◌%◌, ◌<◌, ◌≤◌, false, ℤ, pos, ◌+ℤ◌, ◌*ℤ◌, List, [], ◌∷◌, length, map}
use Rattle.std.proofs.Common.{refl, sym, ap, ◌∙◌, ◌⊎◌, inl, inr, arith, subst}
use Rattle.std.specs.Ordering.{int_eq}
use Rattle.std.specs.Prelude.{◌↔◌}
use Rattle.std.proofs.Math.Nat.{eq_of_mul-eq-mul_left, mul-le-mul_left, mul-le-mul_right, mul-one, mul-pos, mul_assoc, one-mul}
use Rattle.std.proofs.lemmas.Bool.{both_ways, cases_Bool, cases_eq, cases_order}
use Rattle.std.proofs.lemmas.Bool.Decides.{Decides-int_eq}
use Rattle.std.proofs.lemmas.Int.{ints}
use Rattle.std.proofs.lemmas.List.{length-map}
use Rattle.std.proofs.lemmas.Nat.{mod_below}
use Rattle.nd_base.specs.Size.{size, is_empty}
use Rattle.nd_base.proofs.Laws.Size.{size_of_nonempty}
use Rattle.ndarray_layout.specs.reshape.ForcedStrides.{offset_at_flat_index}
use Rattle.ndarray_layout.specs.reshape.Joints.{has_bad_joint}
use Rattle.ndarray_layout.proofs.matching.HasIndex.{HasIndex, PlacesAlike, SamePlaces, filled, is_empty-rest, rest-has_index}
use Rattle.ndarray_layout.proofs.matching.HasIndex.{some-len, with-axis}
use Rattle.ndarray_layout.proofs.matching.BadJoints.{bad-both, bad-from-one, bad-to-one, bad-skip, bad-merged, bad-to-merged, bad-single}
use Rattle.ndarray_layout.proofs.matching.BadJoints.{bad-loose, product-within}
use Rattle.ndarray_layout.proofs.matching.FlatOffsets.{offset-first, offset-within, offset-one, offset-merged, offset-skip}
use Rattle.ndarray_layout.proofs.matching.WholeStrides.{whole-stride}

-- some strides of a shape keep the places of a layout
pub record HasStrides (from : List ℕ) (strides : List ℤ) (to : List ℕ) : Type 0 where
  pub others : List ℤ
  pub same_count : length to ≡ length others
  pub alike : PlacesAlike from strides to others

-- exactly where no joint is bad
pub record IsExact (from : List ℕ) (strides : List ℤ) (to : List ℕ) : Type 0 where
  pub made : has_bad_joint from strides to ≡ false → HasStrides from strides to
  pub good : HasStrides from strides to → has_bad_joint from strides to ≡ false

-- a layout with an index, and a shape with as many indices
pub record HaveAsMany (from : List ℕ) (strides : List ℤ) (to : List ℕ) : Type 0 where
  pub index : HasIndex from strides
  pub more : is_empty to ≡ false
  pub sizes : size from ≡ size to

exact-by : {from lens : List ℕ} {strides others : List ℤ} {to news : List ℕ}
    → has_bad_joint from strides to ≡ has_bad_joint lens others news → HasStrides from strides to ↔ HasStrides lens others news
    → IsExact lens others news → IsExact from strides to
exact-by same has rest = record {
  made = λ good. has.1 (rest.made (sym same ∙ good));
  good = λ made. same ∙ rest.good (has.0 made);
}

-- ---- one axis in front
-- the stride of the first axis, and the others
pub record FirstStride (from : List ℕ) (strides : List ℤ) (len : ℕ) (to : List ℕ) : Type 0 where
  pub first : ℤ
  pub rest : List ℤ
  pub count : length to ≡ length rest
  pub alike : PlacesAlike from strides (len ∷ to) (first ∷ rest)

pub first-stride : {from : List ℕ} {strides : List ℤ} {len : ℕ} {to : List ℕ} → HasStrides from strides (len ∷ to)
    → FirstStride from strides len to
first-stride {from} {strides} {len} {to} has = by has.others has.same_count has.alike
  where
    by : (others : List ℤ) → length (len ∷ to) ≡ length others → PlacesAlike from strides (len ∷ to) others
        → FirstStride from strides len to
    by [] e alike = absurd (omega arith)
    by (first ∷ rest) e alike = record { first = first; rest = rest; count = omega arith; alike = alike }

strides-both : {len : ℕ} {from to : List ℕ} {s : ℤ} {strides : List ℤ} → 0 < len → 0 < size from → size from ≡ size to
    → HasStrides (len ∷ from) (s ∷ strides) (len ∷ to) ↔ HasStrides from strides to
strides-both {len} {from} {to} {s} {strides} some more sizes = (
  λ has.
      let f = first-stride has in
      let one : 1 * size from ≤ len * size from = mul-le-mul_right (size from) some in
      record {
        others = f.rest;
        same_count = f.count;
        alike = λ r l. sym (offset-within len to f.first f.rest (omega arith)) ∙ f.alike r (omega arith)
            ∙ offset-within len from s strides l;
      },
  λ has.
      let count = has.same_count in
      record {
        others = s ∷ has.others;
        same_count = omega arith;
        alike = λ r l.
            ap (λ n. (pos (r / n) *ℤ s) +ℤ offset_at_flat_index to has.others (r % n)) (sym sizes)
            ∙ ap (λ z. (pos (r / size from) *ℤ s) +ℤ z) (has.alike (r % size from) (mod_below r (size from) more));
      },
)

-- ---- a layout with the same places
strides-same : (from : List ℕ) (strides : List ℤ) (lens : List ℕ) (others : List ℤ) {to : List ℕ} → size from ≡ size lens
    → ((r : ℕ) → r < size from → offset_at_flat_index from strides r ≡ offset_at_flat_index lens others r)
    → HasStrides from strides to ↔ HasStrides lens others to
strides-same from strides lens others sizes same = (
  λ has. record {
    others = has.others;
    same_count = has.same_count;
    alike = λ r l. has.alike r (omega arith) ∙ same r (omega arith);
  },
  λ has. record {
    others = has.others;
    same_count = has.same_count;
    alike = λ r l. has.alike r (omega arith) ∙ sym (same r l);
  },
)

-- ---- other axes of the new shape
strides-to-one : {from : List ℕ} {strides : List ℤ} {to : List ℕ} → size from ≡ size (1 ∷ to)
    → HasStrides from strides (1 ∷ to) ↔ HasStrides from strides to
strides-to-one {to = to} sizes = (
  λ has.
      let f = first-stride has in
      record { others = f.rest; same_count = f.count; alike = λ r l. sym (offset-one to f.first f.rest (omega arith)) ∙ f.alike r l },
  λ has.
      let count = has.same_count in
      record {
        others = pos 0 ∷ has.others;
        same_count = omega arith;
        alike = λ r l. offset-one to (pos 0) has.others (omega arith) ∙ has.alike r l;
      },
)

-- two axes of the new shape whose first is shorter than that of the old one
strides-to-merged : {first len next : ℕ} {from to : List ℕ} {s : ℤ} {strides : List ℤ}
    → HaveAsMany (first ∷ from) (s ∷ strides) (len ∷ next ∷ to) → 1 < len → len < first
    → HasStrides (first ∷ from) (s ∷ strides) (len ∷ next ∷ to) ↔ HasStrides (first ∷ from) (s ∷ strides) (len * next ∷ to)
strides-to-merged {first} {len} {next} {from} {to} {s} {strides} can long less = (
  λ has. let f = first-stride has in joined f.first f.rest f.count f.alike,
  λ has.
      let f = first-stride has in
      let count = f.count in
      record {
        others = (pos next *ℤ f.first) ∷ f.first ∷ f.rest;
        same_count = omega arith;
        alike = λ r l. offset-merged len next to f.first f.rest r (here, some) ∙ f.alike r l;
      },
)
  where
    after : is_empty (next ∷ to) ≡ false
    after = is_empty-rest len (next ∷ to) can.more

    here : 0 < next
    here = some-len next to after

    some : 0 < size to
    some = size_of_nonempty to (is_empty-rest next to after)

    -- by strides that are whole: of two longer axes they are so, and an axis of length 1 takes those that make them so
    whole : (other z : ℤ) (rest : List ℤ) → length to ≡ length rest → other ≡ pos next *ℤ z
        → PlacesAlike (first ∷ from) (s ∷ strides) (len ∷ next ∷ to) (other ∷ z ∷ rest)
        → HasStrides (first ∷ from) (s ∷ strides) (len * next ∷ to)
    whole other z rest count same alike = record {
      others = z ∷ rest;
      same_count = ap suc count;
      alike = λ r l. sym (offset-merged len next to z rest r (here, some))
          ∙ ap (λ x. offset_at_flat_index (len ∷ next ∷ to) (x ∷ z ∷ rest) r) (sym same) ∙ alike r l;
    }

    joined : (other : ℤ) (rest : List ℤ) → length (next ∷ to) ≡ length rest
        → PlacesAlike (first ∷ from) (s ∷ strides) (len ∷ next ∷ to) (other ∷ rest)
        → HasStrides (first ∷ from) (s ∷ strides) (len * next ∷ to)
    joined other [] e alike = absurd (omega arith)
    joined other (z ∷ rest) e alike = elim (cases_eq next 1) [
      | inl one ↦ whole other other rest (omega arith) (sym (ap (λ n. pos n *ℤ other) one ∙ omega (arith, ints))) (λ r l.
          let skipped = λ (x : ℤ). ap (λ n. offset_at_flat_index (len ∷ n ∷ to) (other ∷ x ∷ rest) r) one
          ∙ offset-skip len to other x rest r some in
          skipped other ∙ sym (skipped z) ∙ alike r l)
      | inr longer ↦
          let more = size_of_nonempty from (is_empty-rest first from can.index.some) in
          let same : SamePlaces (len ∷ next ∷ to) (other ∷ z ∷ rest) (first ∷ from) (s ∷ strides) =
          record { sizes = sym can.sizes; alike = λ r l. sym (alike r (let sizes = can.sizes in omega arith)) } in
          whole other z rest (omega arith) (whole-stride long (omega (arith, here, longer)) less some more same) alike
    ]

-- ---- all axes
abbrev ExactBelow : ℕ → Type 0
ExactBelow n = (from : List ℕ) (strides : List ℤ) (to : List ℕ) → length from + length to ≤ n → HaveAsMany from strides to
    → IsExact from strides to

-- shapes of one index
exact-single : {from : List ℕ} {strides : List ℤ} (to : List ℕ) → HaveAsMany from strides to → size to ≡ 1 → IsExact from strides to
exact-single {from} {strides} to can one =
    let sizes = can.sizes in
    let zeros = map (λ len. pos 0) to in
    record {
      made = λ good. record {
        others = zeros;
        same_count = sym (length-map to (λ len. pos 0));
        alike = λ r l.
            let none : r ≡ 0 = omega arith in
            ap (offset_at_flat_index to zeros) none ∙ offset-first to zeros
            ∙ sym (ap (offset_at_flat_index from strides) none ∙ offset-first from strides);
      };
      good = λ has. bad-single from strides to can.index one;
    }

int_cases : (x y : ℤ) → (x ≡ y) ⊎ (x ≡ y → ⊥)
int_cases x y =
    elim (cases_Bool (int_eq x y)) [
      | inl same ↦ inl ((Decides-int_eq x y).0 same)
      | inr differ ↦ inr (λ e. both_ways (int_eq x y) differ ((Decides-int_eq x y).1 e))
    ]

-- two axes of the old shape have the joints and the places of one with a stride
pub record AreOne (len next : ℕ) (s t u : ℤ) (from : List ℕ) (strides : List ℤ) : Type 0 where
  pub joints : (to : List ℕ) → has_bad_joint (len ∷ next ∷ from) (s ∷ t ∷ strides) to ≡ has_bad_joint (len * next ∷ from) (u ∷ strides) to
  pub offsets : (r : ℕ) → offset_at_flat_index (len ∷ next ∷ from) (s ∷ t ∷ strides) r
      ≡ offset_at_flat_index (len * next ∷ from) (u ∷ strides) r

-- that of the later one where they are iterated over as one
pub are-whole : {len next : ℕ} {s t : ℤ} {from : List ℕ} (strides : List ℤ) → 1 < len → 1 < next → 0 < size from → s ≡ pos next *ℤ t
    → AreOne len next s t t from strides
are-whole {len} {next} {t = t} {from} strides long longer some whole = record {
  joints = λ to. ap (λ z. has_bad_joint (len ∷ next ∷ from) (z ∷ t ∷ strides) to) whole
      ∙ bad-merged len next from t strides to (long, longer);
  offsets = λ r. ap (λ z. offset_at_flat_index (len ∷ next ∷ from) (z ∷ t ∷ strides) r) whole
      ∙ offset-merged len next from t strides r (omega arith, some);
}

-- and that of the earlier one before an axis of length 1
pub are-skipped : {len next : ℕ} (s t : ℤ) {from : List ℕ} (strides : List ℤ) → next ≡ 1 → 0 < size from
    → AreOne len next s t s from strides
are-skipped {len} {next} s t {from} strides one some =
    let same : len ≡ len * next = sym (ap (λ n. len * n) one ∙ mul-one len) in
    record {
      joints = λ to. ap (λ n. has_bad_joint (len ∷ n ∷ from) (s ∷ t ∷ strides) to) one ∙ bad-skip len from s t strides to
          ∙ ap (λ n. has_bad_joint (n ∷ from) (s ∷ strides) to) same;
      offsets = λ r. ap (λ n. offset_at_flat_index (len ∷ n ∷ from) (s ∷ t ∷ strides) r) one ∙ offset-skip len from s t strides r some
          ∙ ap (λ n. offset_at_flat_index (n ∷ from) (s ∷ strides) r) same;
    }

exact-one : {n : ℕ} → ExactBelow n → {len next other : ℕ} {from : List ℕ} {s t u : ℤ} {strides : List ℤ} {to : List ℕ}
    → suc (suc (length from)) + length to ≤ n → HaveAsMany (len ∷ next ∷ from) (s ∷ t ∷ strides) (other ∷ to)
    → AreOne len next s t u from strides → IsExact (len ∷ next ∷ from) (s ∷ t ∷ strides) (other ∷ to)
exact-one rec {len} {next} {other} {from} {s} {t} {u} {strides} {to} small can are =
    let rest = rest-has_index can.index in
    let sizes = mul_assoc len next (size from) in
    exact-by (are.joints (other ∷ to)) (strides-same (len ∷ next ∷ from) (s ∷ t ∷ strides) (len * next ∷ from) (u ∷ strides) (sym sizes)
    (λ r l. are.offsets r))
    (rec (len * next ∷ from) (u ∷ strides) (other ∷ to) (omega arith) (record {
      index = with-axis u (mul-pos (some-len len (next ∷ from) can.index.some) (some-len next from rest.some)) (rest-has_index rest);
      more = can.more;
      sizes = sizes ∙ can.sizes;
    }))

-- the first axis of the old shape is the shorter one
exact-from : {n : ℕ} → ExactBelow n → {len other : ℕ} (from : List ℕ) {s : ℤ} (strides : List ℤ) {to : List ℕ}
    → suc (length from) + length to ≤ n → 1 < len → len < other → HaveAsMany (len ∷ from) (s ∷ strides) (other ∷ to)
    → IsExact (len ∷ from) (s ∷ strides) (other ∷ to)
exact-from rec {len} {other} [] strides {to} small long less can =
    let some = size_of_nonempty to (is_empty-rest other to can.more) in
    let more : other * 1 ≤ other * size to = mul-le-mul_left other some in
    let sizes = can.sizes in
    absurd (omega arith)
exact-from rec (next ∷ from) [] small long less can = let count = can.index.same_count in absurd (omega arith)
exact-from rec {len} {other} (next ∷ from) {s} (t ∷ strides) {to} small long less can =
    let after = rest-has_index (rest-has_index can.index) in
    let here = some-len next from (rest-has_index can.index).some in
    let some = size_of_nonempty from after.some in
    let more = size_of_nonempty to (is_empty-rest other to can.more) in
    let within : other * 1 ≤ other * size to = mul-le-mul_left other more in
    elim (cases_eq next 1) [
      | inl one ↦ exact-one rec (omega arith) can (are-skipped s t strides one some)
      | inr longer ↦ elim (int_cases s (pos next *ℤ t)) [
        | inl same ↦ exact-one rec (omega arith) can (are-whole strides long (omega arith) some same)
        | inr apart ↦ record {
          made = λ good. absurd (both_ways (has_bad_joint (len ∷ next ∷ from) (s ∷ t ∷ strides) (other ∷ to)) good
              (bad-loose from t strides (other ∷ to) (long, omega arith) (omega arith, product-within len other to long less) apart));
          good = λ has.
              let f = first-stride has in
              absurd (apart (whole-stride long (omega arith) less some more (record { sizes = can.sizes; alike = f.alike })));
        }
      ]
    ]

-- or that of the new one
exact-to : {n : ℕ} → ExactBelow n → {first len : ℕ} {from : List ℕ} {s : ℤ} {strides : List ℤ} (to : List ℕ)
    → suc (length from) + length to ≤ n → 1 < len → len < first → HaveAsMany (first ∷ from) (s ∷ strides) (len ∷ to)
    → IsExact (first ∷ from) (s ∷ strides) (len ∷ to)
exact-to rec {first} {len} {from} [] small long less can =
    let some = size_of_nonempty from (is_empty-rest first from can.index.some) in
    let more : first * 1 ≤ first * size from = mul-le-mul_left first some in
    let sizes = can.sizes in
    absurd (omega arith)
exact-to rec {first} {len} {from} {s} {strides} (next ∷ to) small long less can =
    let rest = is_empty-rest len (next ∷ to) can.more in
    let after = is_empty-rest next to rest in
    let here = some-len next to rest in
    exact-by (bad-to-merged first len next to can.index less) (strides-to-merged can long less)
    (rec (first ∷ from) (s ∷ strides) (len * next ∷ to) (omega arith) (record {
      index = can.index;
      more = filled {len = len * next} to (mul-pos (omega arith) here) after;
      sizes = can.sizes ∙ sym (mul_assoc len next (size to));
    }))

-- by the first axis of each shape
exact-heads : {n : ℕ} → ExactBelow n → {len other : ℕ} {from : List ℕ} {s : ℤ} {strides : List ℤ} {to : List ℕ}
    → suc (length from) + length to ≤ n → HaveAsMany (len ∷ from) (s ∷ strides) (other ∷ to)
    → IsExact (len ∷ from) (s ∷ strides) (other ∷ to)
exact-heads rec {len} {other} {from} {s} {strides} {to} small can =
    let after = rest-has_index can.index in
    let rest = is_empty-rest other to can.more in
    let here = some-len len from can.index.some in
    let there = some-len other to can.more in
    let sizes : len * size from ≡ other * size to = can.sizes in
    elim (cases_eq len 1) [
      | inl one ↦ subst (λ n. IsExact (n ∷ from) (s ∷ strides) (other ∷ to)) (sym one)
          (exact-by (bad-from-one from s strides (other ∷ to))
          (strides-same (1 ∷ from) (s ∷ strides) from strides (one-mul (size from)) (λ r l. offset-one from s strides l))
          (rec from strides (other ∷ to) (omega arith) (record {
            index = after;
            more = can.more;
            sizes = sym (one-mul (size from)) ∙ ap (λ n. n * size from) (sym one) ∙ sizes;
          })))
      | inr long ↦ elim (cases_eq other 1) [
        | inl one ↦
            let same : size (len ∷ from) ≡ size (1 ∷ to) = sizes ∙ ap (λ n. n * size to) one in
            subst (λ n. IsExact (len ∷ from) (s ∷ strides) (n ∷ to)) (sym one)
            (exact-by (bad-to-one (len ∷ from) (s ∷ strides) to) (strides-to-one same)
            (rec (len ∷ from) (s ∷ strides) to (omega arith) (record {
              index = can.index;
              more = rest;
              sizes = same ∙ one-mul (size to);
            })))
        | inr longer ↦ elim (cases_order len other) [
          | inl equal ↦
              let same : size from ≡ size to =
              eq_of_mul-eq-mul_left len here (size from) (size to) (sizes ∙ ap (λ n. n * size to) (sym equal)) in
              subst (λ n. IsExact (len ∷ from) (s ∷ strides) (n ∷ to)) equal
              (exact-by (bad-both len from s strides to here) (strides-both here (size_of_nonempty from after.some) same)
              (rec from strides to (omega arith) (record { index = after; more = rest; sizes = same })))
          | inr (inl less) ↦ exact-from rec from strides small (omega arith) less can
          | inr (inr more) ↦ exact-to rec to small (omega arith) more can
        ]
      ]
    ]

exact-below : (n : ℕ) → ExactBelow n
exact-below n from strides [] small can = exact-single [] can refl
exact-below n [] strides (other ∷ to) small can = exact-single (other ∷ to) can (sym can.sizes)
exact-below n (len ∷ from) [] (other ∷ to) small can = let count = can.index.same_count in absurd (omega arith)
exact-below zero (len ∷ from) (s ∷ strides) (other ∷ to) small can = absurd (omega arith)
exact-below (suc n) (len ∷ from) (s ∷ strides) (other ∷ to) small can = exact-heads (exact-below n) (omega arith) can

pub exactly : {from : List ℕ} {strides : List ℤ} (to : List ℕ) → HaveAsMany from strides to → IsExact from strides to
exactly {from} {strides} to can = exact-below (length from + length to) from strides to (omega arith) can
