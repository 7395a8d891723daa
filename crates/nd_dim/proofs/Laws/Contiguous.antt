-- Laws of contiguous layouts: the no-alias rule says exactly that the indices fill one interval of memory.
use Rattle.std.proofs.Common.{◌≡◌, ◌⊎◌, ◌↔◌, ℕ, zero, suc, ◌+◌, ◌-◌, ◌<◌, ◌≤◌, ℤ, pos, negsuc, ◌+ℤ◌, ◌≤ℤ◌, Bool, true, false, List}
use Rattle.std.proofs.Common.{[], ◌∷◌, length, map, cond, refl, sym, ap, ◌∙◌, arith, inl, inr, subst}
use Rattle.std.specs.Bool.{IsTrue}
use Rattle.std.specs.List.Sorted.{IsPermutation}
use Rattle.std.specs.Prelude.{if◌then◌else◌, nat_lt, slice_index, ◌==◌, ◌&&◌, ◌||◌}
use Rattle.std.proofs.lemmas.Bool.{cond-false, eq-eqb, eqb-true, le-leb, leb-true, both_ways, eqb-false, ne_eqb, or_cases}
use Rattle.std.proofs.lemmas.Bool.{or_left, or_parts, or_right}
use Rattle.std.proofs.lemmas.Bool.Decides.{Decides-int_eq, nat_tests}
use Rattle.std.proofs.lemmas.Int.{ints}
use Rattle.std.specs.Cmp.Rules.{signed_items}
use Rattle.nd_base.specs.declared.order.Order.{Order}
use Rattle.nd_base.specs.declared.order.Order.TheVariants.{RowMajor}
use Rattle.nd_base.proofs.Laws.Below.{all_below, passes_below}
use Rattle.nd_base.proofs.Laws.Definitions.{below, offset_of, places, index_of_flat, flat_index, magnitude, is_empty, size, low_span}
use Rattle.nd_base.proofs.Laws.FlatIndex.{is_index-index_of_flat, flat_index-index_of_flat, same_from_flat_index_in}
use Rattle.nd_dim.specs.Contiguous.{is_contiguous, is_lone_reversed, is_packed, is_packed_at, lens_before}
use Rattle.nd_dim.specs.OneInterval.{FillsInterval}
use Rattle.nd_dim.specs.Strides.{default_strides}
use Rattle.nd_dim.proofs.PackedLayouts.{IsPackedAt, fills_from_packed, packed_from_reaches}
use Rattle.nd_dim.proofs.Laws.OneInterval.{interval_from_reaches, places_in_interval, reaches_from_interval}
use Rattle.nd_dim.proofs.Laws.Strides.{offset_of-default_strides}

-- ---- default strides
at_flat_index : (z : ℤ) (r : ℕ) → z ≡ pos r → pos 0 ≤ℤ z
at_flat_index z r e = omega (arith, ints)

same_flat_index : (a b : ℤ) (m n : ℕ) → a ≡ pos m → b ≡ pos n → a ≡ b → m ≡ n
same_flat_index a b m n p q e = omega (arith, ints)

from_zero : (k : ℕ) → pos k ≡ pos 0 +ℤ pos k
from_zero k = omega (arith, ints)

-- by the default strides the indices fill an interval, each at its flat index
pub interval_of_default : (lens : List ℕ) → FillsInterval lens (map pos (default_strides lens))
interval_of_default lens = record {
  least = pos 0;
  none_below = λ index h. at_flat_index (offset_of (map pos (default_strides lens)) index) (flat_index lens index)
      (offset_of-default_strides lens index h);
  filled = λ k h.
      let index = index_of_flat lens k in
      let in_bounds = is_index-index_of_flat lens k h in
      (index, in_bounds, offset_of-default_strides lens index in_bounds ∙ ap pos (flat_index-index_of_flat lens k h) ∙ from_zero k);
  distinct = λ index other h g e.
      same_from_flat_index_in RowMajor lens index other h g
      (same_flat_index (offset_of (map pos (default_strides lens)) index) (offset_of (map pos (default_strides lens)) other)
      (flat_index lens index) (flat_index lens other) (offset_of-default_strides lens index h) (offset_of-default_strides lens other g) e);
}

-- ---- packed axes
module _ (lens : List ℕ) (strides : List ℤ) where
  packed_fact : (axis : ℕ) → is_packed_at lens strides axis ≡ true → IsPackedAt lens strides axis
  packed_fact axis h = elim (or_cases _ _ h) [
    | inl one ↦ inl (eqb-true _ _ one)
    | inr fits ↦ inr (eqb-true _ _ fits)
  ]

  packed_test : (axis : ℕ) → IsPackedAt lens strides axis → is_packed_at lens strides axis ≡ true
  packed_test axis (inl one) = or_left _ _ (eq-eqb _ _ one)
  packed_test axis (inr fits) = or_right _ _ (eq-eqb _ _ fits)

  -- where every axis is packed, the indices fill an interval
  interval_from_packed : length lens ≡ length strides → is_empty lens ≡ false
      → ((axis : ℕ) → axis < length lens → IsPackedAt lens strides axis) → FillsInterval lens strides
  interval_from_packed count some packed =
      let fills = fills_from_packed lens strides count some packed in
      interval_from_reaches lens strides count fills.each

  -- and where they fill one, every axis is
  packed_from_interval : length lens ≡ length strides → is_empty lens ≡ false → FillsInterval lens strides → (axis : ℕ) → axis < length lens
      → IsPackedAt lens strides axis
  packed_from_interval count some interval =
      packed_from_reaches lens strides count some (reaches_from_interval lens strides count some interval)

-- ---- a lone axis
not_before_itself : (m : ℕ) → (nat_lt m m || (m == m && nat_lt 0 0)) ≡ false
not_before_itself m = grind (arith, nat_tests)

-- no axis comes before it
none_before : (len : ℕ) (stride : ℤ) → size (lens_before (len ∷ []) (stride ∷ []) 0) ≡ 1
none_before len stride =
    ap (λ b. size (map (slice_index (len ∷ [])) (cond b (0 ∷ []) []))) (not_before_itself (magnitude stride))

lone_packed : (len : ℕ) (stride : ℤ) → is_empty (len ∷ []) ≡ false → is_lone_reversed (len ∷ []) (stride ∷ []) ≡ true → (axis : ℕ)
    → axis < length (len ∷ []) → IsPackedAt (len ∷ []) (stride ∷ []) axis
lone_packed len stride some h (suc axis) l = absurd (omega arith)
lone_packed len stride some h zero l = elim (or_cases _ _ h) [
  | inl short ↦
      let few : len ≤ 1 = leb-true len 1 short in
      let none : len ≡ 0 → ⊥ = eqb-false len 0 (or_parts _ _ some).0 in
      inl (omega arith)
  | inr back ↦ inr (ap magnitude ((Decides-int_eq stride (negsuc 0)).0 back) ∙ sym (none_before len stride))
]

one_step : (stride : ℤ) → magnitude stride ≡ 1 → (stride ≡ pos 1) ⊎ (stride ≡ negsuc 0)
one_step (pos s) e = inl (ap pos e)
one_step (negsuc s) e = let none : s ≡ 0 = omega arith in inr (ap negsuc none)

lone_default : (len : ℕ) → is_empty (len ∷ []) ≡ false → map pos (default_strides (len ∷ [])) ≡ pos 1 ∷ []
lone_default len some = ap (map pos) (cond-false _ _ _ some)

lone_rule : (len : ℕ) (stride : ℤ) → is_lone_reversed (len ∷ []) (stride ∷ []) ≡ true → is_contiguous (len ∷ []) (stride ∷ []) ≡ true
lone_rule len stride h = or_right _ _ h

lone_contiguous : (len : ℕ) (stride : ℤ) → is_empty (len ∷ []) ≡ false → IsPackedAt (len ∷ []) (stride ∷ []) 0
    → is_contiguous (len ∷ []) (stride ∷ []) ≡ true
lone_contiguous len stride some (inl one) = lone_rule len stride (or_left _ _ (le-leb len 1 (omega arith)))
lone_contiguous len stride some (inr fits) = elim (one_step stride (fits ∙ none_before len stride)) [
  | inl up ↦
      let default = ap (λ s. s ∷ []) up ∙ sym (lone_default len some) in
      or_left _ _ ((signed_items (stride ∷ []) (map pos (default_strides (len ∷ [])))).1 default)
  | inr back ↦ lone_rule len stride (or_right _ _ ((Decides-int_eq stride (negsuc 0)).1 back))
]

-- ---- the rule
-- what the rule asks where the strides are not the default ones
abbrev asked : List ℕ → List ℤ → Bool
asked lens strides = (if length lens == 1 then is_lone_reversed lens strides else is_packed lens strides)

asked_of_several : (len more : ℕ) (lens : List ℕ) (strides : List ℤ)
    → asked (len ∷ more ∷ lens) strides ≡ is_packed (len ∷ more ∷ lens) strides
asked_of_several len more lens strides = cond-false _ _ _ (ne_eqb (length (len ∷ more ∷ lens)) 1 (λ e. omega arith))

packed_from_asked : (lens : List ℕ) (strides : List ℤ) → length lens ≡ length strides → is_empty lens ≡ false → asked lens strides ≡ true
    → (axis : ℕ) → axis < length lens → IsPackedAt lens strides axis
packed_from_asked [] strides count some h axis l = absurd (omega arith)
packed_from_asked (len ∷ []) [] count some h axis l = absurd (omega arith)
packed_from_asked (len ∷ []) (stride ∷ []) count some h axis l = lone_packed len stride some h axis l
packed_from_asked (len ∷ []) (stride ∷ next ∷ strides) count some h axis l = absurd (omega arith)
packed_from_asked (len ∷ more ∷ lens) strides count some h axis l =
    let all = len ∷ more ∷ lens in
    packed_fact all strides axis
    (passes_below (is_packed_at all strides) (length all) (sym (asked_of_several len more lens strides) ∙ h) axis l)

rule_from_packed : (lens : List ℕ) (strides : List ℤ) → length lens ≡ length strides → is_empty lens ≡ false
    → ((axis : ℕ) → axis < length lens → IsPackedAt lens strides axis) → is_contiguous lens strides ≡ true
rule_from_packed [] [] count some packed = refl
rule_from_packed [] (stride ∷ strides) count some packed = absurd (omega arith)
rule_from_packed (len ∷ []) [] count some packed = absurd (omega arith)
rule_from_packed (len ∷ []) (stride ∷ []) count some packed = lone_contiguous len stride some (packed 0 (omega arith))
rule_from_packed (len ∷ []) (stride ∷ next ∷ strides) count some packed = absurd (omega arith)
rule_from_packed (len ∷ more ∷ lens) strides count some packed =
    let all = len ∷ more ∷ lens in
    or_right _ _ (asked_of_several len more lens strides
    ∙ all_below (is_packed_at all strides) (length all) (λ axis l. packed_test all strides axis (packed axis l)))

module _ (lens : List ℕ) (strides : List ℤ) (count : length lens ≡ length strides) (some : is_empty lens ≡ false) where
  -- a layout that the rule takes fills one interval
  pub interval_from_rule : is_contiguous lens strides ≡ true → FillsInterval lens strides
  interval_from_rule h = elim (or_cases _ _ h) [
    | inl default ↦
        let P : List ℤ → Type 0 = λ s. FillsInterval lens s in
        subst P (sym ((signed_items strides (map pos (default_strides lens))).0 default)) (interval_of_default lens)
    | inr other ↦ interval_from_packed lens strides count some (packed_from_asked lens strides count some other)
  ]

  -- and the rule takes each that does
  pub rule_from_interval : FillsInterval lens strides → is_contiguous lens strides ≡ true
  rule_from_interval interval = rule_from_packed lens strides count some (packed_from_interval lens strides count some interval)

  -- of a shape without a zero axis, the rule takes exactly the layouts that fill one interval
  pub contiguous_exactly : IsTrue (is_contiguous lens strides) ↔ FillsInterval lens strides
  contiguous_exactly = (interval_from_rule, rule_from_interval)

  -- ---- a pass along a contiguous layout
  -- the places of a layout that the rule takes are start less the low span, one more, and so on: each index comes once
  pub places_of_contiguous : (order : Order) (start : ℕ) → low_span lens strides ≤ start → is_contiguous lens strides ≡ true
      → IsPermutation (map (λ k. pos (start - low_span lens strides + k)) (below (size lens))) (places order start lens strides)
  places_of_contiguous order start fits h = places_in_interval lens strides count some (interval_from_rule h) order start fits

-- ---- examples
both_reversed : FillsInterval (2 ∷ 3 ∷ []) (negsuc 2 ∷ negsuc 0 ∷ [])
both_reversed = interval_from_rule (2 ∷ 3 ∷ []) (negsuc 2 ∷ negsuc 0 ∷ []) refl refl refl

with_a_gap : FillsInterval (2 ∷ 3 ∷ []) (pos 1 ∷ pos 3 ∷ []) → ⊥
with_a_gap interval = both_ways (is_contiguous (2 ∷ 3 ∷ []) (pos 1 ∷ pos 3 ∷ [])) refl
    (rule_from_interval (2 ∷ 3 ∷ []) (pos 1 ∷ pos 3 ∷ []) refl refl interval)
