-- The strides of the definition, as both shapes lose axes in front.
use Rattle.std.proofs.Common.{◌≡◌, ℕ, zero, suc, ◌+◌, ◌<◌, Bool, true, false, ℤ, pos, ◌∷◌, length, get_or, map}
use Rattle.std.proofs.Common.{refl, sym, ap, ap₂, ◌∙◌, arith, subst}
use Rattle.std.specs.List.{range_with_len}
use Rattle.std.specs.Prelude.{if◌then◌else◌, nat_lt}
use Rattle.std.proofs.lemmas.Bool.{ltb-false, ltb-true}
use Rattle.nd_base.proofs.Laws.Definitions.{below, is_empty}
use Rattle.nd_base.proofs.Laws.Size.{length_pos}
use Rattle.nd_dim.specs.Strides.{size_after, size_until}
use Rattle.ndarray_layout.specs.reshape.ForcedStrides.{offset_at_flat_index, ones_before, stride_of_axis, strides_of_ones}
use Rattle.ndarray_layout.specs.private.ReshapeProgress.{Layouts, forced, forced_at}
use Rattle.ndarray_layout.proofs.matching.BadJoints.{is_product, product-none}
use Rattle.ndarray_layout.proofs.matching.OnesRead.{map-suc, range-shift}

-- the stride that is read for an axis of length 1, where the old shape has the product before it
abbrev pub read_at : Layouts → ℕ → ℤ
read_at both axis = get_or (strides_of_ones both.from both.strides (size_until both.to axis))
    (ones_before both.to (size_until both.to axis) axis) (pos 1)

-- an axis of one new shape has what decides on the stride of an axis of another
pub record AreDecidedAlike (both : Layouts) (axis : ℕ) (rest : Layouts) (later : ℕ) : Type 0 where
  pub len : get_or both.to axis 0 ≡ get_or rest.to later 0
  pub long : 1 < get_or rest.to later 0 → offset_at_flat_index both.from both.strides (size_after both.to axis)
      ≡ offset_at_flat_index rest.from rest.strides (size_after rest.to later)
  pub product : is_product both.from (size_until both.to axis) ≡ is_product rest.from (size_until rest.to later)
  pub read : get_or rest.to later 0 ≡ 1 → is_product rest.from (size_until rest.to later) ≡ true → read_at both axis ≡ read_at rest later

-- where the product isn't one of the old shape the stride before decides too
stride-alike : {both rest : Layouts} {axis later : ℕ} {before other : ℤ} → AreDecidedAlike both axis rest later
    → 0 < get_or rest.to later 0 → (is_product rest.from (size_until rest.to later) ≡ false → before ≡ other)
    → stride_of_axis both.from both.strides both.to axis before ≡ stride_of_axis rest.from rest.strides rest.to later other
stride-alike {both} {rest} {axis} {later} {before} {other} alike some prior =
    ap (λ n. if nat_lt 1 n then offset_at_flat_index both.from both.strides (size_after both.to axis)
    else (if is_product both.from (size_until both.to axis) then read_at both axis else before)) alike.len
    ∙ by_len (nat_lt 1 (get_or rest.to later 0)) (λ long. alike.long (ltb-true 1 (get_or rest.to later 0) long))
    (λ short. by (is_product both.from (size_until both.to axis)) (is_product rest.from (size_until rest.to later)) alike.product prior
    (alike.read (let few = ltb-false 1 (get_or rest.to later 0) short in omega arith)))
  where
    by_len : (b : Bool) {x y u v : ℤ} → (b ≡ true → x ≡ y) → (b ≡ false → u ≡ v) → (if b then x else u) ≡ (if b then y else v)
    by_len true long short = long refl
    by_len false long short = short refl

    by : (a b : Bool) → a ≡ b → (b ≡ false → before ≡ other) → {x y : ℤ} → (b ≡ true → x ≡ y)
        → (if a then x else before) ≡ (if b then y else other)
    by true true same prior read = read refl
    by true false same prior read = absurd (cc)
    by false true same prior read = absurd (cc)
    by false false same prior read = prior refl

-- each old shape has the product before the first axis
first-alike : (both : Layouts) (axis : ℕ) (rest : Layouts) → 0 < get_or rest.to 0 0 → AreDecidedAlike both axis rest 0
    → forced_at both axis ≡ forced_at rest 0
first-alike both zero rest some alike = stride-alike alike some (λ none. absurd (let all = product-none rest.from in cc))
first-alike both (suc axis) rest some alike = stride-alike alike some (λ none. absurd (let all = product-none rest.from in cc))

-- all axes from one of both on, where the first of them has its stride
later-alike : (both : Layouts) (count : ℕ) (rest : Layouts) → is_empty rest.to ≡ false
    → (0 < length rest.to → forced_at both count ≡ forced_at rest 0)
    → ((axis later : ℕ) → axis ≡ count + later → 0 < later → later < length rest.to → AreDecidedAlike both axis rest later)
    → (axis later : ℕ) → axis ≡ count + later → later < length rest.to → forced_at both axis ≡ forced_at rest later
later-alike both count rest some first alike axis zero e l =
    let same : axis ≡ count = omega arith in
    ap (forced_at both) same ∙ first l
later-alike both count rest some first alike zero (suc later) e l = absurd (omega arith)
later-alike both count rest some first alike (suc axis) (suc later) e l =
    stride-alike (alike (suc axis) (suc later) e (omega arith) l) (length_pos rest.to (suc later) some l)
    (λ none. later-alike both count rest some first alike axis later (omega arith) (omega arith))

-- ---- the strides of all axes
pub maps-agree : (f g : ℕ → ℤ) (start count : ℕ) → ((k : ℕ) → k < start + count → f k ≡ g k)
    → map f (range_with_len start count) ≡ map g (range_with_len start count)
maps-agree f g start zero same = refl
maps-agree f g start (suc count) same = ap₂ (λ x xs. x ∷ xs) (same start (omega arith))
    (maps-agree f g (start + 1) count (λ k l. same k (omega arith)))

pub forced-same : (both rest : Layouts) → is_empty rest.to ≡ false → length both.to ≡ length rest.to
    → ((later : ℕ) → later < length rest.to → AreDecidedAlike both later rest later) → forced both ≡ forced rest
forced-same both rest some count alike =
    ap (λ n. map (forced_at both) (below n)) count
    ∙ maps-agree (forced_at both) (forced_at rest) 0 (length rest.to) (λ later l. later-alike both 0 rest some
    (λ l. first-alike both 0 rest (length_pos rest.to 0 some l) (alike 0 l)) (λ axis later e after l.
    let same : axis ≡ later = omega arith in subst (λ a. AreDecidedAlike both a rest later) (sym same) (alike later l)) later later
    (omega arith) (omega arith))

-- one axis more in front
pub forced-after : (both rest : Layouts) → is_empty rest.to ≡ false → length both.to ≡ suc (length rest.to)
    → (0 < length rest.to → forced_at both 1 ≡ forced_at rest 0)
    → ((later : ℕ) → 0 < later → later < length rest.to → AreDecidedAlike both (suc later) rest later)
    → forced both ≡ forced_at both 0 ∷ forced rest
forced-after both rest some count first alike =
    ap (λ n. map (forced_at both) (below n)) count
    ∙ ap (λ ks. forced_at both 0 ∷ map (forced_at both) ks) (range-shift 0 (length rest.to))
    ∙ ap (λ ss. forced_at both 0 ∷ ss) (map-suc (forced_at both) (below (length rest.to))
    ∙ maps-agree (λ axis. forced_at both (suc axis)) (forced_at rest) 0 (length rest.to) (λ later l. later-alike both 1 rest some first
    (λ axis later e after l.
    let same : axis ≡ suc later = omega arith in subst (λ a. AreDecidedAlike both a rest later) (sym same) (alike later after l))
    (suc later) later
    (omega arith) (omega arith)))

pub forced-next : (both rest : Layouts) → is_empty rest.to ≡ false → length both.to ≡ suc (length rest.to)
    → ((later : ℕ) → later < length rest.to → AreDecidedAlike both (suc later) rest later) → forced both ≡ forced_at both 0 ∷ forced rest
forced-next both rest some count alike = forced-after both rest some count
    (λ l. first-alike both 1 rest (length_pos rest.to 0 some l) (alike 0 l)) (λ later after l. alike later l)
