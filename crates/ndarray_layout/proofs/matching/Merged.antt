-- A block of axes that is being read: the axes so far are one axis of each shape, before those that are left.
use Rattle.std.proofs.Common.{◌≡◌, ◌≢◌, ℕ, false, ◌+◌, ◌-◌, ◌*◌, ◌<◌, ◌≤◌, ℤ, pos, ◌*ℤ◌, List, [], ◌∷◌, ◌++◌, length, drop, get_or, refl}
use Rattle.std.proofs.Common.{add-one, drop-cons, sym, ap, ◌∙◌, arith, subst, Some, w64}
use Rattle.std.specs.Int.RustNames.{FitsSigned}
use Rattle.std.specs.List.{All}
use Rattle.std.proofs.Math.Nat.{mul-le-mul_left, mul-le-mul_right, mul-one, mul_assoc, mul_comm}
use Rattle.std.proofs.lemmas.Int.{fits_signed_from_abs, unsigned_abs-mul}
use Rattle.std.proofs.lemmas.List.{append_assoc}
use Rattle.std.proofs.lemmas.List.Elements.{All-cons, All-nil}
use Rattle.nd_base.specs.declared.error.ErrorKind.TheVariants.{IncompatibleShape, IncompatibleLayout}
use Rattle.nd_base.proofs.Laws.Definitions.{all_signed, is_empty, limit, magnitude, signed, size}
use Rattle.nd_base.proofs.Laws.Size.{size-push, size_of_nonempty}
use Rattle.ndarray_layout.specs.reshape.Joints.{has_bad_joint}
use Rattle.ndarray_layout.specs.private.ReshapeProgress.{AreHeads, CanMatch, GoesOn, IsBlock, Layouts, block_strides, fault_of}
use Rattle.ndarray_layout.specs.private.ReshapeProgress.{forced, with_from, with_to}
use Rattle.ndarray_layout.proofs.matching.BadJoints.{IsNoProduct-within, bad-larger, bad-lone, bad-loose, product-within}
use Rattle.ndarray_layout.proofs.matching.Blocks.{block_strides-push, times-one}
use Rattle.ndarray_layout.proofs.matching.Faults.{fault-layout, fault-shape}
use Rattle.ndarray_layout.proofs.matching.HasIndex.{is_empty-rest, size-some, some-len}
use Rattle.ndarray_layout.proofs.matching.Joined.{split_first, turn-joined, turn-skipped, turn-to-joined}
use Rattle.ndarray_layout.proofs.matching.Turns.{goes-through, turn-both}

-- ---- strides of axes that are read as one, in place of its own
abbrev pub split : List ℕ → List ℤ → List ℤ
split lens [] = []
split lens (s ∷ ss) = block_strides lens s ++ ss

split-push : (lens : List ℕ) (len : ℕ) (ss : List ℤ) → split lens (split_first len ss) ≡ split (lens ++ len ∷ []) ss
split-push lens len [] = refl
split-push lens len (s ∷ ss) =
    sym (ap (λ zs. zs ++ ss) (block_strides-push lens len s) ∙ append_assoc (block_strides lens (pos len *ℤ s)) (s ∷ []) ss)

-- ---- one axis of each, and those that are left
abbrev pub heads : ℕ → ℤ → ℕ → Layouts → Layouts
heads len s product rest = with_from len s (with_to product rest)

-- the new one stands for these axes
pub record IsJoined (both : Layouts) (len : ℕ) (s : ℤ) (product : ℕ) (rest : Layouts) : Type 0 where
  pub are_heads : AreHeads (heads len s product rest)
  pub lens : List ℕ
  pub front : both.to ≡ lens ++ rest.to
  pub size_is : size lens ≡ product
  pub first_long : 1 < get_or lens 0 0
  pub goes_on : GoesOn both (split lens) (heads len s product rest)

pub joined-first : {both : Layouts} {len product : ℕ} {s : ℤ} {from to : List ℕ} {strides : List ℤ} → AreHeads both → both.from ≡ len ∷ from
    → both.strides ≡ s ∷ strides → both.to ≡ product ∷ to
    → IsJoined both len s product (record { from = from; strides = strides; to = to })
joined-first {both} {len} {product} {s} {from} {to} {strides} at e f g =
    let rest : Layouts = record { from = from; strides = strides; to = to } in
    let same : both ≡ heads len s product rest = λ i. record { from = e i; strides = f i; to = g i } in
    subst (λ b. IsJoined b len s product rest) (sym same) (first rest (subst AreHeads same at))
  where
    by : (ss : List ℤ) → ss ≡ split (product ∷ []) ss
    by [] = refl
    by (z ∷ zs) = ap (λ x. x ∷ zs) (sym (times-one z))

    first : (rest : Layouts) → AreHeads (heads len s product rest) → IsJoined (heads len s product rest) len s product rest
    first rest at = record {
      are_heads = at;
      lens = product ∷ [];
      front = refl;
      size_is = mul-one product;
      first_long = at.new_long;
      goes_on = record {
        can_match = at.can_match;
        fault = refl;
        strides = λ none. by (forced (heads len s product rest));
      };
    }

module _ {both : Layouts} {len product : ℕ} {s : ℤ} {rest : Layouts} (at : IsJoined both len s product rest) where
  can : CanMatch (heads len s product rest)
  can = at.are_heads.can_match

  -- ---- faults
  pub to-end-fault : product < len → rest.to ≡ [] → fault_of both ≡ Some IncompatibleShape
  to-end-fault less none =
      let single : size (product ∷ rest.to) ≡ product = ap (λ xs. product * size xs) none ∙ mul-one product in
      let some = size_of_nonempty rest.from (is_empty-rest len rest.from can.some) in
      let more : len * 1 ≤ len * size rest.from = mul-le-mul_left len some in
      at.goes_on.fault
      ∙ fault-shape (len ∷ rest.from) (s ∷ rest.strides) (product ∷ rest.to)
      (bad-larger (product ∷ rest.to) (record { same_count = can.same_count; some = can.some }) (omega arith)) (λ same. omega arith)

  pub from-end-fault : len < product → rest.from ≡ [] → fault_of both ≡ Some IncompatibleShape
  from-end-fault less none =
      let single : size (len ∷ rest.from) ≡ len = ap (λ xs. len * size xs) none ∙ mul-one len in
      let some = size_of_nonempty rest.to (is_empty-rest product rest.to can.more) in
      let more : product * 1 ≤ product * size rest.to = mul-le-mul_left product some in
      at.goes_on.fault
      ∙ fault-shape (len ∷ rest.from) (s ∷ rest.strides) (product ∷ rest.to)
      (ap (λ xs. has_bad_joint (len ∷ xs) (s ∷ rest.strides) (product ∷ rest.to)) none
      ∙ bad-lone len s rest.strides (product ∷ rest.to)) (λ same. omega arith)

  -- ---- both have as many indices
  part-fits : (n : ℕ) → n < len → FitsSigned w64 (pos n *ℤ s)
  part-fits n less =
      let span_fits = can.span_fits in
      let times = unsigned_abs-mul (pos n) s in
      let more : n * magnitude s ≤ (len - 1) * magnitude s = mul-le-mul_right (magnitude s) (omega arith) in
      fits_signed_from_abs w64 (pos n *ℤ s) (omega arith)

  parts-fit : (lens : List ℕ) → is_empty lens ≡ false → size lens < len → All (FitsSigned w64) (block_strides lens s)
  parts-fit [] some less = All-nil (FitsSigned w64)
  parts-fit (n ∷ lens) some less =
      let fewer : 1 * size lens ≤ n * size lens = mul-le-mul_right (size lens) (some-len n lens some) in
      All-cons (FitsSigned w64) (pos (size lens) *ℤ s) (block_strides lens s)
      (part-fits (size lens) (omega arith)) (parts-fit lens (is_empty-rest n lens some) (omega arith))

  block-fits : (lens : List ℕ) → is_empty lens ≡ false → 1 < get_or lens 0 0 → size lens ≡ len → All (FitsSigned w64) (block_strides lens s)
  block-fits [] some long whole = absurd (omega arith)
  block-fits (n ∷ lens) some long whole =
      let rest = is_empty-rest n lens some in
      let here = size_of_nonempty lens rest in
      let twice : 2 * size lens ≤ n * size lens = mul-le-mul_right (size lens) long in
      All-cons (FitsSigned w64) (pos (size lens) *ℤ s) (block_strides lens s)
      (part-fits (size lens) (omega arith)) (parts-fit lens rest (omega arith))

  pub joined-block : len ≡ product → IsBlock both s rest
  joined-block same =
      let turn = turn-both (subst (λ n. CanMatch (heads len s n rest)) (sym same) can) in
      let new_long = at.are_heads.new_long in
      let size_is = at.size_is in
      record {
        lens = at.lens;
        front = at.front;
        fits = block-fits at.lens (size-some at.lens (omega arith)) at.first_long (size_is ∙ sym same);
        goes_on = goes-through at.goes_on (subst (λ n. GoesOn (heads len s n rest) (λ ss. s ∷ ss) rest) same turn);
      }

-- ---- one axis more of the new shape
module _ {both : Layouts} {len product : ℕ} {s : ℤ} {rest : Layouts} (before : IsJoined both len s product rest)
    {next : ℕ} {to : List ℕ} (to_is : rest.to ≡ next ∷ to) where
  abbrev pub without_new : Layouts
  without_new = record { from = rest.from; strides = rest.strides; to = to }

  at_new : IsJoined both len s product (with_to next without_new)
  at_new = subst (IsJoined both len s product) (λ i. record { from = rest.from; strides = rest.strides; to = to_is i }) before

  after_new : is_empty (next ∷ to) ≡ false
  after_new = is_empty-rest product (next ∷ to) at_new.are_heads.can_match.more

  pub new-product-fits : product * next ≤ limit
  new-product-fits =
      let can = at_new.are_heads.can_match in
      let fits : size (product * next ∷ to) ≤ limit = subst (λ n. n ≤ limit) (sym (mul_assoc product next (size to))) can.to_fits in
      let more : product * next * 1 ≤ product * next * size to =
      mul-le-mul_left (product * next) (size_of_nonempty to (is_empty-rest next to after_new)) in
      omega arith

  pub joined-new : product < len → IsJoined both len s (product * next) without_new
  joined-new less =
      let new_long = at_new.are_heads.new_long in
      let more : product * 1 ≤ product * next = mul-le-mul_left product (some-len next to after_new) in
      let turn = turn-to-joined at_new.are_heads.can_match new_long less in
      let lens = at_new.lens in
      record {
        are_heads = record { can_match = turn.can_match; long = at_new.are_heads.long; new_long = omega arith };
        lens = lens ++ next ∷ [];
        front = at_new.front ∙ sym (append_assoc lens (next ∷ []) to);
        size_is = size-push lens next ∙ mul_comm next (size lens) ∙ ap (λ n. n * next) at_new.size_is;
        first_long = first lens at_new.first_long;
        goes_on = record {
          can_match = turn.can_match;
          fault = at_new.goes_on.fault ∙ turn.fault;
          strides = λ none. (goes-through at_new.goes_on turn).strides none
              ∙ split-push lens next (forced (heads len s (product * next) without_new));
        };
      }
    where
      first : (lens : List ℕ) → 1 < get_or lens 0 0 → 1 < get_or (lens ++ next ∷ []) 0 0
      first [] long = absurd (omega arith)
      first (n ∷ lens) long = long

-- ---- or of the old one
module _ {both : Layouts} {len product : ℕ} {s : ℤ} {rest : Layouts} (before : IsJoined both len s product rest)
    {next : ℕ} {from : List ℕ} (from_is : rest.from ≡ next ∷ from) {z : ℤ} {strides : List ℤ}
    (strides_are : rest.strides ≡ z ∷ strides) where
  abbrev pub without_old : Layouts
  without_old = record { from = from; strides = strides; to = rest.to }

  at_old : IsJoined both len s product (with_from next z without_old)
  at_old = subst (IsJoined both len s product) (λ i. record { from = from_is i; strides = strides_are i; to = rest.to }) before

  after_old : is_empty (next ∷ from) ≡ false
  after_old = is_empty-rest len (next ∷ from) at_old.are_heads.can_match.some

  pub old-product-fits : (len * next ≤ limit) × (next ≤ limit)
  old-product-fits =
      let can = at_old.are_heads.can_match in
      let long = at_old.are_heads.long in
      let fits : size (len * next ∷ from) ≤ limit = subst (λ n. n ≤ limit) (sym (mul_assoc len next (size from))) can.from_fits in
      let more : len * next * 1 ≤ len * next * size from =
      mul-le-mul_left (len * next) (size_of_nonempty from (is_empty-rest next from after_old)) in
      let least : 1 * next ≤ len * next = mul-le-mul_right next (omega arith) in
      (omega arith, omega arith)

  joined : (t : ℤ) → GoesOn (heads len s product (with_from next z without_old)) (λ ss. ss) (heads (len * next) t product without_old)
      → IsJoined both (len * next) t product without_old
  joined t turn =
      let long = at_old.are_heads.long in
      let more : len * 1 ≤ len * next = mul-le-mul_left len (some-len next from after_old) in
      record {
        are_heads = record { can_match = turn.can_match; long = omega arith; new_long = at_old.are_heads.new_long };
        lens = at_old.lens;
        front = at_old.front;
        size_is = at_old.size_is;
        first_long = at_old.first_long;
        goes_on = goes-through at_old.goes_on turn;
      }

  pub joined-old : len < product → 1 < next → s ≡ pos next *ℤ z → IsJoined both (len * next) z product without_old
  joined-old less longer whole =
      let at = at_old.are_heads in
      joined z (turn-joined at.can_match at.long (IsNoProduct-within len product rest.to at.long less) longer whole)

  pub joined-one : len < product → next ≤ 1 → IsJoined both (len * next) s product without_old
  joined-one less short =
      let at = at_old.are_heads in
      let some = some-len next from after_old in
      joined s (turn-skipped at.can_match at.long (IsNoProduct-within len product rest.to at.long less) (omega arith))

  pub apart-fault : len < product → 1 < next → s ≢ pos next *ℤ z → fault_of both ≡ Some IncompatibleLayout
  apart-fault less longer differ =
      let can = at_old.are_heads.can_match in
      let long = at_old.are_heads.long in
      let some = size_of_nonempty rest.to (is_empty-rest product rest.to can.more) in
      let more : product * 1 ≤ product * size rest.to = mul-le-mul_left product some in
      at_old.goes_on.fault
      ∙ fault-layout (len ∷ next ∷ from) (s ∷ z ∷ strides) (product ∷ rest.to)
      (bad-loose from z strides (product ∷ rest.to) (long, longer) (omega arith, product-within len product rest.to long less) differ)

-- the stride of an axis that is left, and those of the axes after it
pub next-stride : (strides : List ℕ) (axis : ℕ) → axis < length strides
    → all_signed (drop axis strides) ≡ signed (get_or strides axis 0) ∷ all_signed (drop (axis + 1) strides)
next-stride strides axis l =
    ap all_signed (drop-cons strides axis 0 l) ∙ ap (λ n. signed (get_or strides axis 0) ∷ all_signed (drop n strides)) (sym (add-one axis))
