-- Two axes of one shape are read as one: of the old shape where they are iterated over as one, and of the new shape.
use Rattle.std.proofs.Common.{◌≡◌, ◌≢◌, ℕ, zero, suc, ◌+◌, ◌-◌, ◌*◌, ◌<◌, ◌≤◌, ◌==◌, ◌&&◌, false, ℤ, pos, ◌*ℤ◌, List, [], ◌∷◌, ◌++◌}
use Rattle.std.proofs.Common.{length, get_or}
use Rattle.std.proofs.Common.{refl, sym, ap, ap₂, ◌∙◌, inl, inr, arith, subst, None}
use Rattle.std.specs.Prelude.{if◌then◌else◌, nat_lt}
use Rattle.std.proofs.Math.Bool.{and-false}
use Rattle.std.proofs.Math.Nat.{mul-le-mul_left, mul-one, mul-pos, mul_assoc}
use Rattle.std.proofs.lemmas.Bool.{both_ways, cases_eq, cond-false, le-ltb, ne_eqb}
use Rattle.std.proofs.lemmas.Int.{unsigned_abs-mul}
use Rattle.nd_base.proofs.Laws.Definitions.{is_empty, limit, magnitude, size, span}
use Rattle.nd_base.proofs.Laws.Size.{size_of_nonempty}
use Rattle.nd_dim.specs.Strides.{size_after, size_until}
use Rattle.ndarray_layout.specs.reshape.ForcedStrides.{offset_at_flat_index, ones_before, strides_of_ones}
use Rattle.ndarray_layout.specs.private.ReshapeProgress.{CanMatch, GoesOn, Layouts, fault_of, forced, forced_at, with_from, with_to}
use Rattle.ndarray_layout.proofs.matching.BadJoints.{IsNoProduct, bad-to-merged, is_product, product-merged}
use Rattle.ndarray_layout.proofs.matching.BadJoints.{product-within}
use Rattle.ndarray_layout.proofs.matching.Blocks.{times-one}
use Rattle.ndarray_layout.proofs.matching.Exact.{AreOne, are-skipped, are-whole, exactly, first-stride}
use Rattle.ndarray_layout.proofs.matching.Faults.{fault-same, none-parts}
use Rattle.ndarray_layout.proofs.matching.FlatOffsets.{offset-merged}
use Rattle.ndarray_layout.proofs.matching.Forced.{forced-of-alike, stride_at-long}
use Rattle.ndarray_layout.proofs.matching.HasIndex.{HasIndex, SamePlaces, filled, is_empty-rest, some-len}
use Rattle.ndarray_layout.proofs.matching.OnesRead.{ones_before-joined, ones_where, ones_where-longer, ones_where-next}
use Rattle.ndarray_layout.proofs.matching.StridesAt.{AreDecidedAlike, forced-after, forced-same, read_at}
use Rattle.ndarray_layout.proofs.matching.Turns.{size_after-next}

-- ---- two axes of the old shape
reach-joined : (len next m : ℕ) → 0 < len → 0 < next → (len - 1) * (next * m) + (next - 1) * m ≡ (len * next - 1) * m
reach-joined zero next m some more = absurd (omega arith)
reach-joined (suc len) zero m some more = absurd (omega arith)
reach-joined (suc len) (suc next) m some more =
    let one : suc len - 1 ≡ len = omega arith in
    let other : suc next - 1 ≡ next = omega arith in
    let both : suc len * suc next - 1 ≡ len * suc next + next = omega arith in
    ap₂ (λ a b. a * (suc next * m) + b * m) one other ∙ sum ∙ sym (ap (λ n. n * m) both)
  where
    sum : len * (suc next * m) + next * m ≡ (len * suc next + next) * m
    sum = omega arith

-- which are one of a stride
turn-one : {len next : ℕ} {s t u : ℤ} {rest : Layouts} → CanMatch (with_from len s (with_from next t rest)) → 1 < len
    → IsNoProduct rest.to len → AreOne len next s t u rest.from rest.strides → span (len * next ∷ rest.from) (u ∷ rest.strides) ≤ limit
    → GoesOn (with_from len s (with_from next t rest)) (λ ss. ss) (with_from (len * next) u rest)
turn-one {len} {next} {s} {t} {u} {rest} can long apart are fits =
    let count = can.same_count in
    record {
      can_match = record {
        same_count = omega arith;
        some = filled rest.from (mul-pos (omega arith) here) (is_empty-rest next rest.from after);
        more = can.more;
        from_fits = subst (λ n. n ≤ limit) (sym (mul_assoc len next (size rest.from))) can.from_fits;
        to_fits = can.to_fits;
        span_fits = fits;
      };
      fault = fault-same both one (are.joints rest.to) (ap (λ n. n == size rest.to) (sym (mul_assoc len next (size rest.from))));
      strides = λ none. forced-same both one can.more refl alike;
    }
  where
    both : Layouts
    both = with_from len s (with_from next t rest)

    one : Layouts
    one = with_from (len * next) u rest

    after : is_empty (next ∷ rest.from) ≡ false
    after = is_empty-rest len (next ∷ rest.from) can.some

    here : 0 < next
    here = some-len next rest.from after

    alike : (axis : ℕ) → axis < length rest.to → AreDecidedAlike both axis one axis
    alike axis l =
        let q = size_until rest.to axis in
        let more : 1 < len * next = let twice : len * 1 ≤ len * next = mul-le-mul_left len here in omega arith in
        record {
          len = refl;
          long = λ longer. are.offsets (size_after rest.to axis);
          product = product-merged len next rest.from q (λ e. apart axis (sym e));
          read = λ coordinate known. ap (λ xs. get_or xs (ones_before rest.to q axis) (pos 1))
              (ones_where-longer (λ n. n == q) (next ∷ rest.from) s (t ∷ rest.strides) (λ e. omega arith)
              ∙ ones_where-next (λ n. len * n == q) next rest.from t rest.strides
              ∙ ap (λ b. (if next == 1 && b then t ∷ [] else []) ++ ones_where (λ n. len * (next * n) == q) rest.from rest.strides)
              (ne_eqb (len * 1) q (λ e. apart axis (sym e ∙ mul-one len)))
              ∙ ap (λ b. (if b then t ∷ [] else []) ++ ones_where (λ n. len * (next * n) == q) rest.from rest.strides)
              (and-false (next == 1))
              ∙ (λ i. ones_where (λ n. sym (mul_assoc len next n) i == q) rest.from rest.strides)
              ∙ sym (ones_where-longer (λ n. n == q) rest.from u rest.strides (λ e. omega arith)));
        }

-- by what the test of the code says
module _ {len next : ℕ} {s t : ℤ} {rest : Layouts} (can : CanMatch (with_from len s (with_from next t rest))) (long : 1 < len)
    (apart : IsNoProduct rest.to len) where
  after_two : is_empty rest.from ≡ false
  after_two = is_empty-rest next rest.from (is_empty-rest len (next ∷ rest.from) can.some)

  pub turn-joined : 1 < next → s ≡ pos next *ℤ t → GoesOn (with_from len s (with_from next t rest)) (λ ss. ss)
      (with_from (len * next) t rest)
  turn-joined longer whole =
      let reach = reach-joined len next (magnitude t) (omega arith) (omega arith) in
      let times = ap (λ z. (len - 1) * magnitude z) whole ∙ ap (λ m. (len - 1) * m) (unsigned_abs-mul (pos next) t) in
      turn-one can long apart (are-whole rest.strides long longer (size_of_nonempty rest.from after_two) whole)
      (let fits = can.span_fits in omega arith)

  pub turn-skipped : next ≡ 1 → GoesOn (with_from len s (with_from next t rest)) (λ ss. ss) (with_from (len * next) s rest)
  turn-skipped one =
      let reach = ap (λ n. (n - 1) * magnitude s) (ap (λ n. len * n) one ∙ mul-one len) in
      turn-one can long apart (are-skipped s t rest.strides one (size_of_nonempty rest.from after_two))
      (let fits = can.span_fits in omega arith)

-- ---- two axes of the new shape, before the first axis of the old one is at its end
-- each list of strides gives one with the stride of an axis more, of which it has the last one
abbrev pub split_first : ℕ → List ℤ → List ℤ
split_first len [] = []
split_first len (s ∷ ss) = (pos len *ℤ s) ∷ s ∷ ss

module _ {first len next : ℕ} {s : ℤ} {rest : Layouts} (can : CanMatch (with_from first s (with_to len (with_to next rest))))
    (long : 1 < len) (less : len < first) where
  abbrev pub both : Layouts
  both = with_from first s (with_to len (with_to next rest))

  abbrev pub one : Layouts
  one = with_from first s (with_to (len * next) rest)

  some : 0 < next
  some = some-len next rest.to (is_empty-rest len (next ∷ rest.to) can.more)

  more : 1 < len * next
  more = let twice : len * 1 ≤ len * next = mul-le-mul_left len some in omega arith

  can-join-to : CanMatch one
  can-join-to = record {
    same_count = can.same_count;
    some = can.some;
    more = filled rest.to (omega (arith, more)) (is_empty-rest next rest.to (is_empty-rest len (next ∷ rest.to) can.more));
    from_fits = can.from_fits;
    to_fits = subst (λ n. n ≤ limit) (sym (mul_assoc len next (size rest.to))) can.to_fits;
    span_fits = can.span_fits;
  }

  -- each list of strides that keeps the places is one of whole strides
  strides-here : fault_of one ≡ None → (forced_at both 0 ≡ pos next *ℤ forced_at one 0) × (forced_at both 1 ≡ forced_at one 0)
  strides-here none = elim (cases_eq next 1) [
    | inl alone ↦ (whole, stride-one alone ∙ whole ∙ ap (λ n. pos n *ℤ forced_at one 0) alone ∙ times-one (forced_at one 0))
    | inr other ↦
        let longer : 1 < next = let here = some in omega arith in
        (whole, stride_at-long both.from both.strides both.to 1 longer ∙ sym (stride_at-long one.from one.strides one.to 0 more))
  ]
    where
      whole : forced_at both 0 ≡ pos next *ℤ forced_at one 0
      whole =
          let parts = none-parts one.from one.strides one.to none in
          let index : HasIndex one.from one.strides = record { same_count = can.same_count; some = can.some } in
          let has = (exactly one.to (record { index = index; more = can-join-to.more; sizes = parts.0 })).made parts.1 in
          let f = first-stride has in
          let count = f.count in
          let after = size_of_nonempty rest.to (is_empty-rest next rest.to (is_empty-rest len (next ∷ rest.to) can.more)) in
          let at_one : SamePlaces one.from one.strides one.to (f.first ∷ f.rest) = record { sizes = parts.0; alike = f.alike } in
          let at : SamePlaces both.from both.strides both.to ((pos next *ℤ f.first) ∷ f.first ∷ f.rest) = record {
            sizes = parts.0 ∙ mul_assoc len next (size rest.to);
            alike = λ r l. offset-merged len next rest.to f.first f.rest r (some, after) ∙ f.alike r l;
          } in
          stride_at-long both.from both.strides both.to 0 long
          ∙ sym (forced-of-alike 0 (record { same_count = omega arith; some = can.more }) at (omega arith) long)
          ∙ ap (λ z. pos next *ℤ z) (forced-of-alike 0 (record { same_count = omega arith; some = can-join-to.more }) at_one
          (omega arith) more
          ∙ sym (stride_at-long one.from one.strides one.to 0 more))

      -- one of length 1 has the stride of the axis before it
      stride-one : next ≡ 1 → forced_at both 1 ≡ forced_at both 0
      stride-one alone =
          cond-false (nat_lt 1 next) (offset_at_flat_index both.from both.strides (size_after both.to 1))
          (if is_product both.from (size_until both.to 1) then read_at both 1 else forced_at both 0) (le-ltb 1 next (omega arith))
          ∙ cond-false (is_product both.from (size_until both.to 1)) (read_at both 1) (forced_at both 0)
          (ap (is_product both.from) (mul-one len) ∙ product-within len first rest.from long less)

  alike-after : (later : ℕ) → 0 < later → later < length one.to → AreDecidedAlike both (suc later) one later
  alike-after zero after l = absurd (omega arith)
  alike-after (suc later) after l =
      let q = size_until rest.to later in
      record {
        len = refl;
        long = λ longer. ap (offset_at_flat_index both.from both.strides)
            (size_after-next len (next ∷ rest.to) (suc later) ∙ size_after-next next rest.to later
            ∙ sym (size_after-next (len * next) rest.to later));
        product = ap (is_product both.from) (sym (mul_assoc len next q));
        read = λ coordinate known.
            let apart : len * next * q ≢ len = λ e. both_ways (is_product one.from len) (product-within len first rest.from long less)
            (ap (is_product one.from) (sym e) ∙ known) in
            ap (λ n. get_or (strides_of_ones both.from both.strides n) (ones_before both.to n (suc (suc later))) (pos 1))
            (sym (mul_assoc len next q))
            ∙ ap (λ k. get_or (strides_of_ones both.from both.strides (len * next * q)) k (pos 1))
            (ones_before-joined len next rest.to (len * next * q) later long more apart);
      }

  pub turn-to-joined : GoesOn both (split_first next) one
  turn-to-joined =
      let same = fault-same both one (bad-to-merged first len next rest.to (record { same_count = can.same_count; some = can.some }) less)
      (ap (λ n. size both.from == n) (sym (mul_assoc len next (size rest.to)))) in
      record {
        can_match = can-join-to;
        fault = same;
        strides = λ none.
            let here = strides-here (sym same ∙ none) in
            forced-after both one can-join-to.more refl (λ l. here.1) alike-after ∙ ap (λ z. z ∷ forced one) here.0;
      }
