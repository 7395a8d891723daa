-- A layout read as one of more or longer axes: one of its places, at which each coordinate of an axis that was longer lies at the first.
use Rattle.std.proofs.Common.{◌≡◌, ◌+◌, ◌⊎◌, ℕ, zero, suc, ◌<◌, ◌≤◌, ℤ, pos, cond, eqb, Bool, List, [], ◌∷◌, ◌++◌, length}
use Rattle.std.proofs.Common.{get_or, drop, replicate, true, false, inl, inr, refl, sym, ap, ◌∙◌, arith}
use Rattle.std.proofs.Math.IntN.{zero-*ℤ}
use Rattle.std.proofs.lemmas.Bool.{cases_eq, eq-eqb, ne_eqb}
use Rattle.std.proofs.lemmas.Int.{ints}
use Rattle.std.proofs.lemmas.List.{get_or-drop}
use Rattle.std.proofs.lemmas.List.{length-drop}
use Rattle.nd_base.proofs.Laws.Definitions.{all_signed, signed}
use Rattle.nd_shape.proofs.Laws.Stretches.{StretchesTo}
use Rattle.ndarray_layout.specs.BroadcastView.{broadcast_strides, coordinates_within, new_axes, stretched_strides}
use Rattle.ndarray_layout.proofs.AxisByAxis.{AxisHasSources, along, new_axis, no_axes}
use Rattle.ndarray_layout.proofs.Laws.Sources.{HasSources}

-- ---- axes that were there
stretched_axis : {len other : ℕ} (stride : ℤ) → (other ≡ len) ⊎ (other ≡ 1)
    → AxisHasSources (λ i. cond (eqb other 1) 0 i) other stride (pos 0) len (cond (eqb len other) stride (pos 0))
stretched_axis {len} {other} stride stays = elim (cases_eq other 1) [
  | inl one ↦ rw (eq-eqb other 1 one) (record {
    within = λ least i few below. omega arith;
    offset = λ i below. elim (cases_eq len other) [
      | inl e ↦
          let first : i ≡ 0 = omega arith in
          rw (first, zero-*ℤ stride, zero-*ℤ (cond (eqb len other) stride (pos 0))) refl
      | inr e ↦ rw (ne_eqb len other e, zero-*ℤ stride) (omega (arith, ints))
    ];
  })
  | inr more ↦
      let same : len ≡ other = elim stays [
        | inl e ↦ sym e
        | inr e ↦ absurd (more e)
      ] in
      rw (ne_eqb other 1 more, eq-eqb len other same, same)
      (record { within = λ least i few below. below; offset = λ i below. omega (arith, ints) })
]

stretched_sources : (lens others : List ℕ) (strides : List ℤ) → length lens ≡ length others → length others ≡ length strides
    → ((k : ℕ) → k < length others → (get_or others k 0 ≡ get_or lens k 0) ⊎ (get_or others k 0 ≡ 1))
    → HasSources (coordinates_within others) others strides (pos 0) lens (stretched_strides lens others strides)
stretched_sources [] [] [] e f stays = (no_axes refl).sources
stretched_sources [] [] (stride ∷ strides) e f stays = absurd (omega arith)
stretched_sources [] (other ∷ others) strides e f stays = absurd (omega arith)
stretched_sources (len ∷ lens) [] strides e f stays = absurd (omega arith)
stretched_sources (len ∷ lens) (other ∷ others) [] e f stays = absurd (omega arith)
stretched_sources (len ∷ lens) (other ∷ others) (stride ∷ strides) e f stays =
    along (stretched_axis stride (stays 0 (omega arith)))
    (stretched_sources lens others strides (omega arith) (omega arith) (λ k h. stays (suc k) (omega arith))) refl (λ i index. refl)

-- ---- new axes
after_new : {source : List ℕ → List ℕ} {old : List ℕ} {old_strides strides : List ℤ} (n : ℕ) (shape : List ℕ) → n ≤ length shape
    → HasSources source old old_strides (pos 0) (drop n shape) strides
    → HasSources (λ index. source (drop n index)) old old_strides (pos 0) shape (replicate n (pos 0) ++ strides)
after_new zero shape h rest = rest
after_new (suc n) [] h rest = absurd (omega arith)
after_new (suc n) (len ∷ shape) h rest =
    new_axis (λ i below. omega (arith, ints)) (after_new n shape (omega arith) rest) (λ i index. refl)

-- ---- all axes
count_after : (shape view_shape : List ℕ) → length view_shape ≤ length shape
    → length (drop (new_axes shape view_shape) shape) ≡ length view_shape
count_after shape view_shape h = omega (arith, length-drop (new_axes shape view_shape) shape)

pub broadcast_sources : {shape view_shape : List ℕ} {strides : List ℤ} → length view_shape ≡ length strides
    → length view_shape ≤ length shape → StretchesTo shape view_shape
    → HasSources (λ coordinates. coordinates_within view_shape (drop (new_axes shape view_shape) coordinates)) view_shape strides (pos 0)
    shape (broadcast_strides shape view_shape strides)
broadcast_sources {shape} {view_shape} {strides} counts fewer stretches =
    let n = new_axes shape view_shape in
    after_new n shape (omega arith) (stretched_sources (drop n shape) view_shape strides (count_after shape view_shape fewer) counts
    (λ k h. rw (get_or-drop n shape k 0) (stretches k h)))

-- ---- axis by axis
-- a list that is written axis by axis
pub record WrittenByAxis (shape view_shape strides new : List ℕ) : Type 0 where
  pub count : length new ≡ length shape
  pub front : (k : ℕ) → k < new_axes shape view_shape → get_or new k 0 ≡ 0
  pub after : (k : ℕ) → k < length view_shape → get_or new (new_axes shape view_shape + k) 0
      ≡ cond (eqb (get_or shape (new_axes shape view_shape + k) 0) (get_or view_shape k 0)) (get_or strides k 0) 0

signed_either : (b : Bool) (stride : ℕ) → signed (cond b stride 0) ≡ cond b (signed stride) (pos 0)
signed_either true stride = refl
signed_either false stride = refl

-- its zeros in front
written_front : (n : ℕ) (new : List ℕ) → n ≤ length new → ((k : ℕ) → k < n → get_or new k 0 ≡ 0)
    → all_signed new ≡ replicate n (pos 0) ++ all_signed (drop n new)
written_front zero new h front = refl
written_front (suc n) [] h front = absurd (omega arith)
written_front (suc n) (stride ∷ new) h front =
    ap (λ s. signed s ∷ all_signed new) (front 0 (omega arith))
    ∙ ap (λ rest. pos 0 ∷ rest) (written_front n new (omega arith) (λ k l. front (suc k) (omega arith)))

-- and the strides after them
written_after : (lens others strides new : List ℕ) → length lens ≡ length others → length others ≡ length strides
    → length new ≡ length others
    → ((k : ℕ) → k < length others → get_or new k 0 ≡ cond (eqb (get_or lens k 0) (get_or others k 0)) (get_or strides k 0) 0)
    → all_signed new ≡ stretched_strides lens others (all_signed strides)
written_after lens others [] [] e f g after = refl
written_after lens others [] (new ∷ more) e f g after = absurd (omega arith)
written_after [] others (stride ∷ strides) new e f g after = absurd (omega arith)
written_after (len ∷ lens) [] (stride ∷ strides) new e f g after = absurd (omega arith)
written_after (len ∷ lens) (other ∷ others) (stride ∷ strides) [] e f g after = absurd (omega arith)
written_after (len ∷ lens) (other ∷ others) (stride ∷ strides) (new ∷ more) e f g after =
    ap (λ s. s ∷ all_signed more) (ap signed (after 0 (omega arith)) ∙ signed_either (eqb len other) stride)
    ∙ ap (λ rest. cond (eqb len other) (signed stride) (pos 0) ∷ rest)
    (written_after lens others strides more (omega arith) (omega arith) (omega arith) (λ k h. after (suc k) (omega arith)))

-- are those of the broadcast
pub strides_by_axes : {shape view_shape strides new : List ℕ} → length view_shape ≤ length shape → length view_shape ≡ length strides
    → WrittenByAxis shape view_shape strides new → all_signed new ≡ broadcast_strides shape view_shape (all_signed strides)
strides_by_axes {shape} {view_shape} {strides} {new} fewer counts written =
    let n = new_axes shape view_shape in
    written_front n new (omega (arith, written.count)) written.front
    ∙ ap (λ rest. replicate n (pos 0) ++ rest) (written_after (drop n shape) view_shape strides (drop n new)
    (count_after shape view_shape fewer) counts (omega (arith, written.count, length-drop n new)) (λ k h.
    get_or-drop n new k 0 ∙ written.after k h
    ∙ ap (λ len. cond (eqb len (get_or view_shape k 0)) (get_or strides k 0) 0) (sym (get_or-drop n shape k 0))))
