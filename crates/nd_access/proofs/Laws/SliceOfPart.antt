-- A view whose places follow one another, where each has a mark.
use Rattle.std.proofs.Common.{◌≡◌, ℕ, zero, suc, ◌+◌, ◌-◌, ◌<◌, ◌≤◌, ℤ, pos, negsuc, Bool, true, false, List, [], ◌∷◌, length}
use Rattle.std.proofs.Common.{eqb, get_or, refl, sym, ap, subst, ◌∙◌, arith}
use Rattle.std.specs.Prelude.{IsTrue}
use Rattle.std.proofs.lemmas.Bool.{cond-false, false≢true, ne_eqb}
use Rattle.ndarray_layout.specs.declared.Order.TheVariants.{RowMajor}
use Rattle.ndarray_layout.specs.Bounds.{IsInBounds}
use Rattle.ndarray_layout.specs.FlatIndex.{index_of_flat_in}
use Rattle.ndarray_layout.specs.Size.{size}
use Rattle.ndarray_layout.specs.Stretch.{IsStretch, stretch_start}
use Rattle.ndarray_layout.specs.View.{View, LiesWithin, place_at}
use Rattle.ndarray_layout.proofs.Laws.FlatIndex.{flat_index_in-index_of_flat_in, is_index-index_of_flat_in}
use Rattle.ndarray_layout.proofs.Laws.Stretch.{place_in_stretch, stretch_in_bounds}
use Rattle.nd_access.specs.Cells.{are_within, span_of}
use Rattle.nd_access.specs.Part.{has_mark, AreMarked}

-- a place that has a mark is one of those that may have one
pub mark_in_bounds : (marks : List Bool) (place : ℕ) → get_or marks place false ≡ true → place < length marks
mark_in_bounds [] place h = absurd (false≢true h)
mark_in_bounds (m ∷ marks) zero h = omega arith
mark_in_bounds (m ∷ marks) (suc place) h = let below = mark_in_bounds marks place h in omega arith

marked_in_bounds : (marks : List Bool) (place : ℤ) → has_mark marks place ≡ true → IsInBounds (length marks) place
marked_in_bounds marks (pos place) h = mark_in_bounds marks place h
marked_in_bounds marks (negsuc below) h = absurd (false≢true h)

-- marks at so many places from one on, where each of these has one
pub span_within : (start len : ℕ) (marks : List Bool) → ((k at : ℕ) → k < len → start + k ≡ at → get_or marks at false ≡ true)
    → are_within (span_of start len marks) marks ≡ true
span_within start len [] h = refl
span_within (suc start) len (m ∷ marks) h =
    span_within start len marks (λ k at below is. h k (suc at) below (let next : suc start + k ≡ suc at = omega arith in next))
span_within zero zero (m ∷ marks) h = span_within zero zero marks (λ k at below is. absurd (let no : ⊥ = omega arith in no))
span_within zero (suc len) (true ∷ marks) h = span_within zero len marks (λ k at below is.
    h (suc k) (suc at) (let less : suc k < suc len = omega arith in less) (let next : zero + suc k ≡ suc at = omega arith in next))
span_within zero (suc len) (false ∷ marks) h =
    absurd (false≢true (h 0 0 (let less : 0 < suc len = omega arith in less) (let first : zero + 0 ≡ 0 = omega arith in first)))

module _ (marks : List Bool) (view : View) (part : AreMarked marks view) (stretch : IsStretch RowMajor view) where
  within : LiesWithin (length marks) view
  within index here = marked_in_bounds marks (place_at view index) (part index here)

  fits : stretch_start view + size view.shape ≤ length marks
  fits = stretch_in_bounds RowMajor view (length marks) stretch within

  marked : (k : ℕ) → k < size view.shape → get_or marks (stretch_start view + k) false ≡ true
  marked k below =
      let index = index_of_flat_in RowMajor view.shape k in
      let here = is_index-index_of_flat_in RowMajor view.shape k below in
      let place : place_at view index ≡ pos (view.start + k) = place_in_stretch RowMajor view index stretch here
      ∙ ap (λ flat. pos (view.start + flat)) (flat_index_in-index_of_flat_in RowMajor view.shape k below) in
      let some : size view.shape ≡ 0 → ⊥ = λ none. omega arith in
      let first : stretch_start view ≡ view.start =
      cond-false {A = ℕ} (eqb (size view.shape) 0) 0 view.start (ne_eqb (size view.shape) 0 some) in
      subst (λ (at : ℕ). get_or marks (at + k) false ≡ true) (sym first)
      (subst (λ (at : ℤ). has_mark marks at ≡ true) place (part index here))

  pub span_marked : (start end : ℕ) → start ≡ stretch_start view → end ≡ stretch_start view + size view.shape
      → IsTrue (are_within (span_of start (end - start) marks) marks) × (start + (end - start) ≤ length marks)
  span_marked start end from to =
      let many : size view.shape ≡ end - start = omega arith in (
        subst (λ (n : ℕ). are_within (span_of start n marks) marks ≡ true) many
            (span_within start (size view.shape) marks
            (λ k at below is. let here : stretch_start view + k ≡ at = omega arith in
            subst (λ (place : ℕ). get_or marks place false ≡ true) here (marked k below))),
        omega (arith, fits),
      )
