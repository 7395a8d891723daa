-- Views whose places are consecutive numbers: where they lie, that each has a mark, and which items lie there.
use Rattle.std.proofs.Common.{◌≡◌, ℕ, zero, suc, ◌+◌, ◌-◌, ◌<◌, ◌≤◌, ℤ, pos, Bool, true, false, List, length, get_or, take, drop}
use Rattle.std.proofs.Common.{sym, ap, subst, ◌∙◌, arith}
use Rattle.std.specs.Prelude.{IsTrue}
use Rattle.std.proofs.lemmas.Bool.{false≢true}
use Rattle.ndarray_layout.specs.Indices.{is_index}
use Rattle.ndarray_layout.specs.OneInterval.{FillsInterval}
use Rattle.ndarray_layout.specs.Size.{is_empty, size}
use Rattle.ndarray_layout.specs.View.{View, IsView}
use Rattle.ndarray_layout.proofs.Laws.IsIndex.{nonempty_from_index}
use Rattle.ndarray_layout.proofs.Laws.Size.{size_of_empty, size_of_nonempty}
use Rattle.nd_access.specs.Cells.{are_within, span_of}
use Rattle.nd_access.specs.Items.{ArrayValue}
use Rattle.nd_lent.specs.MemoryOrder.{items_in_memory_order}
use Rattle.nd_access.specs.Part.{has_mark, AreMarked}
use Rattle.nd_lent.specs.SplitItems.{lowest}
use Rattle.nd_lent.proofs.Laws.MemoryOrder.{index_in_memory}
use Rattle.nd_access.proofs.Laws.SliceOfPart.{mark_in_bounds, span_within}

-- ---- without an index
no_index : (shape index : List ℕ) → is_empty shape ≡ true → is_index shape index ≡ true → ⊥
no_index shape index none here = false≢true (sym (nonempty_from_index shape index here) ∙ none)

-- each layout fills an interval of no places
pub fills_none : (shape : List ℕ) (strides : List ℤ) → is_empty shape ≡ true → FillsInterval shape strides
fills_none shape strides none = record {
  least = pos 0;
  none_below = λ index here. absurd (no_index shape index none here);
  filled = λ k below. absurd (let empty = size_of_empty shape none in omega arith);
  distinct = λ index other here there same. absurd (no_index shape index none here);
}

-- and no mark is asked for
pub none_marked : (marks : List Bool) → IsTrue (are_within (span_of 0 0 marks) marks) × (0 + 0 ≤ length marks)
none_marked marks = (
  span_within 0 0 marks (λ k at below is. absurd (let no : ⊥ = omega arith in no)),
  omega arith,
)

-- ---- with one
module _ (view : View) (is_view : IsView view) (some : is_empty view.shape ≡ false) (fills : FillsInterval view.shape view.strides) where
  marked : (marks : List Bool) → AreMarked marks view → (k : ℕ) → k < size view.shape → get_or marks (lowest view + k) false ≡ true
  marked marks all k below =
      let found = index_in_memory view is_view some fills k below in
      subst (λ (at : ℤ). has_mark marks at ≡ true) found.2 (all found.0 found.1)

  -- each place from the lowest on has a mark, as many as there are indices
  pub range_marked : (start len : ℕ) → start ≡ lowest view → len ≡ size view.shape → (marks : List Bool) → AreMarked marks view
      → IsTrue (are_within (span_of start len marks) marks) × (start + len ≤ length marks)
  range_marked start len from many marks all =
      let first : 0 < size view.shape = size_of_nonempty view.shape some in
      let last = size view.shape - 1 in
      let within : lowest view + last < length marks =
      mark_in_bounds marks (lowest view + last) (marked marks all last (omega arith)) in (
        span_within start len marks (λ k at below is.
            let here : lowest view + k ≡ at = omega arith in
            subst (λ (place : ℕ). get_or marks place false ≡ true) here (marked marks all k (omega arith))),
        omega arith,
      )

-- ---- the items there
pub items_from : {T : Type 0} (array : ArrayValue T) (start len : ℕ) → (0 < len → start ≡ lowest array.view) → len ≡ size array.view.shape
    → take len (drop start array.items) ≡ items_in_memory_order array
items_from array start zero from many = ap (λ (n : ℕ). take n (drop (lowest array.view) array.items)) many
items_from array start (suc len) from many =
    ap (λ (at : ℕ). take (suc len) (drop at array.items)) (from (omega arith))
    ∙ ap (λ (n : ℕ). take n (drop (lowest array.view) array.items)) many
