-- At first the upper half waits, each pixel is swapped with the mirrored one, and in the end none waits.
use Rattle.std.proofs.Common.{rules, ◌≡◌, ◌-◌, ◌∙◌, List, [], ◌∷◌, ℕ, length, get_or, set, ◌/◌, sym, ap, subst, refl, arith}
use Rattle.ndarray_layout.specs.declared.Order.TheVariants.{RowMajor}
use Rattle.ndarray_layout.specs.Indices.{indices_in}
use Rattle.ndarray_layout.specs.InvertedView.{invert_source}
use Rattle.nd_lent.proofs.Laws.FlippedItems.{IsFlippedBut, all_flipped, coordinate_of_next, none_flipped, one_flipped}
use Rattle.nd_lent.specs.HasItems.{with_swapped}
use Rattle.nd_owned.specs.Lent.{array_of}
use Rattle.example_callers.proofs.flips.swap_rows.Goals as goal

pub loop-row-init : goal.loop-row-init
loop-row-init c =
    let view = c.args.picture.now.view in
    let rows : ℕ = c.into_pattern-rows.result.0 in
    let columns : ℕ = c.into_pattern-rows.result.1 in
    let is : view.shape ≡ rows ∷ columns ∷ [] = search rules in
    let upper : c.into_iter-row-iterator.result ≡ indices_in RowMajor (rows / 2 ∷ columns ∷ []) = search rules in
    record {
      flipped = none_flipped 0 view c.strided.ensures.owned.is_view (omega (arith, ap length is)) (array_of c.args.picture.now).items
          c.into_iter-row-iterator.result
          (upper ∙ ap (λ (shape : List ℕ). indices_in RowMajor (set shape 0 (get_or shape 0 0 / 2))) (sym is));
      same_right = refl;
    }

pub overflow_sub-rows : goal.overflow_sub-rows
overflow_sub-rows c =
    let is : c.args.picture.now.view.shape ≡ c.into_pattern-rows.result.0 ∷ c.into_pattern-rows.result.1 ∷ [] = search rules in
    let next : c.loop-row.row-iterator ≡ (c.in-Some.row ∷ c.in-Some.column ∷ []) ∷ c.next.new.self = search rules in
    omega (
      arith,
      coordinate_of_next 0 c.loop-row.invariant.flipped.turned next (omega (arith, ap length is)),
      ap (λ (shape : List ℕ). get_or shape 0 0) is,
    )

pub overflow_sub-rows-in-loop-row : goal.overflow_sub-rows-in-loop-row
overflow_sub-rows-in-loop-row c =
    let is : c.args.picture.now.view.shape ≡ c.into_pattern-rows.result.0 ∷ c.into_pattern-rows.result.1 ∷ [] = search rules in
    let next : c.loop-row.row-iterator ≡ (c.in-Some.row ∷ c.in-Some.column ∷ []) ∷ c.next.new.self = search rules in
    omega (
      arith,
      coordinate_of_next 0 c.loop-row.invariant.flipped.turned next (omega (arith, ap length is)),
      ap (λ (shape : List ℕ). get_or shape 0 0) is,
    )

pub loop-row-preserved : goal.loop-row-preserved
loop-row-preserved c =
    let old = array_of c.args.picture.now in
    let now = array_of c.loop-row.picture in
    let row : ℕ = c.in-Some.row in
    let index : List ℕ = row ∷ c.in-Some.column ∷ [] in
    let is : old.view.shape ≡ c.into_pattern-rows.result.0 ∷ c.into_pattern-rows.result.1 ∷ [] = search rules in
    let next : c.loop-row.row-iterator ≡ index ∷ c.next.new.self = search rules in
    record {
      flipped = one_flipped (invert_source 0 old.view.shape) old now (array_of c.swap.new.self) index c.next.new.self
          c.strided.ensures.owned
          (subst (λ left. IsFlippedBut (invert_source 0 old.view.shape) left old now) next c.loop-row.invariant.flipped)
          (c.swap.ensures.swapped
          ∙ ap (λ (shape : List ℕ). with_swapped now index ((get_or shape 0 0 - 1 - row) ∷ c.in-Some.column ∷ [])) (sym is));
      same_right = search rules;
    }

pub returns-clause-flipped : goal.returns-clause-flipped
returns-clause-flipped c =
    let old = array_of c.args.picture.now in
    let now = array_of c.loop-row.picture in
    let none : c.loop-row.row-iterator ≡ [] = search rules in
    all_flipped (invert_source 0 old.view.shape) old now
    (subst (λ left. IsFlippedBut (invert_source 0 old.view.shape) left old now) none c.loop-row.invariant.flipped)
