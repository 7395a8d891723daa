-- The axes are joined alike in the view and in each array beside it, so their rows are alike.
use Rattle.std.proofs.Common.{◌≡◌, ℕ, zero, suc, ◌+◌, ◌<◌, List, [], ◌∷◌, length, get_or, map, refl, sym, ap, subst, ◌∙◌, arith}
use Rattle.std.specs.List.{All}
use Rattle.std.proofs.lemmas.List.{get_or-drop}
use Rattle.ndarray_layout.specs.declared.Order.TheVariants.{RowMajor}
use Rattle.ndarray_layout.specs.Indices.{indices_in}
use Rattle.ndarray_layout.specs.JoinedInAll.{IsJoined}
use Rattle.ndarray_layout.specs.Rows.{rows_places}
use Rattle.ndarray_layout.specs.Signed.{all_signed}
use Rattle.ndarray_layout.specs.Size.{size}
use Rattle.ndarray_layout.specs.ValidLayout.{IsValidLayout}
use Rattle.ndarray_layout.specs.View.{View, view_places}
use Rattle.ndarray_layout.proofs.Laws.View.{length-view_places}
use Rattle.nd_loops.proofs.RowsBeside.{view_of_lists}
use Rattle.nd_loops.proofs.zipping.rows_beside.Given.{Over}
use Rattle.nd_loops.proofs.zipping.rows_beside.Goals as goal
use Rattle.nd_loops.proofs.zipping.rows_beside.Goals.{After-slice-strides, After-rows_along-rows}

lens : (g : Over) (c : After-slice-strides g) → c.slice-lens.result.now ≡ c.args.view.now.shape
lens g c = c.slice-lens.ensures.list ∙ c.dim.ensures.list

pub joined_in_each-joined-requires-clause-valid : goal.joined_in_each-joined-requires-clause-valid
joined_in_each-joined-requires-clause-valid g c =
    let at = (goal.at.joined_in_each-joined-requires-clause-valid g c).After-slice-strides in
    let these = c.slice-lens.result.now in
    let others = g.C.Beside.layouts c.args.beside in
    let first : IsValidLayout these (all_signed c.slice-strides.result.now) =
    subst (λ (view : View). IsValidLayout view.shape view.strides)
    (sym (view_of_lists c.args.view.now c.slice-strides.result.now refl (lens g at)
    (ap all_signed c.slice-strides.ensures.list ∙ c.strides.ensures.list)))
    c.dim.ensures.is_view.valid in
    let valid = c.count.ensures.valid these (subst (g.C.Beside.have_shape c.args.beside) (sym (lens g at)) c.requires.shape) in
    λ number here. each these c.slice-strides.result.now others first valid number
    (omega (arith, here, c.split_at_mut-along.ensures.front_len, c.count.ensures.count))
  where
    each : (lens first : List ℕ) (others : List (List ℕ)) → IsValidLayout lens (all_signed first)
        → All (λ strides. IsValidLayout lens (all_signed strides)) others → (number : ℕ) → number < length others + 1
        → IsValidLayout lens (all_signed (get_or (first ∷ others) number []))
    each lens first others valid all zero here = valid
    each lens first others valid all (suc number) here = all number [] (omega (arith, here))

pub into_rows-requires-clause-joined : goal.into_rows-requires-clause-joined
into_rows-requires-clause-joined g c = λ number here.
    let along = c.joined_in_each-joined.new.joined in
    let others = g.C.Beside.layouts c.args.beside in
    let joined = c.joined_in_each-joined.result in
    let next : suc number ≡ 1 + number = omega arith in
    let at : get_or along (suc number) 0 ≡ get_or c.split_at.result.1.now number 0 =
    ap (λ n. get_or along n 0) next
    ∙ sym (get_or-drop 1 along number 0) ∙ ap (λ items. get_or items number 0) (sym c.split_at.ensures.back) in
    subst (IsJoined RowMajor c.slice-lens.result.now (get_or others number []) joined.0 joined.1) at
    (c.joined_in_each-joined.ensures.joined (suc number) (omega (
      arith,
      here,
      c.joined_in_each-joined.ensures.written,
      c.split_at_mut-along.ensures.front_len,
      c.count.ensures.count,
    )))

places : (g : Over) (c : After-rows_along-rows g) → rows_places c.rows_along-rows.result ≡ view_places RowMajor c.args.view.now
places g c =
    c.rows_along-rows.ensures.places
    ∙ ap (view_places RowMajor) (view_of_lists c.args.view.now c.slice-strides.result.now c.start.ensures.place
    (c.slice-lens.ensures.list ∙ c.dim.ensures.list) (ap all_signed c.slice-strides.ensures.list ∙ c.strides.ensures.list))

pub returns-clause-places : goal.returns-clause-places
returns-clause-places g c = places g (goal.at.returns-clause-places g c).After-rows_along-rows

pub returns-clause-values : goal.returns-clause-values
returns-clause-values g c =
    let at = goal.at.returns-clause-values g c in
    let same = lens g at.After-slice-strides in
    c.into_rows.ensures.values c.rows_along-rows.result c.rows_along-rows.ensures.lens
    (ap length (places g at.After-rows_along-rows) ∙ length-view_places RowMajor c.args.view.now ∙ ap size (sym same))
    ∙ ap (λ lens. map (g.C.Beside.at c.args.beside) (indices_in RowMajor lens)) same
