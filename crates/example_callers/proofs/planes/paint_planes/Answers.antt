-- Each plane has its index apart from the others', and all are the picture.
use Rattle.std.proofs.Common.{◌≡◌, ◌⊎◌, ◌<◌, ℕ, zero, suc, Option, List, [], ◌∷◌, length, get_or, refl, sym, subst, Some, inl, inr, arith}
use Rattle.std.specs.Prelude.{slice_index}
use Rattle.ndarray_layout.specs.IndexedView.{indexed_of}
use Rattle.ndarray_layout.specs.SharePlace.{SharePlace}
use Rattle.ndarray_layout.specs.View.{View}
use Rattle.ndarray_layout.proofs.Laws.CollapsedView.{coordinate_of_no_fault}
use Rattle.ndarray_layout.proofs.Laws.IndexedView.{Descends-indexed_of}
use Rattle.ndarray_layout.proofs.Laws.IsIndex.{coordinate_of_index}
use Rattle.nd_lent.proofs.Laws.OwnedViews.{owned_descendant}
use Rattle.nd_lent.proofs.Laws.PlanesWritten.{index_of_its_plane, plane_at, plane_written, planes_are_apart}
use Rattle.nd_lent.proofs.Laws.PartsWritten.{PartOf, parts_written}
use Rattle.example_callers.proofs.planes.paint_planes.Goals as goal

pub paint_three-requires-clause-green : goal.paint_three-requires-clause-green
paint_three-requires-clause-green c = owned_descendant (length c.args.pixels.now) c.in_ok-green.ensures.kept c.requires.owned

pub paint_three-requires-clause-blue : goal.paint_three-requires-clause-blue
paint_three-requires-clause-blue c = owned_descendant (length c.args.pixels.now) c.in_ok-blue.ensures.kept c.requires.owned

-- where both are planes
share_as_planes : {one other : View} (view : View) (j k : ℕ) → one ≡ indexed_of 2 j view → other ≡ indexed_of 2 k view
    → SharePlace one other → SharePlace (indexed_of 2 j view) (indexed_of 2 k view)
share_as_planes {one} view j k first second shared =
    subst (λ v. SharePlace v (indexed_of 2 k view)) first (subst (SharePlace one) second shared)

pub paint_three-requires-clause-red_and_green : goal.paint_three-requires-clause-red_and_green
paint_three-requires-clause-red_and_green c shared =
    planes_are_apart 2 c.args.view.now c.requires.owned.is_view 0 1 (sym c.in_ok-red.ensures.fault) (sym c.in_ok-green.ensures.fault)
    c.requires.owned.distinct (λ same. absurd (omega (arith, same)))
    (share_as_planes c.args.view.now 0 1 c.in_ok-red.ensures.indexed c.in_ok-green.ensures.indexed shared)

pub paint_three-requires-clause-red_and_blue : goal.paint_three-requires-clause-red_and_blue
paint_three-requires-clause-red_and_blue c shared =
    planes_are_apart 2 c.args.view.now c.requires.owned.is_view 0 2 (sym c.in_ok-red.ensures.fault) (sym c.in_ok-blue.ensures.fault)
    c.requires.owned.distinct (λ same. absurd (omega (arith, same)))
    (share_as_planes c.args.view.now 0 2 c.in_ok-red.ensures.indexed c.in_ok-blue.ensures.indexed shared)

pub paint_three-requires-clause-green_and_blue : goal.paint_three-requires-clause-green_and_blue
paint_three-requires-clause-green_and_blue c shared =
    planes_are_apart 2 c.args.view.now c.requires.owned.is_view 1 2 (sym c.in_ok-green.ensures.fault) (sym c.in_ok-blue.ensures.fault)
    c.requires.owned.distinct (λ same. absurd (omega (arith, same)))
    (share_as_planes c.args.view.now 1 2 c.in_ok-green.ensures.indexed c.in_ok-blue.ensures.indexed shared)

below_three : (i : ℕ) → i < 3 → (i ≡ 2) ⊎ ((i ≡ 1) ⊎ (i ≡ 0))
below_three zero below = inr (inr refl)
below_three (suc zero) below = inr (inl refl)
below_three (suc (suc zero)) below = inl refl
below_three (suc (suc (suc i))) below = absurd (omega (arith, below))

pub returns-clause-painted : goal.returns-clause-painted
returns-clause-painted c =
    let view : View = c.args.view.now in
    let is = c.requires.owned.is_view in
    let given : ℕ → Option ℕ = λ plane. Some (slice_index c.args.colour plane) in
    let new : List ℕ = c.paint_three.new.pixels in
    let of_red = sym c.in_ok-red.ensures.fault in
    let of_green = sym c.in_ok-green.ensures.fault in
    let of_blue = sym c.in_ok-blue.ensures.fault in
    let there = (coordinate_of_no_fault view.shape 2 0 of_red).0 in
    let done = c.paint_three.ensures in
    let planes : List PartOf = plane_at 2 view 2 ∷ plane_at 2 view 1 ∷ plane_at 2 view 0 ∷ [] in
    let blue = plane_written 2 view is given 2 done.2 of_blue c.in_ok-blue.ensures.indexed refl in
    let green = plane_written 2 view is given 1 done.3 of_green c.in_ok-green.ensures.indexed refl in
    let red = plane_written 2 view is given 0 done.4 of_red c.in_ok-red.ensures.indexed refl in
    parts_written (λ index. given (slice_index index 2)) view c.requires.owned.distinct planes c.args.pixels.now new (
      done.0,
      Descends-indexed_of 2 2 view is of_blue,
      blue,
      (done.1, Descends-indexed_of 2 1 view is of_green, green, (new, Descends-indexed_of 2 0 view is of_red, red, refl)),
    )
    (λ index here.
    let below = coordinate_of_index view.shape index 2 here there in
    elim (below_three (get_or index 2 0) (omega (arith, below, c.requires.planes))) [
      | inl at ↦ inl (index_of_its_plane 2 view is index 2 here there at)
      | inr more ↦ elim more [
        | inl at ↦ inr (inl (index_of_its_plane 2 view is index 1 here there at))
        | inr at ↦ inr (inr (inl (index_of_its_plane 2 view is index 0 here there at)))
      ]
    ])
