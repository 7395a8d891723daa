-- Slices that fit a view and share no index share no place.
use Rattle.std.proofs.Common.{rules, ◌≡◌, ◌<◌, ◌^◌, None, Some, map, sym, subst, ◌∙◌}
use Rattle.std.specs.List.{All}
use Rattle.std.specs.Result.{result_err}
use Rattle.ndarray_layout.specs.declared.Fit.TheVariants.{Strict}
use Rattle.ndarray_layout.specs.IntersectingPair.{IsIntersection}
use Rattle.ndarray_layout.proofs.Laws.View.{lens_fit}
use Rattle.nd_lent.specs.Slices.{view_slices_fault}
use Rattle.nd_lent.proofs.Laws.Faults.{view_slices_fit}
use Rattle.nd_lent.proofs.SlicesApart.{apart_in_place, fault_of_first, fault_of_sharing}
use Rattle.nd_lent.proofs.array_view_mut.slices.check_apart.Goals as goal

pub any_elems_intersection-requires : goal.any_elems_intersection-requires
any_elems_intersection-requires g c =
    let slices = map g.S.SliceElems.list c.args.slices.now in
    record {
      lens_fit = subst (All (λ len. len < 2 ^ 63)) (sym (c.slice-shape.ensures.list ∙ c.dim.ensures.list)) (lens_fit c.dim.ensures.is_view);
      fit = view_slices_fit c.args.fixed c.slice-shape.result.now slices (sym c.in_ok-check_slices_into.ensures);
    }

pub returns-in_err-check_slices_into-clause-fault : goal.returns-in_err-check_slices_into-clause-fault
returns-in_err-check_slices_into-clause-fault g c =
    let slices = map g.S.SliceElems.list c.args.slices.now in
    let kind = c.in_err-check_slices_into.field-0.0 in
    let same : result_err c.from_residual.result ≡ Some kind = search rules in
    fault_of_first c.args.fixed c.args.view.now.shape slices (result_err c.from_residual.result)
    (subst (λ shape. view_slices_fault Strict c.args.fixed shape slices ≡ Some kind) (c.slice-shape.ensures.list ∙ c.dim.ensures.list)
    (sym c.in_err-check_slices_into.ensures))
    same

pub returns-in-Some-clause-fault : goal.returns-in-Some-clause-fault
returns-in-Some-clause-fault g c =
    let slices = map g.S.SliceElems.list c.args.slices.now in
    let found = c.in-Some.field-0 in
    let at : c.slice-shape.result.now ≡ c.args.view.now.shape = c.slice-shape.ensures.list ∙ c.dim.ensures.list in
    fault_of_sharing c.args.fixed c.args.view.now.shape slices (Some c.from_kind.result)
    (subst (λ shape. view_slices_fault Strict c.args.fixed shape slices ≡ None) at (sym c.in_ok-check_slices_into.ensures)) (
      c.from_kind.ensures,
      (found.0, found.1, subst (λ shape. IsIntersection Strict shape slices (Some found)) at c.in-Some.ensures),
    )

pub returns-in-None : goal.returns-in-None
returns-in-None g c =
    let slices = map g.S.SliceElems.list c.args.slices.now in
    let at : c.slice-shape.result.now ≡ c.args.view.now.shape = c.slice-shape.ensures.list ∙ c.dim.ensures.list in
    let none = subst (λ shape. view_slices_fault Strict c.args.fixed shape slices ≡ None) at (sym c.in_ok-check_slices_into.ensures) in
    let apart = subst (λ shape. IsIntersection Strict shape slices None) at c.in-None.ensures in
    record {
      fault = fault_of_sharing c.args.fixed c.args.view.now.shape slices None none apart;
      fit = none;
      apart = apart_in_place slices c.dim.ensures.is_view c.requires
          (view_slices_fit c.args.fixed c.args.view.now.shape slices none) apart;
    }
