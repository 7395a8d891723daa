-- Two slices that share an index make the error.
use Rattle.std.proofs.Common.{◌≡◌, ◌<◌, ◌^◌, None, Some, map, sym, subst, ◌∙◌}
use Rattle.std.proofs.lemmas.Simd.{map-map}
use Rattle.std.specs.List.{All}
use Rattle.ndarray_layout.specs.declared.Fit.TheVariants.{Strict}
use Rattle.ndarray_layout.specs.IntersectingPair.{IsIntersection, slices_fault}
use Rattle.ndarray_layout.proofs.Laws.View.{lens_fit}
use Rattle.nd_owned.specs.MultiSet.{write_of}
use Rattle.nd_owned.proofs.multi_set.check_apart.Goals as goal

pub any_elems_intersection-requires : goal.any_elems_intersection-requires
any_elems_intersection-requires g c =
    let same = sym (c.slice.ensures.list ∙ c.dim.ensures.list) in
    let writes = c.args.writes.now in
    record {
      lens_fit = subst (All (λ len. len < 2 ^ 63)) same (lens_fit c.dim.ensures.is_view);
      fit = subst (λ shape. slices_fault Strict shape (map (λ pair. pair.0.items) writes) ≡ None) same
          (subst (λ slices. slices_fault Strict c.args.view.now.shape slices ≡ None)
          (map-map (λ write. write.slice) write_of writes) c.requires);
    }

pub returns-in-Some : goal.returns-in-Some
returns-in-Some g c =
    let writes = c.args.writes.now in
    let found = c.in-Some.field-0 in (
      c.from_kind.ensures,
      (
        found.0,
        found.1,
        subst (λ slices. IsIntersection Strict c.args.view.now.shape slices (Some found))
            (sym (map-map (λ write. write.slice) write_of writes))
            (subst (λ shape. IsIntersection Strict shape (map (λ pair. pair.0.items) writes) (Some found))
            (c.slice.ensures.list ∙ c.dim.ensures.list) c.in-Some.ensures),
      ),
    )

pub returns-in-None : goal.returns-in-None
returns-in-None g c =
    let writes = c.args.writes.now in
    subst (λ slices. IsIntersection Strict c.args.view.now.shape slices None) (sym (map-map (λ write. write.slice) write_of writes))
    (subst (λ shape. IsIntersection Strict shape (map (λ pair. pair.0.items) writes) None) (c.slice.ensures.list ∙ c.dim.ensures.list)
    c.in-None.ensures)
