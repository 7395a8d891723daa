-- There is an element for each axis, whose length is that of a view.
use Rattle.std.proofs.Common.{◌≡◌, ◌<◌, ◌^◌, ℕ, None, length, sym, ap, subst, ◌∙◌, arith}
use Rattle.std.specs.List.{All}
use Rattle.std.proofs.lemmas.List.{length-map, length-replicate}
use Rattle.ndarray_layout.specs.declared.Fit.TheVariants.{Strict}
use Rattle.ndarray_layout.specs.AxisElems.{axis_elems}
use Rattle.ndarray_layout.specs.SliceFault.{argument_fault}
use Rattle.ndarray_layout.proofs.Laws.AxisElems.{lens_of_axis_elems}
use Rattle.ndarray_layout.proofs.Laws.SliceFault.{elements_of_no_fault}
use Rattle.ndarray_layout.proofs.Laws.View.{lens_fit}
use Rattle.nd_owned.proofs.ready.moves_of.Goals as goal

pub write_moves-requires : goal.write_moves-requires
write_moves-requires g c =
    let shape = c.slice-shape.result.now in
    let elems = c.args.elems.now in
    let same : shape ≡ c.args.view.now.shape = c.slice-shape.ensures.list ∙ c.dim.ensures.list in
    let fits : argument_fault Strict shape elems ≡ None =
    subst (λ shape. argument_fault Strict shape elems ≡ None) (sym same) c.requires in
    record {
      lens_fit = subst (All (λ len. len < 2 ^ 63)) (sym same) (lens_fit c.dim.ensures.is_view);
      fits = fits;
      room = omega (
        arith,
        ap length c.slice_mut.ensures.list,
        ap length c.in_ok-counts.ensures.list,
        length-replicate {A = ℕ} (length shape) 0,
        length-map (axis_elems shape elems) (λ axis. axis.0),
        ap length (lens_of_axis_elems shape elems (elements_of_no_fault Strict shape elems fits).0),
      );
    }
