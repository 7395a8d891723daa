-- What is written descends from the layout that the view was made of.
use Rattle.std.proofs.Common.{rules, ap, w32, ◌∙◌}
use Rattle.std.proofs.lemmas.Int.{to_z-of_z}
use Rattle.ndarray_layout_c.specs.Arguments.{fit_named}
use Rattle.ndarray_layout_c.proofs.Kept.{of_same_view, returned_ok}
use Rattle.ndarray_layout_c.specs.Elements.{elems_named}
use Rattle.ndarray_layout_c.proofs.slices.nd_slice.Goals as goal

pub returns-in-Ok-clause-kept : goal.returns-in-Ok-clause-kept
returns-in-Ok-clause-kept c returned =
    let fit = c.fit_named-fit.ensures ∙ ap fit_named (to_z-of_z w32 c.args.fit (search rules)) in
    of_same_view (elems_named c.args.elems.now) c.in-Ok.ensures.view fit
    (c.write_slice.ensures.kept (returned_ok (search rules) returned))
