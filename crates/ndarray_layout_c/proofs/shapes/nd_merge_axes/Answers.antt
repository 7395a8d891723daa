-- What is written where axes are merged descends from the layout, wherever it starts.
use Rattle.std.proofs.Common.{rules, ap, cond, sym, w32, ◌∙◌}
use Rattle.std.proofs.lemmas.Int.{to_z-of_z}
use Rattle.ndarray_layout.specs.Merge.{merged_shape, merged_strides}
use Rattle.ndarray_layout_c.proofs.Kept.{merge_kept}
use Rattle.ndarray_layout_c.proofs.shapes.nd_merge_axes.Goals as goal

pub returns-clause-kept : goal.returns-clause-kept
returns-clause-kept c returned one =
    let shape = c.args.shape.now in
    let strides = c.args.strides.now in
    let take = c.args.take in
    let into = c.args.into in
    let merged = c.answer_of.ensures.yes.0 (sym (to_z-of_z w32 c.answer_of.result (search rules)) ∙ one) in
    merge_kept strides c.merge_fitting.new.strides take into (search rules) (c.merge_fitting.ensures.fits.0 merged)
    (c.merge_fitting.ensures.shape ∙ ap (λ is. cond is (merged_shape take into shape) shape) merged)
    (c.merge_fitting.ensures.strides ∙ ap (λ is. cond is (merged_strides take into shape strides) strides) merged)
