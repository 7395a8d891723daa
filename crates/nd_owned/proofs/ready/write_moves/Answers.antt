-- The lengths of the elements are those of the shape, and the count of the next one is at its axis.
use Rattle.std.proofs.Common.{rules, ◌≡◌, ◌+◌, ◌-◌, ◌<◌, ◌^◌, ◌∷◌, ◌++◌, [], append_assoc, length, map, take, sym, ap, ◌∙◌, arith}
use Rattle.std.proofs.lemmas.Grind.{take-set_at}
use Rattle.std.proofs.lemmas.List.Elements.{All-rest, All-same}
use Rattle.ndarray_layout.specs.declared.Fit.TheVariants.{Strict}
use Rattle.ndarray_layout.specs.AxisElems.{axis_elems}
use Rattle.ndarray_layout.proofs.Laws.AxisElems.{lens_of_axis_elems}
use Rattle.ndarray_layout.proofs.Laws.SliceFault.{elements_of_no_fault}
use Rattle.nd_lent.proofs.Laws.Lists.{All-of_map}
use Rattle.nd_owned.specs.Moved.{moves_along}
use Rattle.nd_owned.proofs.ready.write_moves.Goals as goal

pub loop-axis-init : goal.loop-axis-init
loop-axis-init c =
    let shape = c.args.shape.now in
    let elems = c.args.elems.now in
    let all = axis_elems shape elems in
    let are : c.into_iter-axis-iterator.result.iter ≡ all = search rules in
    let counts = (elements_of_no_fault Strict shape elems c.requires.fits).0 in
    let fit = All-of_map (λ axis. axis.0) all (λ len. len < 2 ^ 63)
    (All-same (λ len. len < 2 ^ 63) (map (λ axis. axis.0) all) shape (lens_of_axis_elems shape elems counts) c.requires.lens_fit) in
    record {
      so_far = search rules;
      room = search rules;
      lens_fit = All-same (λ axis. axis.0 < 2 ^ 63) c.into_iter-axis-iterator.result.iter all are fit;
      fits = search rules;
    }

pub loop-axis-preserved : goal.loop-axis-preserved
loop-axis-preserved c =
    let steps = c.in-Some.ensures.steps in
    let before = c.loop-axis.invariant in
    let counts = c.loop-axis.counts in
    let axis = c.in-Some.axis in
    let count = c.in-Some.len - c.in_ok-range.range.end + 1 in
    let rest = c.next.new.self.iter in
    record {
      so_far =
          ap (λ xs. xs ++ map moves_along rest)
          (take-set_at counts axis c.next.new.self.count count (omega (arith, steps.1, steps.2))
          (omega (arith, before.room, steps.1, ap length steps.0)))
          ∙ append_assoc (take axis counts) (count ∷ []) (map moves_along rest)
          ∙ ap (λ range. take axis counts ++ (c.in-Some.len - range.1 + 1) ∷ map moves_along rest) c.in_ok-range.ensures.range
          ∙ ap (λ n. take n counts ++ moves_along (c.in-Some.len, c.in-Some.elem) ∷ map moves_along rest) steps.1
          ∙ ap (λ iter. take c.loop-axis.axis-iterator.count counts ++ map moves_along iter) (sym steps.0)
          ∙ before.so_far;
      room = search rules;
      lens_fit = All-rest (λ axis. axis.0 < 2 ^ 63) _ _ _ steps.0 before.lens_fit;
      fits = search rules;
    }
