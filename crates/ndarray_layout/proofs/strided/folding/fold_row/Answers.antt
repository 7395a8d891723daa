-- One place more is handed to the function.
use Rattle.std.proofs.Common.{◌≡◌, ◌+ℤ◌, ◌*ℤ◌, pos, rules, refl, sym, ap, subst, ◌∙◌, arith}
use Rattle.std.proofs.lemmas.Fn.{called}
use Rattle.std.proofs.lemmas.Int.{ints}
use Rattle.std.proofs.lemmas.List.{take_all}
use Rattle.nd_base.specs.Signed.{signed}
use Rattle.ndarray_layout.specs.Folded.{HasFolded}
use Rattle.ndarray_layout.specs.Rows.{row_places}
use Rattle.ndarray_layout.proofs.RowSteps.{place_bounds, start_bound}
use Rattle.ndarray_layout.proofs.Laws.Folding.{IsItemAt, item_in_list, may_be_called, one_more_called, still_callable}
use Rattle.ndarray_layout.proofs.Laws.Rows.{get_or-row_places, length-row_places}
use Rattle.ndarray_layout.proofs.strided.folding.fold_row.Goals as goal

pub place_along_axis-requires-clause-first : goal.place_along_axis-requires-clause-first
place_along_axis-requires-clause-first g c =
    start_bound c.args.row.start c.args.row.stride c.args.row.len c.requires.in_bounds (omega arith)

pub place_along_axis-requires-clause-there : goal.place_along_axis-requires-clause-there
place_along_axis-requires-clause-there g c =
    let row = c.args.row in
    let stride : signed c.unsigned-stride.result ≡ row.stride = omega (arith, ints, c.unsigned-stride.ensures.back) in
    rw stride (place_bounds row.start row.stride row.len c.loop-coordinate.coordinate c.requires.in_bounds (omega arith))

pub f-total-requires : goal.f-total-requires
f-total-requires g c =
    let row = c.args.row in
    let i = c.loop-coordinate.coordinate in
    let stride : signed c.unsigned-stride.result ≡ row.stride = omega (arith, ints, c.unsigned-stride.ensures.back) in
    let here : pos c.place_along_axis.result ≡ pos row.start +ℤ (pos i *ℤ row.stride) =
    c.place_along_axis.ensures ∙ ap (λ s. pos row.start +ℤ (pos i *ℤ s)) stride in
    let at : IsItemAt (row_places row.start row.stride row.len) i (pos c.place_along_axis.result) =
    item_in_list (pos 0) (omega (arith, length-row_places row.start row.stride row.len))
    (get_or-row_places row.start row.stride row.len i (pos 0) (omega arith) ∙ sym here) in
    search (rules, may_be_called at c.loop-coordinate.invariant.callable)

pub loop-coordinate-preserved : goal.loop-coordinate-preserved
loop-coordinate-preserved g c =
    let row = c.args.row in
    let i = c.loop-coordinate.coordinate in
    let stride : signed c.unsigned-stride.result ≡ row.stride = omega (arith, ints, c.unsigned-stride.ensures.back) in
    let here : pos c.place_along_axis.result ≡ pos row.start +ℤ (pos i *ℤ row.stride) =
    c.place_along_axis.ensures ∙ ap (λ s. pos row.start +ℤ (pos i *ℤ s)) stride in
    let at : IsItemAt (row_places row.start row.stride row.len) i (pos c.place_along_axis.result) =
    item_in_list (pos 0) (omega (arith, length-row_places row.start row.stride row.len))
    (get_or-row_places row.start row.stride row.len i (pos 0) (omega arith) ∙ sym here) in
    let turn = called g.F.FnMut c.f-total.ensures refl in
    record {
      folded = one_more_called _ at turn c.loop-coordinate.invariant.folded;
      callable = still_callable _ at turn c.loop-coordinate.invariant.callable;
    }

pub returns : goal.returns
returns g c =
    let row = c.args.row in
    let loop = c.loop-coordinate in
    let count = length-row_places row.start row.stride row.len in
    subst (λ places. HasFolded pos g.F.FnMut (c.args.f, c.args.init) places (loop.f, loop.total))
    (take_all loop.coordinate (row_places row.start row.stride row.len) (omega (arith, count, c.loop-coordinate-test.false)))
    loop.invariant.folded
