-- Each place of the row is one more in the list.
use Rattle.std.proofs.Common.{◌≡◌, ◌*ℤ◌, ◌+ℤ◌, pos, map, [], ◌∷◌, ◌++◌, arith, ap, sym, ◌∙◌}
use Rattle.std.proofs.lemmas.Int.{ints}
use Rattle.std.proofs.lemmas.List.{map-append}
use Rattle.nd_base.specs.Signed.{signed}
use Rattle.ndarray_layout.specs.Rows.{row_places}
use Rattle.ndarray_layout.proofs.RowSteps.{appended, place_bounds, start_bound}
use Rattle.ndarray_layout.proofs.Laws.Rows.{row_more}
use Rattle.ndarray_layout.proofs.strided.places.push_row.Goals as goal

pub place_along_axis-requires-clause-first : goal.place_along_axis-requires-clause-first
place_along_axis-requires-clause-first c =
    start_bound c.args.row.start c.args.row.stride c.args.row.len c.requires.in_bounds (omega arith)

pub place_along_axis-requires-clause-there : goal.place_along_axis-requires-clause-there
place_along_axis-requires-clause-there c =
    let row = c.args.row in
    let stride : signed c.unsigned-stride.result ≡ row.stride = omega (arith, ints, c.unsigned-stride.ensures.back) in
    rw stride (place_bounds row.start row.stride row.len c.loop-i.i c.requires.in_bounds (omega arith))

pub loop-i-preserved : goal.loop-i-preserved
loop-i-preserved c =
    let row = c.args.row in
    let i = c.loop-i.i in
    let place = c.place_along_axis.result in
    let stride : signed c.unsigned-stride.result ≡ row.stride = omega (arith, ints, c.unsigned-stride.ensures.back) in
    let here = c.place_along_axis.ensures ∙ ap (λ s. pos row.start +ℤ (pos i *ℤ s)) stride in
    let pushed = ap (map pos) c.push_reserved.ensures.items ∙ map-append pos c.loop-i.places.items (place ∷ []) in
    let more = row_more row.start row.stride i ∙ ap (λ z. row_places row.start row.stride i ++ z ∷ []) (sym here) in
    record {
      items = appended (map pos c.args.places.items) (row_places row.start row.stride i) (pos place) pushed c.loop-i.invariant.items more;
      len = omega (arith, c.push_reserved.ensures.len, c.loop-i.invariant.len);
      capacity = c.push_reserved.ensures.capacity ∙ c.loop-i.invariant.capacity;
    }
