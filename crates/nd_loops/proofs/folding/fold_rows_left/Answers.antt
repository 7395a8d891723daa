-- The items of one part after those of another are folded.
use Rattle.std.proofs.Common.{◌++◌, refl}
use Rattle.nd_access.specs.LentRow.{items_of_row, rows_items}
use Rattle.nd_access.proofs.Laws.Folding.{all_folded, both_called, callable_after, callable_in_part}
use Rattle.nd_loops.proofs.folding.fold_rows_left.Goals as goal

pub fold_end-total-requires : goal.fold_end-total-requires
fold_end-total-requires g c κs =
    let first = items_of_row c.args.left.0 in
    let rows = rows_items c.args.left.1 in
    let callable = callable_in_part (first ++ rows) (items_of_row c.args.left.2) c.requires.callable in
    ((refl, tt), callable_in_part first rows callable)

pub fold_all-total-requires : goal.fold_all-total-requires
fold_all-total-requires g c κs =
    let first = items_of_row c.args.left.0 in
    let rows = rows_items c.args.left.1 in
    let callable = callable_in_part (first ++ rows) (items_of_row c.args.left.2) c.requires.callable in
    ((refl, tt), callable_after {p = (c.args.f, c.args.init)} c.fold_end-total.ensures callable)

pub fold_end-requires : goal.fold_end-requires
fold_end-requires g c κs = (
  (refl, tt),
  callable_after {p = (c.args.f, c.args.init)}
      (both_called {p = (c.args.f, c.args.init)} c.fold_end-total.ensures c.fold_all-total.ensures) c.requires.callable,
)

pub returns : goal.returns
returns g c = record {
  ran = all_folded (both_called {p = (c.args.f, c.args.init)}
      (both_called {p = (c.args.f, c.args.init)} c.fold_end-total.ensures c.fold_all-total.ensures) c.fold_end.ensures);
}
