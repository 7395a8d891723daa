-- The closure is called where its function is.
use Rattle.std.proofs.Common.{refl, rules}
use Rattle.nd_access.specs.LentRow.{rows_items}
use Rattle.nd_access.proofs.Laws.Folding.{folded_inside, may_fold_inside}
use Rattle.nd_lent.proofs.array_view.ArrayView.fold_nearest.Goals as goal

pub fold_rows-requires : goal.fold_rows-requires
fold_rows-requires g c κs = (
  (refl, tt),
  may_fold_inside g.F.FnMut _ (λ f. f.0) (λ s b x p. search rules) (λ s t b r x e. search rules) _
      (c.requires.callable (rows_items c.rows_in-rows.result) c.rows_in-rows.ensures),
)

pub returns : goal.returns
returns g c = record {
  ran = (
    rows_items c.rows_in-rows.result,
    c.rows_in-rows.ensures,
    folded_inside g.F.FnMut _ (λ f. f.0) (λ s t b r x e. search rules) _ c.fold_rows.ensures,
  );
}
