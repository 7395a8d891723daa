-- The closure is called where its function is.
use Rattle.std.proofs.Common.{refl, rules, subst, sym}
use Rattle.std.specs.Iterator.{CallableInFold, FoldsItems}
use Rattle.nd_access.specs.Lending.{lends}
use Rattle.nd_access.proofs.Laws.Folding.{folded_inside, may_fold_inside}
use Rattle.nd_lent.proofs.array_view.ArrayView.fold.Goals as goal

pub fold_rows-requires : goal.fold_rows-requires
fold_rows-requires g c κs = (
  (refl, tt),
  may_fold_inside g.F.FnMut _ (λ f. f.0) (λ s b x p. search rules) (λ s t b r x e. search rules) _
      (subst (λ items. CallableInFold lends g.F.FnMut items c.args.f c.args.init) (sym c.joined_rows-rows.ensures) c.requires.callable),
)

pub returns : goal.returns
returns g c = record {
  ran = subst (λ items. FoldsItems lends g.F.FnMut items c.args.f c.args.init c.fold_rows.result) c.joined_rows-rows.ensures
      (folded_inside g.F.FnMut _ (λ f. f.0) (λ s t b r x e. search rules) _ c.fold_rows.ensures);
}
