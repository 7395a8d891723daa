-- What is cut by remainders is cut by ranges too.
use Rattle.std.proofs.Common.{IfSome, None, Option, Some, map, subst, sym, List}
use Rattle.std.specs.List.Sorted.{IsPermutation}
use Rattle.std.proofs.lemmas.List.Sorted.{IsPermutation-trans}
use Rattle.std.proofs.lemmas.Result.{IfOk-weaker}
use Rattle.nd_slice.specs.SlicesInGroups.{named}
use Rattle.nd_slice.specs.declared.slices_in_groups.Grouped.{Grouped}
use Rattle.nd_slice.proofs.SlicesInGroups.{fit_moved}
use Rattle.nd_slice.proofs.slices_in_groups.cut_on_axis.Goals as goal
use Rattle.nd_slice.proofs.slices_in_groups.cut_on_axis.Goals.{After-as_slice}

moved : (c : After-as_slice) → IsPermutation (map named c.args.items.now) (map named c.as_slice.result.now)
moved c =
    subst (λ xs. IsPermutation (map named c.args.items.now) (map named xs)) (sym c.as_slice.ensures.value)
    (subst (λ found. IfSome found (λ new. IsPermutation (map named c.args.items.now) (map named new.items))) c.in-Some.is
    c.in_ok-classes.ensures.named)

pub cut_along-requires-in-Some-clause-fits : goal.cut_along-requires-in-Some-clause-fits
cut_along-requires-in-Some-clause-fits c =
    let at = (goal.at.cut_along-requires-in-Some-clause-fits c).After-as_slice in
    fit_moved c.args.fit c.args.shape.now c.args.items.now c.as_slice.result.now (moved at) c.requires.fits

further : {V : Type 0} (items_of : V → List Grouped) (items classes : List Grouped) (found : Option V)
    → IsPermutation (map named items) (map named classes)
    → IfSome found (λ new. IsPermutation (map named classes) (map named (items_of new)))
    → IfSome found (λ new. IsPermutation (map named items) (map named (items_of new)))
further items_of items classes None first second = tt
further items_of items classes (Some new) first second =
    IsPermutation-trans (map named items) (map named classes) (map named (items_of new)) first second

pub returns-in-Some-clause-named : goal.returns-in-Some-clause-named
returns-in-Some-clause-named c =
    let at = (goal.at.returns-in-Some-clause-named c).After-as_slice in
    IfOk-weaker c.cut_along-in-Some.result _ _
    (λ found second. further (λ v. v.items) c.args.items.now c.as_slice.result.now found (moved at) second)
    c.cut_along-in-Some.ensures.named
