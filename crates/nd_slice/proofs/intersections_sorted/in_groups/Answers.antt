-- One more cut, on an axis that may have cut them before.
use Rattle.std.proofs.Common.{IfSome, map, sym, subst, arith}
use Rattle.std.specs.List.{All}
use Rattle.std.specs.List.Sorted.{IsPermutation}
use Rattle.std.proofs.lemmas.List.Sorted.{IsPermutation-trans}
use Rattle.nd_slice.specs.SlicesInGroups.{AreApartAcross, AreInGroups, HasNoFault, named}
use Rattle.nd_slice.proofs.SlicesInGroups.{fit_moved}
use Rattle.nd_slice.proofs.intersections_sorted.in_groups.Goals as goal
use Rattle.nd_slice.proofs.intersections_sorted.in_groups.Goals.{then-last_group-last, else-last_group-last}
use Rattle.nd_slice.proofs.intersections_sorted.in_groups.Goals.{else-loop-turn-test, then-loop-turn-test+in_ok-cut+in-Some+then-idle-shape}

pub cut_on_axis-requires-clause-fits : goal.cut_on_axis-requires-clause-fits
cut_on_axis-requires-clause-fits c =
    subst (All (HasNoFault c.args.fit c.args.shape.now)) (sym c.as_slice-in-loop-turn.ensures.value) c.loop-turn.invariant.fits

pub loop-turn-preserved : goal.loop-turn-preserved
loop-turn-preserved c =
    let fit = c.args.fit in
    let shape = c.args.shape.now in
    let old = c.loop-turn.new.items in
    let new = c.in-Some.cut.items in
    let moved : IsPermutation (map named old) (map named new) =
    subst (λ xs. IsPermutation (map named xs) (map named new)) c.as_slice-in-loop-turn.ensures.value
    (subst (λ found. IfSome found (λ cut. IsPermutation (map named c.as_slice-in-loop-turn.result.now) (map named cut.items)))
    c.in-Some.is c.in_ok-cut.ensures.named) in
    record {
      named = IsPermutation-trans (map named c.args.items.items) (map named old) (map named new) c.loop-turn.invariant.named moved;
      fits = fit_moved fit shape old new moved c.loop-turn.invariant.fits;
      in_order = subst (λ found. IfSome found (λ cut. AreInGroups cut.items)) c.in-Some.is c.in_ok-cut.ensures.in_order;
      apart = subst (λ found. IfSome found (λ cut. AreApartAcross fit shape cut.items)) c.in-Some.is c.in_ok-cut.ensures.apart;
      idle = elim c.if-last_group-last.branch [
        | then-last_group-last w ↦ omega (arith, w.idle-is, c.loop-turn.invariant.idle)
        | else-last_group-last w ↦ omega (arith, w.idle-is)
      ];
    }

pub returns-clause-named : goal.returns-clause-named
returns-clause-named c =
    let first = c.args.items.items in
    let old = c.loop-turn.new.items in
    elim c.loop-turn-test.branch [
      | else-loop-turn-test w ↦
          subst (λ new. IsPermutation (map named first) (map named new.items)) (sym w.new-is) c.loop-turn.invariant.named
      | then-loop-turn-test+in_ok-cut+in-Some+then-idle-shape w ↦
          subst (λ new. IsPermutation (map named first) (map named new.items)) (sym w.new-is)
          (IsPermutation-trans (map named first) (map named old) (map named w.in-Some.cut.items) c.loop-turn.invariant.named
          (subst (λ xs. IsPermutation (map named xs) (map named w.in-Some.cut.items)) w.as_slice-in-loop-turn.ensures.value
          (subst (λ found. IfSome found (λ cut. IsPermutation (map named w.as_slice-in-loop-turn.result.now) (map named cut.items)))
          w.in-Some.is w.in_ok-cut.ensures.named)))
    ]
