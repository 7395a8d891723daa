-- The slices are sorted by their groups and by where they begin, and are cut there.
use Rattle.std.proofs.Common.{◌≡◌, IfSome, rules, sym, subst, map}
use Rattle.std.proofs.lemmas.Fn.{always_returns_same}
use Rattle.std.specs.List.{All}
use Rattle.std.specs.List.Sorted.{IsPermutation}
use Rattle.nd_slice.specs.SlicesInGroups.{AreSorted, IsOnAxis, kept}
use Rattle.nd_slice.proofs.SlicesInGroups.{AreCut, apart_in_cut, key_of, named_moved, sorted_by_key}
use Rattle.nd_slice.proofs.slices_in_groups.cut_along.Goals as goal
use Rattle.nd_slice.proofs.slices_in_groups.cut_along.Goals.{After-drop-new-2}

pub cut-requires : goal.cut-requires
cut-requires c =
    subst AreSorted (sym c.as_slice.ensures.value)
    (sorted_by_key c.sort_unstable_by_key.new.self.items
    (c.sort_unstable_by_key.ensures.sorted key_of (always_returns_same _ _ _ (λ a r f h. search rules))))

are_cut : (c : After-drop-new-2)
    → AreCut c.args.fit c.args.shape.now c.args.axis c.args.by c.args.items.now c.in-Some.new.items c.as_slice.result.now
    c.in_ok-cut.field-0.items
are_cut c = record {
  kept_is = subst (λ found. IfSome found (λ new. map kept new.items ≡ map kept c.args.items.now)) c.in-Some.is c.in_ok-new.ensures.kept;
  on_axis = subst (λ found. IfSome found (λ new. All (IsOnAxis c.args.fit c.args.shape.now c.args.axis c.args.by) new.items)) c.in-Some.is
      c.in_ok-new.ensures.on_axis;
  moved = subst (IsPermutation c.in-Some.new.items) (sym c.as_slice.ensures.value) c.sort_unstable_by_key.ensures.permutation;
  named_is = c.in_ok-cut.ensures.named;
  is_cut = c.in_ok-cut.ensures.cut;
}

pub returns-clause-named : goal.returns-clause-named
returns-clause-named c =
    named_moved c.args.fit c.args.shape.now c.args.axis c.args.by c.args.items.now c.in-Some.new.items c.as_slice.result.now
    c.in_ok-cut.field-0.items (are_cut c)

pub returns-clause-apart : goal.returns-clause-apart
returns-clause-apart c =
    apart_in_cut c.args.fit c.args.shape.now c.args.axis c.args.by c.args.items.now c.in-Some.new.items c.as_slice.result.now
    c.in_ok-cut.field-0.items (are_cut c) c.requires.fits c.requires.apart
