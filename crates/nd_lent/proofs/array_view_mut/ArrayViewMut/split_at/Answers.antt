use Rattle.ndarray_layout.specs.SplitView.{second_part_of, second_source}
use Rattle.nd_access.specs.Part.{IsPart}
use Rattle.nd_lent.specs.SplitItems.{ShowsPartOf}
use Rattle.std.proofs.Common.{sym, subst}
use Rattle.nd_access.proofs.Laws.Marks.{part_beside, part_descendant}
use Rattle.ndarray_layout.specs.SharePlace.{SharePlace}
use Rattle.ndarray_layout.proofs.Laws.SplitView.{parts_are_apart}
use Rattle.nd_lent.proofs.Steps.{shown}
use Rattle.nd_lent.proofs.array_view_mut.ArrayViewMut.split_at.Goals as goal

pub take_view-one-requires : goal.take_view-one-requires
take_view-one-requires g c = part_descendant c.args.self.cells.marks c.in_ok-first.ensures.first_kept c.args.self.part

pub invariant_of-result : goal.invariant_of-result
invariant_of-result g c = record { part = c.take_view-one.ensures.part }

pub invariant_of-result-2 : goal.invariant_of-result-2
invariant_of-result-2 g c =
    let marks = c.args.self.cells.marks in
    let whole = c.args.self.part in
    record {
      part = subst (λ left. IsPart left c.in_ok-first.second) (sym c.take_view-one.ensures.left)
          (part_beside marks c.in_ok-first.first c.in_ok-first.second (part_descendant marks c.in_ok-first.ensures.first_kept whole)
          (part_descendant marks c.in_ok-first.ensures.second_kept whole) (λ shared.
          parts_are_apart c.args.axis.0 c.args.index c.args.self.view whole.is_view (sym c.in_ok-first.ensures.fault) whole.distinct
          (subst (λ one. SharePlace one (second_part_of c.args.axis.0 c.args.index c.args.self.view)) c.in_ok-first.ensures.first
          (subst (SharePlace c.in_ok-first.first) c.in_ok-first.ensures.second shared))));
    }

pub returns-clause-first_items : goal.returns-clause-first_items
returns-clause-first_items g c =
    let items = c.args.self.cells.items in
    subst (λ now. ShowsPartOf (λ coordinates. coordinates) (record { items = items; view = c.args.self.view })
    (record { items = now; view = c.in_ok-first.first })) (sym c.take_view-one.ensures.items)
    (shown items c.in_ok-first.ensures.first_kept).shown

pub returns-clause-second_items : goal.returns-clause-second_items
returns-clause-second_items g c =
    let items = c.args.self.cells.items in
    subst (λ now. ShowsPartOf (second_source c.args.axis.0 c.args.index) (record { items = items; view = c.args.self.view })
    (record { items = now; view = c.in_ok-first.second })) (sym c.take_view-one.ensures.kept)
    (shown items c.in_ok-first.ensures.second_kept).shown
