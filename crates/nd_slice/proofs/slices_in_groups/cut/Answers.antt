-- One more slice, in a group that begins with it or in that of the last one.
use Rattle.std.proofs.Common.{◌≡◌, ◌+◌, ◌++◌, ◌≤◌, [], ◌∷◌, inl, inr, length, map, take, get_or, ap, sym, subst, refl, ◌∙◌, arith}
use Rattle.std.proofs.lemmas.List.{length-map, length-take-le, map_more, map_push}
use Rattle.nd_slice.specs.SlicesInGroups.{end_at, group_at, named, start_at}
use Rattle.nd_slice.specs.declared.slices_in_groups.Grouped.{Grouped}
use Rattle.nd_slice.proofs.GroupsCut.{CutSoFar}
use Rattle.nd_slice.proofs.SlicesInGroups.{begin_group, is_item, nothing, stay_in_group}
use Rattle.nd_slice.proofs.slices_in_groups.cut.Goals as goal
use Rattle.nd_slice.proofs.slices_in_groups.cut.Goals.{then-item-last, then-item-last-via-then-item-last}
use Rattle.nd_slice.proofs.slices_in_groups.cut.Goals.{then-item-last-via-else-item-last+then-reach-item, else-item-last+else-reach-item}

pub loop-item-preserved : goal.loop-item-preserved
loop-item-preserved c =
    let items = c.args.items.now in
    let old = c.loop-item.cut.items in
    let i = c.loop-item.item-index in
    let one = get_or items i nothing in
    let item : Grouped = record {
      group = c.if-item-last.group;
      start = one.start;
      end = one.end;
      position = one.position;
      elems = one.elems;
    } in
    let pushed : c.push.new.self.items ≡ old ++ item ∷ [] = c.in_ok-push.ensures.items in
    let so_far = c.loop-item.invariant in
    let count : length old ≡ i =
    sym (length-map old named) ∙ ap length so_far.named ∙ length-map (take i items) named
    ∙ length-take-le i items (omega (arith, c.loop-item-test.true)) in
    let far = c.max-reach.result in
    let is = is_item items i nothing c.loop-item-test.true in
    let reaches : one.end ≤ far = omega (arith, c.max-reach.ensures) in
    record {
      named = ap (map named) pushed ∙ map_push named old item ∙ ap (λ ns. ns ++ named one ∷ []) so_far.named
          ∙ sym (map_more named items i nothing c.loop-item-test.true);
      few = elim c.if-item-last.branch [
        | then-item-last w ↦ omega (arith, w.group-is, so_far.few)
        | else-item-last+else-reach-item w ↦ omega (arith, w.group-is, so_far.few)
      ];
      cut = subst (λ xs. CutSoFar (group_at items) (start_at items) (end_at items) (length items) (i + 1) (group_at xs)
          c.if-item-last.group c.if-item-last.last far) (sym pushed) (elim c.if-item-last.branch [
            | then-item-last w ↦ begin_group items old i item count c.requires c.loop-item.group c.loop-item.last c.loop-item.reach
                one.group one.start one.end far so_far.cut is reaches
                (elim w.then-item-last.branch [
                  | then-item-last-via-then-item-last v ↦ inl v.if-item-last.true
                  | then-item-last-via-else-item-last+then-reach-item v ↦ inr v.if-reach-item.true
                ]) c.if-item-last.group c.if-item-last.last w.group-is w.last-is refl
            | else-item-last+else-reach-item w ↦
                stay_in_group items old i item count c.requires c.loop-item.group c.loop-item.last c.loop-item.reach
                one.group one.start one.end far so_far.cut is reaches w.if-item-last.false
                (omega (arith, w.reach-is, c.max-reach.ensures)) c.if-item-last.group c.if-item-last.last w.group-is w.last-is refl
          ]);
    }
