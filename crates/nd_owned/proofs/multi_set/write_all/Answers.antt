-- The items of one more part are at their places, and those of the others are left.
use Rattle.std.proofs.Common.{◌≡◌, ◌+◌, ◌∷◌, length, drop, sym, ap, subst, ◌∙◌}
use Rattle.std.specs.List.{flat_map}
use Rattle.std.proofs.lemmas.List.{drop_all, drop_more}
use Rattle.ndarray_layout.specs.declared.Order.TheVariants.{RowMajor}
use Rattle.ndarray_layout.specs.View.{LiesWithin}
use Rattle.ndarray_layout.proofs.Laws.View.{places_lie_within}
use Rattle.nd_owned.specs.private.PickedView.{picked_places, view_of_picked}
use Rattle.nd_owned.specs.private.Written.{HasWritten}
use Rattle.nd_owned.proofs.Placed.{AreBoth, first_distinct, none_written, parts_written, second_distinct}
use Rattle.nd_owned.proofs.multi_set.write_all.Goals as goal

pub write-requires-clause-within : goal.write-requires-clause-within
write-requires-clause-within g c =
    subst (λ count. LiesWithin count (view_of_picked c.one-item.result.view)) (sym c.loop-one.auto.stored)
    (subst (λ one. LiesWithin (length c.args.stored.now) (view_of_picked one.view)) (sym c.one-item.is)
    (c.requires.in_bounds c.loop-one.one-index c.one-item.result c.loop-one-test.true))

pub loop-one-preserved : goal.loop-one-preserved
loop-one-preserved g c =
    let i = c.loop-one.one-index in
    let parts = c.args.parts.now in
    let one = c.one-item.result in
    let count = length c.args.stored.now in
    let first : drop i parts ≡ one ∷ drop (i + 1) parts =
    drop_more parts i one c.loop-one-test.true ∙ ap (λ next. next ∷ drop (i + 1) parts) (sym c.one-item.is) in
    let cut : AreBoth (flat_map (λ one. picked_places one.view) (drop i parts)) (picked_places one.view)
    (flat_map (λ one. picked_places one.view) (drop (i + 1) parts)) =
    record { are = ap (flat_map (λ one. picked_places one.view)) first } in
    record {
      distinct = λ distinct. second_distinct cut (c.loop-one.invariant.distinct distinct);
      written = λ distinct new others.
          let apart = c.loop-one.invariant.distinct distinct in
          c.loop-one.invariant.written distinct new
          (parts_written cut count
          (places_lie_within count RowMajor (view_of_picked one.view)
          (subst (λ one. LiesWithin count (view_of_picked one.view)) (sym c.one-item.is)
          (c.requires.in_bounds i one c.loop-one-test.true))) apart
          (record { are = ap (flat_map (λ one. one.items.now)) first }) (c.write.ensures (first_distinct cut apart)) others);
    }

pub returns : goal.returns
returns g c =
    let none = drop_all c.loop-one.one-index c.args.parts.now c.loop-one-test.false in
    λ distinct. c.loop-one.invariant.written distinct c.loop-one.stored
    (subst (λ left. HasWritten (flat_map (λ one. picked_places one.view) left) (flat_map (λ one. one.items.now) left) c.loop-one.stored
    c.loop-one.stored) (sym none) none_written)
